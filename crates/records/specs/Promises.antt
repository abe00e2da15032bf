-- What each public function promises, under a name: its answer, or the whole of the bytes that it leaves. The functions' contracts and the theorems
-- of proofs/Unique.antt are over these same names.
-- Assumes nothing.
use Rattle.std.specs.Prelude.{ℕ, ◌≡◌, Bool, List, [], ◌∷◌, Option, Result, Ok, Err}
use Rattle.std.proofs.lemmas.List.Edits.{sets}
use Rattle.format.specs.Words.{bytes}
use Rattle.format.specs.Spots as spots
use Rattle.format.specs.Spots.{legal_value}
use Rattle.ledger.specs.Records as records
use Rattle.ledger.specs.Records.{entry_of, entry_bytes}
use Rattle.ledger.specs.Calls.{record_answer, entry_answer, restore_exit}
use Rattle.ledger.specs.Judged.{judged_at}
use Rattle.ledger.specs.Formats.{size}
use Rattle.ledger.specs.VersionTwo.{version_two}
use Rattle.ledger.specs.Versions.{format_for, format_in}
use Rattle.ledger.specs.PlaneFrames.{plane_frames}
use Rattle.book.specs.declared.items.Header as items
use Rattle.book.specs.declared.refusal.Refusal.{Refusal}
use Rattle.records.specs.declared.answers.Header.{Header}
use Rattle.records.specs.declared.answers.SpotKind.{SpotKind}
use Rattle.records.specs.declared.answers.NoKind.{NoKind}
use Rattle.records.specs.declared.answers.Spot.{Spot}
use Rattle.records.specs.declared.answers.Record.{Record}
use Rattle.records.specs.declared.answers.Judged.{Judged}
use Rattle.records.specs.declared.answers.Entry.{Entry}
use Rattle.records.specs.Views.{view_spot_kind, view_spot, view_record, view_judged, as_entry, view_entry}
use Rattle.records.specs.Stored.{stored}

-- ---- the questions

-- what stands at word w of a frame
abbrev pub SpotTold : List ℕ → ℕ → Option Spot → Type 0
SpotTold f w r = view_spot r ≡ spots.spot f w

-- whether a buffer begins with a record of the version that its first word names, and of what lengths and count
abbrev pub Recorded : List ℕ → Result Record Refusal → Type 0
Recorded b r = view_record r ≡ record_answer plane_frames (format_in b) b

-- the same, and what stands at word w of its frame
abbrev pub JudgedTo : List ℕ → ℕ → Result Judged Refusal → Type 0
JudgedTo b w r = view_judged r ≡ judged_at plane_frames (format_in b) b w

-- entry j of a record
abbrev pub EntryTold : List ℕ → ℕ → Result Entry Refusal → Type 0
EntryTold b j r = view_entry r ≡ entry_answer plane_frames (format_in b) b j

-- the record question, and restoring to k into a second buffer
pub record RestoredTo (b : List ℕ) (k : ℕ) (found : List ℕ) (r : Result Record Refusal) (exit : List ℕ) : Type 0 where
  pub answered : view_record r ≡ record_answer plane_frames (format_in b) b
  pub left : exit ≡ restore_exit plane_frames (format_in b) b k found

-- ---- entries

-- the bytes of one in a record of that version
abbrev pub EntrySized : ℕ → ℕ → Type 0
EntrySized version r = r ≡ size (format_for version)

-- the entry that a slice begins with, in a record of that version
abbrev pub EntryRead : List ℕ → ℕ → Entry → Type 0
EntryRead s version r = as_entry r ≡ entry_of (format_for version) s

-- and an entry of version 2 stored at byte `at`, as far as there is room
abbrev pub EntryPut : List ℕ → ℕ → Entry → List ℕ → Type 0
EntryPut found at e exit = exit ≡ sets found at (entry_bytes version_two (as_entry e))

abbrev pub SignedBy : ℕ → ℕ → Bool → Type 0
SignedBy operator reason r = r ≡ records.signed operator reason

-- ---- values

-- the header that a Channel or Histogram item is, with no prefix
abbrev pub HeaderOf : {prefix : ℕ} → items.Header prefix → Header → Type 0
HeaderOf x r = r ≡ record { card = x.card; chip = x.chip; channel = x.channel }

-- the kind of a number; a number that is no kind's is none
abbrev pub SpotKindOf : ℕ → Result SpotKind NoKind → Type 0
SpotKindOf n (Ok k) = n ≡ view_spot_kind k
SpotKindOf n (Err e) = (n ≡ 1 → ⊥) × (n ≡ 2 → ⊥)

-- an item of the kind may hold the value
abbrev pub MayHold : ℕ → ℕ → Bool → Type 0
MayHold kind value r = r ≡ legal_value kind value

abbrev pub WordPut : List ℕ → ℕ → ℕ → List ℕ → Type 0
WordPut found at w exit = exit ≡ sets found at (bytes (w ∷ []))

abbrev pub ValuePut : List ℕ → ℕ → ℕ → ℕ → List ℕ → Type 0
ValuePut found kind w value exit = exit ≡ stored found kind w value
