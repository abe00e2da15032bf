-- T39, T40. What an answer says on paper fixes the answer: each view is injective, so each promise of this crate has one answer.
-- Assumes nothing.
use Prim.Native.Nat.{ℕ}
use mathlib.Core.Path.{◌≡◌, refl, sym, ap, ◌∙◌}
use mathlib.Core.Bool.{Bool}
use mathlib.Core.List.{List, [], ◌∷◌}
use lib.ListN.{get_or}
use lib.Seq.{sets}
use Rattle.format.specs.Words.{bytes}
use Rattle.std.proofs.Common.{Option, Some, None, Result, Ok, Err}
use Rattle.std.proofs.Math.Option as paper
use Rattle.format.specs.Answers.{Outcome}
use Rattle.format.specs.Spots as spots
use Rattle.format.specs.Spots.{legal_value}
use Rattle.book.proofs.Unique.{one, undone, equal_once, result_back, result_back_lem, option_back, option_back_lem}
use Rattle.book.specs.declared.items.Header as items
use Rattle.book.specs.declared.refusal.Refusal.{Refusal}
use Rattle.ledger.specs.Formats as formats
use Rattle.ledger.specs.Records as ledger
use Rattle.ledger.specs.Records.{entry_of, entry_bytes}
use Rattle.ledger.specs.Calls.{Summary, record_answer, entry_answer}
use Rattle.ledger.specs.Judged as judged
use Rattle.ledger.specs.Formats.{size}
use Rattle.ledger.specs.VersionTwo.{version_two}
use Rattle.ledger.specs.Versions.{format_for, format_in}
use Rattle.ledger.specs.PlaneFrames.{plane_frames}
use Rattle.records.specs.declared.answers.Header.{Header}
use Rattle.records.specs.declared.answers.SpotKind.{SpotKind}
use Rattle.records.specs.declared.answers.SpotKind.TheVariants as kind
use Rattle.records.specs.declared.answers.NoKind.{NoKind}
use Rattle.records.specs.declared.answers.Spot.{Spot}
use Rattle.records.specs.declared.answers.Record.{Record}
use Rattle.records.specs.declared.answers.Judged.{Judged}
use Rattle.records.specs.declared.answers.Stamp.{Stamp}
use Rattle.records.specs.declared.answers.Entry.{Entry}
use Rattle.records.specs.Views.{view_spot_kind, view_found_spot, view_spot, summary_of, view_record, judged_of, view_judged, view_stamp, as_entry, view_entry}
use Rattle.records.specs.Stored.{stored}
use Rattle.records.specs.Promises.{HeaderOf, SpotKindOf, SpotTold, Recorded, JudgedTo, EntryTold, RestoredTo, EntrySized, EntryRead, EntryPut, SignedBy, MayHold, WordPut, ValuePut}

-- T40: the way back from each answer on paper

abbrev header_back : spots.Header → Header
header_back h = record { card = h.card; chip = h.chip; channel = h.channel }

abbrev kind_back : ℕ → SpotKind
kind_back n = get_or (kind.Bin ∷ kind.Sample ∷ kind.Bin ∷ []) n kind.Bin

kind_back_lem : (k : SpotKind) → kind_back (view_spot_kind k) ≡ k
kind_back_lem kind.Sample = refl
kind_back_lem kind.Bin = refl

abbrev found_back : spots.Spot → Spot
found_back p = record { kind = kind_back p.kind; value = p.value; header = header_back p.header }

found_back_lem : (p : Spot) → found_back (view_found_spot p) ≡ p
found_back_lem p = ap (λ (k : SpotKind). record { kind = k; value = p.value; header = p.header }) (kind_back_lem p.kind)

abbrev spot_back : paper.Option spots.Spot → Option Spot
spot_back = option_back found_back

spot_back_lem : (r : Option Spot) → spot_back (view_spot r) ≡ r
spot_back_lem = option_back_lem view_found_spot found_back found_back_lem

pub same_spot : (r q : Option Spot) → view_spot r ≡ view_spot q → r ≡ q
same_spot = undone view_spot spot_back spot_back_lem

abbrev summary_back : Summary → Record
summary_back x = record { length = x.length; count = x.count; total = x.total }

abbrev record_back : Outcome Summary → Result Record Refusal
record_back = result_back summary_back

record_back_lem : (r : Result Record Refusal) → record_back (view_record r) ≡ r
record_back_lem = result_back_lem summary_of summary_back (λ x. refl)

pub same_record : (r q : Result Record Refusal) → view_record r ≡ view_record q → r ≡ q
same_record = undone view_record record_back record_back_lem

abbrev judgement_back : judged.Judged → Judged
judgement_back x = record { «record» = record { length = x.length; count = x.count; total = x.total }; spot = spot_back x.spot }

judgement_back_lem : (x : Judged) → judgement_back (judged_of x) ≡ x
judgement_back_lem x = λ i. record { «record» = x.«record»; spot = spot_back_lem x.spot i }

abbrev judged_back : Outcome judged.Judged → Result Judged Refusal
judged_back = result_back judgement_back

judged_back_lem : (r : Result Judged Refusal) → judged_back (view_judged r) ≡ r
judged_back_lem = result_back_lem judged_of judgement_back judgement_back_lem

pub same_judged : (r q : Result Judged Refusal) → view_judged r ≡ view_judged q → r ≡ q
same_judged = undone view_judged judged_back judged_back_lem

abbrev stamp_back : List ℕ → Option Stamp
stamp_back [] = None
stamp_back (t ∷ []) = None
stamp_back (t ∷ d ∷ x) = Some (record { time = t; desk = d })

stamp_back_lem : (r : Option Stamp) → stamp_back (view_stamp r) ≡ r
stamp_back_lem None = refl
stamp_back_lem (Some x) = refl

abbrev plain_back : formats.Entry → Entry
plain_back e = record { word = e.word; kind = e.kind; old = e.old; new = e.new; operator = e.operator; reason = e.reason; stamp = stamp_back e.extra }

plain_back_lem : (e : Entry) → plain_back (as_entry e) ≡ e
plain_back_lem e =
    ap (λ (s : Option Stamp). record { word = e.word; kind = e.kind; old = e.old; new = e.new; operator = e.operator; reason = e.reason; stamp = s }) (stamp_back_lem e.stamp)

pub same_plain : (r q : Entry) → as_entry r ≡ as_entry q → r ≡ q
same_plain = undone as_entry plain_back plain_back_lem

abbrev entry_back : Outcome formats.Entry → Result Entry Refusal
entry_back = result_back plain_back

entry_back_lem : (r : Result Entry Refusal) → entry_back (view_entry r) ≡ r
entry_back_lem = result_back_lem as_entry plain_back plain_back_lem

pub same_entry : (r q : Result Entry Refusal) → view_entry r ≡ view_entry q → r ≡ q
same_entry = undone view_entry entry_back entry_back_lem

-- T39: no second result, function by function; each is over the promise that the function's contract names (specs/Promises.antt). `spot`,
-- `record`, `judge` and `entry` lend no memory to write

-- `Header::from`
pub header_of_once : (prefix : ℕ) (x : items.Header prefix) (r q : Header) → HeaderOf x r → HeaderOf x q → r ≡ q
header_of_once prefix x = equal_once (record { card = x.card; chip = x.chip; channel = x.channel })

-- `SpotKind::try_from`: a number is one kind's, or none's
pub spot_kind_once : (n : ℕ) (r q : Result SpotKind NoKind) → SpotKindOf n r → SpotKindOf n q → r ≡ q
spot_kind_once n (Ok k) (Ok l) e f = ap Ok (undone view_spot_kind kind_back kind_back_lem k l (sym e ∙ f))
spot_kind_once n (Ok kind.Sample) (Err x) e f = absurd (f.0 e)
spot_kind_once n (Ok kind.Bin) (Err x) e f = absurd (f.1 e)
spot_kind_once n (Err x) (Ok kind.Sample) e f = absurd (e.0 f)
spot_kind_once n (Err x) (Ok kind.Bin) e f = absurd (e.1 f)
spot_kind_once n (Err x) (Err y) e f = refl

pub spot_once : (f : List ℕ) (w : ℕ) (r q : Option Spot) → SpotTold f w r → SpotTold f w q → r ≡ q
spot_once f w = one view_spot same_spot (spots.spot f w)

pub record_once : (b : List ℕ) (r q : Result Record Refusal) → Recorded b r → Recorded b q → r ≡ q
record_once b = one view_record same_record (record_answer plane_frames (format_in b) b)

pub judge_once : (b : List ℕ) (w : ℕ) (r q : Result Judged Refusal) → JudgedTo b w r → JudgedTo b w q → r ≡ q
judge_once b w = one view_judged same_judged (judged.judged_at plane_frames (format_in b) b w)

pub entry_once : (b : List ℕ) (j : ℕ) (r q : Result Entry Refusal) → EntryTold b j r → EntryTold b j q → r ≡ q
entry_once b j = one view_entry same_entry (entry_answer plane_frames (format_in b) b j)

pub restored_to_once : (b : List ℕ) (k : ℕ) (found : List ℕ) (r q : Result Record Refusal) (e g : List ℕ) → RestoredTo b k found r e → RestoredTo b k found q g → (r ≡ q) × (e ≡ g)
restored_to_once b k found r q e g x y = (same_record r q (x.answered ∙ sym y.answered), x.left ∙ sym y.left)

pub entry_size_once : (version r q : ℕ) → EntrySized version r → EntrySized version q → r ≡ q
entry_size_once version = equal_once (size (format_for version))

pub entry_of_once : (s : List ℕ) (version : ℕ) (r q : Entry) → EntryRead s version r → EntryRead s version q → r ≡ q
entry_of_once s version = one as_entry same_plain (entry_of (format_for version) s)

pub signed_once : (operator reason : ℕ) (r q : Bool) → SignedBy operator reason r → SignedBy operator reason q → r ≡ q
signed_once operator reason = equal_once (ledger.signed operator reason)

-- of the functions that answer nothing, the list that they leave, whole
pub put_entry_once : (f : List ℕ) (at : ℕ) (e : Entry) (r q : List ℕ) → EntryPut f at e r → EntryPut f at e q → r ≡ q
put_entry_once f at e = equal_once (sets f at (entry_bytes version_two (as_entry e)))

pub legal_once : (kind value : ℕ) (r q : Bool) → MayHold kind value r → MayHold kind value q → r ≡ q
legal_once kind value = equal_once (legal_value kind value)

pub put_word_once : (f : List ℕ) (at w : ℕ) (r q : List ℕ) → WordPut f at w r → WordPut f at w q → r ≡ q
put_word_once f at w = equal_once (sets f at (bytes (w ∷ [])))

pub put_value_once : (f : List ℕ) (kind w v : ℕ) (r q : List ℕ) → ValuePut f kind w v r → ValuePut f kind w v q → r ≡ q
put_value_once f kind w v = equal_once (stored f kind w v)
