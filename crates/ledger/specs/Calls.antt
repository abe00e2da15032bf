-- What each call on a record answers, and the whole of what it leaves in the memory lent to it. Every call is a function of the lent bytes
-- and its arguments, whatever they are; a refused one leaves what it found.
-- Assumes nothing.
use Rattle.std.specs.Prelude.{ℕ, ◌+◌, ◌-◌, ◌*◌, ◌≡◌, Bool, not, ◌&&◌, List, [], ◌∷◌, ◌++◌, length, take, leb, eqb}
use Rattle.std.proofs.Math.Path.{refl}
use Rattle.std.proofs.Math.Option.{Option, none, some}
use Rattle.std.proofs.lemmas.List.Edits.{sets}
use Rattle.format.specs.Words.{pick, bytes}
use Rattle.format.specs.Answers.{Outcome, accepted, refused, Done, and_then, need, first_of, leaves}
use Rattle.format.specs.Spots.{Spot}
use Rattle.ledger.specs.Frames.{FrameBook}
use Rattle.ledger.specs.Formats.{Entry, Correction, Format, size}
use Rattle.ledger.specs.Records.{header, length_in, count_in, total_in, frame_in, entry_bytes, numbered, entries_in, signed, at_spot, before, record_verdict}

-- the kind and the value of an item; 0 where none stands
abbrev pub kind_of : Option Spot → ℕ
kind_of none = 0
kind_of (some s) = s.kind

abbrev pub value_of : Option Spot → ℕ
value_of none = 0
value_of (some s) = s.value

-- b with the word v at word index i
abbrev pub set_word : List ℕ → ℕ → ℕ → List ℕ
set_word b i v = sets b (2 * i) (bytes (v ∷ []))

-- the entry that a correction of a frame makes
abbrev pub entry_for : FrameBook → List ℕ → Correction → Entry
entry_for B f c = record {
  word = c.word;
  kind = kind_of (B.spot f c.word);
  old = value_of (B.spot f c.word);
  new = c.value;
  operator = c.operator;
  reason = c.reason;
  extra = c.extra;
}

-- the value asked for is legal for the item, and not the present one
unfoldable pub new_value : FrameBook → Correction → Spot → Bool
new_value B c s = B.legal s.kind c.value && not (eqb s.value c.value)

module _ (B : FrameBook) where
  -- the frame before some entries, newest first
  unfoldable pub undone : List ℕ → List Entry → List ℕ
  undone f [] = f
  undone f (e ∷ es) = undone (before B f e) es

  pub undone_none : (f : List ℕ) → undone f [] ≡ f
  unfolding undone
  undone_none f = refl

  pub undone_more : (f : List ℕ) (e : Entry) (es : List Entry) → undone f (e ∷ es) ≡ undone (before B f e) es
  unfolding undone
  undone_more f e es = refl

-- what the record question answers
pub record Summary : Type 0 where
  pub length : ℕ
  pub count : ℕ
  pub total : ℕ

module _ (B : FrameBook) (F : Format) where
  -- ---- questions
  unfoldable pub record_answer : List ℕ → Outcome Summary
  record_answer b = and_then (record_verdict B F b) (λ u. accepted (record { length = length_in b; count = count_in b; total = total_in F b }))

  -- record refusals, then 26 for 0 or a number above the count
  unfoldable pub entry_answer : List ℕ → ℕ → Outcome Entry
  entry_answer b j = and_then (record_verdict B F b) (λ u. pick (leb 1 j && leb j (count_in b)) (accepted (numbered F b j)) (refused 26 0))

  -- ---- opening a record of the frame f in a buffer: frame refusals, then 12; it writes header and frame
  unfoldable pub open_answer : List ℕ → List ℕ → Done
  open_answer f b = first_of (B.judge f ∷ need (leb (16 + length f) (length b)) 12 0 ∷ [])

  unfoldable pub open_exit : List ℕ → List ℕ → List ℕ
  open_exit f b = leaves (open_answer f b) b (sets b 0 (header F (length f) 0 ++ f))

  -- ---- an edit: record refusals, what the format asks first, 22, 23, 24, 25, 12
  -- the tests of an edit, in their order
  unfoldable pub edit_tests : List ℕ → Correction → List Done
  edit_tests b c =
      record_verdict B F b
      ∷ F.asked c.extra
      ∷ need (at_spot (B.spot (frame_in b) c.word) (F.suits c.extra)) 22 0
      ∷ need (at_spot (B.spot (frame_in b) c.word) (new_value B c)) 23 0
      ∷ need (signed c.operator c.reason && F.good c.extra) 24 0
      ∷ need (F.limit (entry_for B (frame_in b) c ∷ entries_in F b)) 25 0
      ∷ need (leb (total_in F b + size F) (length b)) 12 0
      ∷ []

  unfoldable pub edit_answer : List ℕ → Correction → Done
  edit_answer b c = first_of (edit_tests b c)

  -- the value, the two changed header words, and one entry
  unfoldable pub edit_written : List ℕ → Correction → List ℕ
  edit_written b c =
      sets (set_word (set_word (sets b 16 (B.put (frame_in b) c.word c.value)) 5 (count_in b + 1)) 6 (total_in F b + size F))
      (total_in F b)
      (entry_bytes F (entry_for B (frame_in b) c))

  unfoldable pub edit_exit : List ℕ → Correction → List ℕ
  edit_exit b c = leaves (edit_answer b c) b (edit_written b c)

  -- ---- restoring to k, into a second buffer: record refusals, 26, 12; it writes the frame to that buffer's start
  unfoldable pub restored : List ℕ → ℕ → List ℕ
  restored b k = undone B (frame_in b) (take (count_in b - k) (entries_in F b))

  unfoldable pub restore_answer : List ℕ → ℕ → List ℕ → Done
  restore_answer b k out = first_of (record_verdict B F b ∷ need (leb k (count_in b)) 26 0 ∷ need (leb (length_in b) (length out)) 12 0 ∷ [])

  unfoldable pub restore_exit : List ℕ → ℕ → List ℕ → List ℕ
  restore_exit b k out = leaves (restore_answer b k out) out (sets out 0 (restored b k))
