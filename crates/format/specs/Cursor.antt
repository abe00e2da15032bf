-- The cursor: the item that stands at a word index of a frame's bytes, and where the next one begins. Decoding alone: no rule of a frame is asked.
-- On an accepted frame it meets exactly the frame's items (proofs/reader/CursorLaws).
-- Assumes nothing.
use Rattle.std.specs.Prelude.{ℕ, ◌+◌, ◌≡◌, List, [], ◌∷◌, ◌++◌, ◌&&◌, leb, ltb, length}
use Rattle.std.proofs.Math.Option.{Option, none, some}
use Rattle.format.specs.Words.{pick, Bytes}
use Rattle.format.specs.Answers.{accepted}
use Rattle.format.specs.Items.{ItemOf, Item, Channel, Histogram, HitCount, Sample, Bin, LastCell, TimeBin, Text, StartEvent, ContinueEvent, EndEvent, Token, whole, broken, flawed}
use Rattle.format.specs.Frames.{Frame, all_words, last_of, verdict}
use Rattle.format.specs.Steps.{token_at, next_at, rest}
use Rattle.format.specs.Questions.{Found, Shown, shown}

-- a whole item, with the index of the word behind it
abbrev pub standing_by : Token → ℕ → Option Found
standing_by (whole x) next = some (record { item = x; next = next })
standing_by (broken c) next = none
standing_by (flawed n) next = none

-- items begin at word 3 at the earliest and end before the last word
unfoldable pub standing_at : List ℕ → ℕ → Option Found
standing_at s at = pick (leb 3 at && ltb at (last_of s)) (standing_by (token_at s (last_of s) at) (next_at s at)) none

-- as it is answered
abbrev pub shown_by : Option Found → Option Shown
shown_by none = none
shown_by (some r) = some (record { item = shown r.item; next = r.next })

-- the item that an answer tells, but for a text's bytes
abbrev pub unshown : ItemOf ℕ → Item
unshown (Channel a b c) = Channel a b c
unshown (Histogram a b c) = Histogram a b c
unshown (HitCount a b c) = HitCount a b c
unshown (Sample v) = Sample v
unshown (Bin b n) = Bin b n
unshown (LastCell a b) = LastCell a b
unshown (TimeBin t) = TimeBin t
unshown (Text n) = Text []
unshown (StartEvent t ts n) = StartEvent t ts n
unshown (ContinueEvent n) = ContinueEvent n
unshown (EndEvent n) = EndEvent n

-- the items among some tokens
unfoldable pub wholes : List Token → List Item
wholes [] = []
wholes (whole x ∷ ts) = x ∷ wholes ts
wholes (broken c ∷ ts) = wholes ts
wholes (flawed n ∷ ts) = wholes ts

-- the items that stand from word `at` on
unfoldable pub items_from : List ℕ → ℕ → List Item
items_from s at = wholes (rest s (last_of s) at)

-- from word `at` on the cursor meets exactly these items, one behind the other, and then stands at the last word
pub data Meets (s : List ℕ) : ℕ → List Item → Type 0 where
  ended : {at : ℕ} → at ≡ last_of s → Meets s at []
  met : {at n : ℕ} {x : Item} {xs : List Item} → standing_at s at ≡ some (record { item = x; next = n }) → Meets s n xs → Meets s at (x ∷ xs)

-- the cursor stands at word `at` of an accepted frame, before the items from there on
pub record On (s : List ℕ) (at : ℕ) : Type 0 where
  pub bytes : Bytes s
  pub frame : Frame
  pub accepted : verdict s ≡ accepted frame
  pub before : List Item
  pub split : frame.items ≡ before ++ items_from s at
  pub index : at ≡ 3 + length (all_words before)
