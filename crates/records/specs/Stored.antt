-- A value stored in the bytes of a frame by the item's kind alone, with no look at the frame. That this is `put` where such an item stands is
-- in proofs/UndoLaws.
-- Assumes nothing.
use Rattle.std.specs.Prelude.{ℕ, ◌+◌, ◌*◌, ◌<◌, ◌≡◌, List, length}
use Rattle.std.proofs.lemmas.List.Edits.{sets}
use Rattle.format.specs.Words.{pick, bytes}
use Rattle.format.specs.Spots.{value_word, value_words, legal_value}

-- some bytes with the value v in the item of that kind whose first word is word w; as they are where an item of that kind may not hold v
unfoldable pub stored : List ℕ → ℕ → ℕ → ℕ → List ℕ
stored f kind w v = pick (legal_value kind v) (sets f (2 * value_word kind w) (bytes (value_words kind v))) f

-- the words that hold the value of an item of that kind at word w lie in the bytes
pub record Inside (kind w : ℕ) (f : List ℕ) : Type 0 where
  pub sample : kind ≡ 1 → 2 * w + 1 < length f
  pub bin : (kind ≡ 1 → ⊥) → 2 * w + 5 < length f
