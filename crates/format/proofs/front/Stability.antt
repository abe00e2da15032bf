-- The front page of edits in a frame, T25: a legal value put in a Sample or Bin of an accepted frame leaves an accepted frame of the same length,
-- with that value in that item and every other item, word index and byte as it was. Each theorem is one law.
-- Assumes nothing.
use Prim.Native.Nat.{ℕ, ◌+◌, ◌*◌, ◌<◌, ◌≤◌}
use mathlib.Core.Path.{◌≡◌}
use mathlib.Core.Logic.{◌↔◌, ◌⊎◌}
use mathlib.Core.List.{List, ◌∷◌, ◌++◌}
use mathlib.Core.Bool.{true}
use mathlib.Core.Option.{some}
use lib.ListN.{length, get_or}
use Rattle.format.specs.Words.{Bytes}
use Rattle.format.specs.Answers.{accepted}
use Rattle.format.specs.Frames.{Frame, verdict}
use Rattle.format.specs.Stands.{index_of}
use Rattle.format.specs.Spots.{Spot, spot, put, legal_value, revalued, with_value, SpotIs, with_items}
use Rattle.format.proofs.spots.StabilityLaws as law

-- ---- legal values, in document 01's words

pub legal_sample : (v : ℕ) → (legal_value 1 v ≡ true) ↔ (v ≤ 4095)
legal_sample = law.legal_sample

pub legal_bin : (v : ℕ) → (legal_value 2 v ≡ true) ↔ ((1 ≤ v) × (v < 4294967296))
legal_bin = law.legal_bin

-- no other kind has one
pub legal_kind : (k v : ℕ) → legal_value k v ≡ true → (k ≡ 1) ⊎ (k ≡ 2)
legal_kind = law.legal_kind

-- and none has more than 32 bits
pub value_small : (k v : ℕ) → legal_value k v ≡ true → v < 4294967296
value_small = law.value_small

-- ---- the bytes of a put: bytes outside the value's own are as they were, and so is the length
pub put_length : (s : List ℕ) (w v : ℕ) → length (put s w v) ≡ length s
put_length = law.put_length

module _ (s : List ℕ) (w : ℕ) (p : Spot) (e : spot s w ≡ some p) (v : ℕ) where
  -- a Sample's are those of its word
  pub put_sample : p.kind ≡ 1 → (j : ℕ) → (2 * w ≤ j → j < 2 * w + 2 → ⊥) → get_or (put s w v) j 0 ≡ get_or s j 0
  put_sample = law.put_sample s w p e v

  -- a Bin's are those of the two words after its first
  pub put_bin : p.kind ≡ 2 → (j : ℕ) → (2 * w + 2 ≤ j → j < 2 * w + 6 → ⊥) → get_or (put s w v) j 0 ≡ get_or s j 0
  put_bin = law.put_bin s w p e v

-- ---- the frame

module _ (s : List ℕ) (y : Bytes s) (w : ℕ) (p : Spot) (e : spot s w ≡ some p) where
  -- the value that stands is legal, and the index below 4,096
  pub standing : legal_value p.kind p.value ≡ true
  standing = law.standing s y w p e

  pub index_small : w < 4096
  index_small = law.index_small s y w p e

  -- putting the present value changes no byte
  pub put_back : put s w p.value ≡ s
  put_back = law.put_back s y w p e

  module _ (v : ℕ) (l : legal_value p.kind v ≡ true) where
    pub put_bytes : Bytes (put s w v)
    put_bytes = law.put_bytes s y w p e v l

    -- the frame is accepted: same kind, card and sequence word, and the same items but for that one's value
    pub put_accepted : (f : Frame) → verdict s ≡ accepted f → (is : SpotIs f.items w p)
        → verdict (put s w v) ≡ accepted (with_items f (is.before ++ (with_value is.item v ∷ is.after)))
    put_accepted = law.put_accepted s y w p e v l

    -- each begins at the word where it began
    pub put_indexes : (f : Frame) → verdict s ≡ accepted f → (is : SpotIs f.items w p) (n : ℕ)
        → index_of (is.before ++ (with_value is.item v ∷ is.after)) n ≡ index_of f.items n
    put_indexes = law.put_indexes s y w p e v l

    -- the value stands there, and every other spot is as it was: kind, value and header
    pub put_there : spot (put s w v) w ≡ some (revalued p v)
    put_there = law.put_there s y w p e v l

    pub put_elsewhere : (u : ℕ) → (u ≡ w → ⊥) → spot (put s w v) u ≡ spot s u
    put_elsewhere = law.put_elsewhere s y w p e v l

    -- of two puts in one item the later decides, and the first value put back gives the first bytes
    pub put_again : (x : ℕ) → put (put s w v) w x ≡ put s w x
    put_again = law.put_again s y w p e v l

    pub put_undone : put (put s w v) w p.value ≡ s
    put_undone = law.put_undone s y w p e v l

-- puts in two items may change places
pub put_apart : (s : List ℕ) → Bytes s → (w : ℕ) (p : Spot) → spot s w ≡ some p → (v : ℕ) → legal_value p.kind v ≡ true
    → (u : ℕ) (q : Spot) → spot s u ≡ some q → (x : ℕ) → legal_value q.kind x ≡ true → (u ≡ w → ⊥)
    → put (put s w v) u x ≡ put (put s u x) w v
put_apart = law.put_apart
