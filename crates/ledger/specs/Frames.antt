-- What a record asks of frames: which are accepted, where their Samples and Bins stand, and how a value is put there. Records are written
-- and proved over ANY such book that has the laws below; document 01's own book is shown to have them where that book stands.
-- Assumes nothing.
use Rattle.std.specs.Prelude.{ℕ, ◌≤◌, ◌<◌, ◌≡◌, Bool, true, List, length}
use Rattle.std.proofs.Math.Option.{Option, some}
use Rattle.format.specs.Words.{Bytes}
use Rattle.format.specs.Answers.{accepted, Done}
use Rattle.format.specs.Spots.{Spot, revalued}

pub record FrameBook : Type 0 where
  -- accepted, or the frame's refusal with its number and place
  pub judge : List ℕ → Done
  -- the Sample or Bin whose first word is at that word index
  pub spot : List ℕ → ℕ → Option Spot
  -- the frame with that value in the item at that word index
  pub put : List ℕ → ℕ → ℕ → List ℕ
  -- whether an item of that kind may hold that value
  pub legal : ℕ → ℕ → Bool

-- an accepted frame: a list of bytes, as in every lent slice, that the book accepts
pub record Accepted (B : FrameBook) (f : List ℕ) : Type 0 where
  pub bytes : Bytes f
  pub judged : B.judge f ≡ accepted tt

-- in the accepted frame f the item s stands at word w, and it may hold v
pub record Settable (B : FrameBook) (f : List ℕ) (w v : ℕ) (s : Spot) : Type 0 where
  pub frame : Accepted B f
  pub stands : B.spot f w ≡ some s
  pub legal : B.legal s.kind v ≡ true

pub record LawfulBook (B : FrameBook) : Type 0 where
  -- lengths, word indexes, kinds and values fit the fields that a record has for them
  pub short : (f : List ℕ) → Accepted B f → length f ≤ 8192
  pub index_fits : (f : List ℕ) (w : ℕ) (s : Spot) → Accepted B f → B.spot f w ≡ some s → w < 65536
  pub kind_fits : (f : List ℕ) (w : ℕ) (s : Spot) → Accepted B f → B.spot f w ≡ some s → s.kind < 65536
  pub value_fits : (k v : ℕ) → B.legal k v ≡ true → v < 4294967296
  -- a value that stands is legal
  pub standing : (f : List ℕ) (w : ℕ) (s : Spot) → Accepted B f → B.spot f w ≡ some s → B.legal s.kind s.value ≡ true
  -- putting a legal value leaves an accepted frame of the same length, with that value there and every other item as it was
  pub put_length : (f : List ℕ) (w v : ℕ) (s : Spot) → Settable B f w v s → length (B.put f w v) ≡ length f
  pub put_accepted : (f : List ℕ) (w v : ℕ) (s : Spot) → Settable B f w v s → Accepted B (B.put f w v)
  pub put_there : (f : List ℕ) (w v : ℕ) (s : Spot) → Settable B f w v s → B.spot (B.put f w v) w ≡ some (revalued s v)
  pub put_elsewhere : (f : List ℕ) (w v : ℕ) (s : Spot) (u : ℕ) → Settable B f w v s → (u ≡ w → ⊥) → B.spot (B.put f w v) u ≡ B.spot f u
  -- the later of two puts decides; the present value changes no byte; puts in two items may change places
  pub put_again : (f : List ℕ) (w v x : ℕ) (s : Spot) → Settable B f w v s → Settable B f w x s → B.put (B.put f w v) w x ≡ B.put f w x
  pub put_back : (f : List ℕ) (w : ℕ) (s : Spot) → Accepted B f → B.spot f w ≡ some s → B.put f w s.value ≡ f
  pub put_apart : (f : List ℕ) (w v : ℕ) (s : Spot) (u x : ℕ) (t : Spot) → Settable B f w v s → Settable B f u x t → (u ≡ w → ⊥)
      → B.put (B.put f w v) u x ≡ B.put (B.put f u x) w v
