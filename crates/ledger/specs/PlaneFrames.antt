-- The frames of document 01 as a book that records are kept over, and what allows an edit, in the documents' words.
-- Assumes nothing.
use Rattle.std.specs.Prelude.{ℕ, ◌+◌, ◌≤◌, ◌<◌, ◌≡◌, refl, List, [], ◌∷◌, length}
use Rattle.std.proofs.Math.Option.{some}
use Rattle.format.specs.Words.{word_at}
use Rattle.format.specs.Frames.{verdict}
use Rattle.format.specs.Questions.{done}
use Rattle.format.specs.Spots as spots
use Rattle.format.specs.Spots.{Spot}
use Rattle.ledger.specs.Frames.{FrameBook}
use Rattle.ledger.specs.Formats.{Correction}
use Rattle.ledger.specs.VersionTwo.{time_in}
use Rattle.ledger.specs.Versions.{Version, v1, v2}
use Rattle.ledger.specs.Layout.{entry_size, total_length, frame_of}

-- the frame judge with its refusals as they are, the spots of accepted frames, and the values put there
unfoldable pub plane_frames : FrameBook
plane_frames = record {
  judge = λ s. done (verdict s);
  spot = spots.spot;
  put = spots.put;
  legal = spots.legal_value;
}

pub plane_frames_judge : (s : List ℕ) → plane_frames.judge s ≡ done (verdict s)
unfolding plane_frames
plane_frames_judge s = refl

pub plane_frames_spot : (s : List ℕ) (w : ℕ) → plane_frames.spot s w ≡ spots.spot s w
unfolding plane_frames
plane_frames_spot s w = refl

-- what an edit gives beside operator and reason: nothing in version 1; in version 2 a time, at desk 0
abbrev pub Asks : Version → List ℕ → Type 0
Asks v1 x = x ≡ []
Asks v2 x = x ≡ time_in x ∷ 0 ∷ []

-- an edit of an accepted record that none of 22, 23, 24, 25 and 12 forbids
pub record Free (v : Version) (b : List ℕ) (c : Correction) : Type 0 where
  -- the word index is a Sample's or Bin's first word
  pub spot : Spot
  pub stands : spots.spot (frame_of b) c.word ≡ some spot
  -- a sample of at most 4,095, a bin's count of at least 1 and 32 bits, and not the present value
  pub sample : spot.kind ≡ 1 → c.value ≤ 4095
  pub bin : spot.kind ≡ 2 → (1 ≤ c.value) × (c.value < 4294967296)
  pub changed : spot.value ≡ c.value → ⊥
  -- operator 1 to 65,535, reason 1 to 5
  pub operator : (1 ≤ c.operator) × (c.operator ≤ 65535)
  pub reason : (1 ≤ c.reason) × (c.reason ≤ 5)
  -- a time that 6 bytes hold
  pub time : time_in c.extra < 281474976710656
  -- fewer than 512 entries stand, and the buffer holds one more
  pub few : word_at b 5 < 512
  pub room : total_length v b + entry_size v ≤ length b
