-- What one judging of a record tells: its lengths and its entry count, and what stands at a word of its frame.
-- Assumes nothing.
use Rattle.std.specs.Prelude.{ℕ, List}
use Rattle.std.proofs.Math.Option.{Option}
use Rattle.format.specs.Answers.{Outcome, accepted, and_then}
use Rattle.format.specs.Spots.{Spot}
use Rattle.ledger.specs.Frames.{FrameBook}
use Rattle.ledger.specs.Formats.{Format}
use Rattle.ledger.specs.Records.{length_in, count_in, total_in, frame_in, record_verdict}

pub record Judged : Type 0 where
  pub length : ℕ
  pub count : ℕ
  pub total : ℕ
  -- the Sample or Bin whose first word is the word asked for
  pub spot : Option Spot

unfoldable pub judged_at : FrameBook → Format → List ℕ → ℕ → Outcome Judged
judged_at B F b w =
    and_then (record_verdict B F b)
    (λ u. accepted (record { length = length_in b; count = count_in b; total = total_in F b; spot = B.spot (frame_in b) w }))
