-- `frame::repeats::repeated_bins` meets its contract.
-- Assumes nothing.
use native.Mathlib.Omega.{arith}
use Rattle.frame.proofs.Repeating.{from_word}
use Rattle.frame.proofs.repeats.repeated_bins.Goals as goal

pub returns : goal.returns
returns c =
    let e = c.past_bins-binned.ensures in
    λ card key marks.
    record {
      turns = from_word card _ _ _ key marks _ _ _ _ (e.4 card _ key marks (omega arith) c.requires.1);
      few = omega arith;
      onwards = e.0;
    }
