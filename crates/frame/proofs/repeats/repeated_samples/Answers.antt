-- `frame::repeats::repeated_samples` meets its contract.
-- Assumes nothing.
use native.Mathlib.Omega.{arith}
use Rattle.frame.proofs.repeats.repeated_samples.Goals as goal

pub past_samples-end-requires : goal.past_samples-end-requires
past_samples-end-requires c = (omega arith, omega arith)

pub returns : goal.returns
returns c =
    let e = c.past_samples-end.ensures in
    λ card key marks. record { turns = e.2 card _ key _ marks (omega arith) (λ h. omega arith); few = omega arith; onwards = e.0 }
