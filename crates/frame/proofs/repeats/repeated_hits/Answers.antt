-- `frame::repeats::repeated_hits` meets its contract.
-- Assumes nothing.
use native.Mathlib.Omega.{arith}
use Rattle.frame.proofs.repeats.repeated_hits.Goals as goal

pub past_hits-end-requires : goal.past_hits-end-requires
past_hits-end-requires c = (omega arith, omega arith)

pub returns : goal.returns
returns c =
    let e = c.past_hits-end.ensures in
    λ key marks. record { turns = e.2 _ key _ marks (omega arith); few = omega arith; onwards = e.0 }
