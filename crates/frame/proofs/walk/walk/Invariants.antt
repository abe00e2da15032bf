use Prim.Native.Nat.{◌*◌, ◌-◌, ◌≤◌}
use lib.ListN.{length}
use Rattle.rules.specs.Views.{view_state}
use Rattle.frame.proofs.Loop.{Live}
use Rattle.frame.proofs.walk.walk.Given as goal

abbrev pub invariant-loop-at : goal.invariant-loop-at
invariant-loop-at l = (2 * l.last ≤ length l.s) × Live l.s l.last l.card l.n (view_state l.initial.st) l.at l.count l.index (view_state l.st)

abbrev pub decreases-loop-at : goal.decreases-loop-at
decreases-loop-at l = l.last - l.at
