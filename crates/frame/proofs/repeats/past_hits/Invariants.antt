use Prim.Native.Nat.{ℕ, ◌-◌, ◌*◌, ◌≤◌}
use lib.ListN.{length}
use Rattle.format.specs.Rules.{inside}
use Rattle.format.specs.Steps.{Marks}
use Rattle.frame.specs.Repeats.{Turns}
use Rattle.frame.proofs.repeats.past_hits.Given as goal

abbrev pub invariant-loop-i : goal.invariant-loop-i
invariant-loop-i l =
    (l.at ≤ l.i) × (l.i ≤ l.stop) × (2 * l.stop ≤ length l.s) × ((last key next : ℕ) (marks : Marks) → l.stop ≤ last → Turns l.card l.s last (l.i - l.at) inside key next marks l.at next l.i)

abbrev pub decreases-loop-i : goal.decreases-loop-i
decreases-loop-i l = l.stop - l.i
