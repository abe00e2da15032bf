use Prim.Native.Nat.{ℕ, ◌-◌, ◌*◌, ◌/◌, ◌%◌, ◌≤◌, max}
use mathlib.Core.Path.{◌≡◌}
use lib.ListN.{length}
use Rattle.format.specs.Rules.{headed}
use Rattle.format.specs.Steps.{Marks}
use Rattle.frame.specs.Repeats.{Turns}
use Rattle.frame.proofs.repeats.past_bins.Given as goal

abbrev pub invariant-loop-i : goal.invariant-loop-i
invariant-loop-i l =
    (l.at ≤ l.i) × (l.i ≤ l.stop) × ((l.i - l.at) % 3 ≡ 0) × ((l.stop - l.i) % 3 ≡ 0) × (2 * l.stop ≤ length l.s) × (8191 ≤ l.latest) × (l.latest ≤ max l.past 12287)
    × ((card last key : ℕ) (marks : Marks) → l.stop ≤ last → 2 * last ≤ length l.s → Turns card l.s last ((l.i - l.at) / 3) headed key (l.past - 8191) marks l.at (l.latest - 8191) l.i)

abbrev pub decreases-loop-i : goal.decreases-loop-i
decreases-loop-i l = l.stop - l.i
