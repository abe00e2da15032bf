use Prim.Native.Nat.{◌-◌, ◌≤◌}
use mathlib.Core.Path.{◌≡◌}
use lib.ListN.{length}
use Rattle.format.specs.Frames.{last_of}
use Rattle.questions.proofs.SampleFill.{Sampling}
use Rattle.questions.proofs.fill.fill_samples.Given as goal

abbrev pub invariant-loop-at : goal.invariant-loop-at
invariant-loop-at l = (l.last ≡ last_of l.s) × (512 ≤ length l.initial.out) × Sampling l.s l.from l.initial.out l.at l.time l.out

abbrev pub decreases-loop-at : goal.decreases-loop-at
decreases-loop-at l = l.last - l.at
