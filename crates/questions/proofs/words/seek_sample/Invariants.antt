use Prim.Native.Nat.{◌-◌}
use mathlib.Core.Path.{◌≡◌}
use Rattle.format.specs.Frames.{last_of}
use Rattle.questions.proofs.WordScan.{SampleSeeking}
use Rattle.questions.proofs.words.seek_sample.Given as goal

abbrev pub invariant-loop-at : goal.invariant-loop-at
invariant-loop-at l = (l.last ≡ last_of l.s) × SampleSeeking l.s l.from l.time l.at l.next

abbrev pub decreases-loop-at : goal.decreases-loop-at
decreases-loop-at l = l.last - l.at
