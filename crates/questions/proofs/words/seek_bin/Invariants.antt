use Prim.Native.Nat.{◌-◌}
use mathlib.Core.Path.{◌≡◌}
use Rattle.format.specs.Frames.{last_of}
use Rattle.questions.proofs.WordScan.{BinSeeking}
use Rattle.questions.proofs.words.seek_bin.Given as goal

abbrev pub invariant-loop-at : goal.invariant-loop-at
invariant-loop-at l = (l.last ≡ last_of l.s) × BinSeeking l.s l.from l.bin l.at

abbrev pub decreases-loop-at : goal.decreases-loop-at
decreases-loop-at l = l.last - l.at
