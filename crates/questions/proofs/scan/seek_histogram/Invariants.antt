use Prim.Native.Nat.{◌-◌}
use mathlib.Core.Path.{◌≡◌}
use Rattle.format.specs.Frames.{last_of}
use Rattle.questions.proofs.HistogramScan.{Seeking}
use Rattle.questions.proofs.scan.seek_histogram.Given as goal

abbrev pub invariant-loop-at : goal.invariant-loop-at
invariant-loop-at l = (l.last ≡ last_of l.s) × Seeking l.s l.wanted.chip l.wanted.channel l.at

abbrev pub decreases-loop-at : goal.decreases-loop-at
decreases-loop-at l = l.last - l.at
