use Prim.Native.Nat.{◌-◌}
use Rattle.format.specs.Frames.{last_of}
use Rattle.records.proofs.Scanning.{Seeking}
use Rattle.records.proofs.scan.spot_in.Given as goal

abbrev pub invariant-loop-at : goal.invariant-loop-at
invariant-loop-at l = Seeking l.f l.w l.at l.head

abbrev pub decreases-loop-at : goal.decreases-loop-at
decreases-loop-at l = last_of l.f - l.at
