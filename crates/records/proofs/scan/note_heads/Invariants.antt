use Prim.Native.Nat.{◌-◌}
use mathlib.Core.Path.{◌≡◌}
use lib.ListN.{length}
use Rattle.format.specs.Frames.{last_of}
use Rattle.records.proofs.Scanning.{Noting}
use Rattle.records.proofs.scan.note_heads.Given as goal

abbrev pub invariant-loop-map : goal.invariant-loop-map
invariant-loop-map l = Noting l.f l.map l.at l.head × (length l.map ≡ length l.initial.map)

abbrev pub decreases-loop-map : goal.decreases-loop-map
decreases-loop-map l = last_of l.f - l.at
