use Prim.Native.Nat.{◌-◌, ◌≤◌}
use mathlib.Core.Path.{◌≡◌}
use lib.ListN.{length, take}
use Rattle.ledger.specs.Records.{entries_to, history_verdict}
use Rattle.ledger.specs.Calls.{undone}
use Rattle.ledger.specs.Versions.{format_for}
use Rattle.ledger.specs.PlaneFrames.{plane_frames}
use Rattle.records.specs.Undoing.{Undoing}
use Rattle.records.proofs.history.History.walk_back.Given as goal

abbrev pub invariant-loop-m : goal.invariant-loop-m
invariant-loop-m l =
    Undoing l.map l.f × (length l.f ≡ length l.initial.f)
    × (history_verdict plane_frames (format_for l.version) l.f (entries_to (format_for l.version) l.b l.m) ≡ history_verdict plane_frames (format_for l.version) l.initial.f (entries_to (format_for l.version) l.b l.n))
    × (l.k ≤ l.m) × (undone plane_frames l.f (take (l.m - l.k) (entries_to (format_for l.version) l.b l.m)) ≡ undone plane_frames l.initial.f (take (l.n - l.k) (entries_to (format_for l.version) l.b l.n)))
