-- `records::history::History::keep` meets its contract.
-- Assumes nothing.
use native.Mathlib.Omega.{arith}
use Rattle.ledger.proofs.plane.PlaneFrames.{plane_frames_lawful}
use Rattle.records.proofs.RecordLaws.{zeros}
use Rattle.records.proofs.history.History.keep.Goals as goal

pub keep_in-requires : goal.keep_in-requires
keep_in-requires c = let l = plane_frames_lawful.short _ c.args.self.framed.accepted in (l, l, omega arith, zeros 4096)
