-- `records::history::History::judge` meets its contract.
-- Assumes nothing.
use native.Mathlib.Omega.{arith}
use Rattle.ledger.proofs.plane.PlaneFrames.{plane_frames_lawful}
use Rattle.records.proofs.RecordLaws.{zeros}
use Rattle.records.proofs.history.History.judge.Goals as goal

pub judge_in-requires : goal.judge_in-requires
judge_in-requires c = (plane_frames_lawful.short _ c.args.self.framed.accepted, omega arith, zeros 4096)
