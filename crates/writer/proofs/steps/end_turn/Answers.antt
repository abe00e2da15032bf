-- `writer::steps::end_turn` meets its contract.
-- Assumes nothing.
use native.Mathlib.Omega.{arith}
use Rattle.writer.proofs.PutLaws.{end_handed}
use Rattle.writer.proofs.steps.end_turn.Goals as goal

pub returns : goal.returns
returns c = end_handed c.args.at 0 _ c.args.x.size _ (omega arith) c.end_event.ensures
