-- `writer::steps::continue_turn` meets its contract.
-- Assumes nothing.
use native.Mathlib.Omega.{arith}
use Rattle.writer.proofs.PutLaws.{continue_handed}
use Rattle.writer.proofs.steps.continue_turn.Goals as goal

pub returns : goal.returns
returns c = continue_handed 0 _ c.args.x.number _ (omega arith) c.continue_event.ensures
