-- `rules::steps::time_bin` meets its contract.
-- Assumes nothing.
use Rattle.rules.proofs.Turns.{time_turn}
use Rattle.rules.proofs.steps.time_bin.Goals as goal

pub returns : goal.returns
returns c = time_turn _ _ _ _ c.judged.ensures c.may_time.ensures c.valid.ensures c.paused.ensures
