-- `rules::steps::start_event` meets its contract.
-- Assumes nothing.
use Rattle.rules.proofs.Turns.{start_turn}
use Rattle.rules.proofs.steps.start_event.Goals as goal

pub returns : goal.returns
returns c = start_turn _ _ _ _ _ _ _ c.judged.ensures c.may_start.ensures c.valid.ensures
