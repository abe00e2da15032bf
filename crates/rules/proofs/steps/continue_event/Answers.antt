-- `rules::steps::continue_event` meets its contract.
-- Assumes nothing.
use Rattle.rules.proofs.Turns.{continue_turn}
use Rattle.rules.proofs.steps.continue_event.Goals as goal

pub returns : goal.returns
returns c = continue_turn _ _ _ _ c.judged.ensures c.may_continue.ensures
