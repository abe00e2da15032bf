-- `rules::steps::end_event` meets its contract.
-- Assumes nothing.
use Rattle.rules.proofs.Turns.{end_turn}
use Rattle.rules.proofs.steps.end_event.Goals as goal

pub returns : goal.returns
returns c = end_turn _ _ _ _ _ _ _ c.lead_of.ensures c.judged.ensures c.may_stand_inside.ensures c.sized.ensures
