-- `rules::steps::text` meets its contract.
-- Assumes nothing.
use Rattle.rules.proofs.Turns.{text_turn}
use Rattle.rules.proofs.steps.text.Goals as goal

pub returns : goal.returns
returns c = text_turn _ _ _ _ c.judged.ensures c.may_text.ensures
