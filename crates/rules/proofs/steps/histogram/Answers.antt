-- `rules::steps::histogram` meets its contract.
-- Assumes nothing.
use Rattle.rules.proofs.Turns.{histogram_turn}
use Rattle.rules.proofs.steps.histogram.Goals as goal

pub returns : goal.returns
returns c = histogram_turn _ _ _ _ _ _ _ _ c.key-k.ensures c.judged.ensures c.may_histogram.ensures c.valid.ensures.1
