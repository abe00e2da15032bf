-- `rules::steps::sample` meets its contract.
-- Assumes nothing.
use Rattle.rules.proofs.Turns.{sample_turn}
use Rattle.rules.proofs.steps.sample.Goals as goal

pub returns : goal.returns
returns c = sample_turn _ _ _ _ _ c.later.ensures.0 c.judged.ensures c.may_sample.ensures c.valid.ensures
