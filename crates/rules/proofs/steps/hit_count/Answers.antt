-- `rules::steps::hit_count` meets its contract.
-- Assumes nothing.
use Rattle.rules.proofs.Turns.{hit_turn}
use Rattle.rules.proofs.steps.hit_count.Goals as goal

pub returns : goal.returns
returns c = hit_turn _ _ _ _ _ _ _ c.judged.ensures c.may_stand_inside.ensures c.valid.ensures
