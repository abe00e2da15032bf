-- `rules::steps::last_cell` meets its contract.
-- Assumes nothing.
use Rattle.rules.proofs.Turns.{cell_turn}
use Rattle.rules.proofs.steps.last_cell.Goals as goal

pub returns : goal.returns
returns c = cell_turn _ _ _ _ _ c.judged.ensures c.may_stand_inside.ensures c.valid.ensures
