-- `rules::steps::bin` meets its contract.
-- Assumes nothing.
use Rattle.rules.proofs.Turns.{bin_turn}
use Rattle.rules.proofs.steps.bin.Goals as goal

pub returns : goal.returns
returns c = bin_turn _ _ _ _ _ c.judged.ensures c.may_bin.ensures c.valid.ensures
