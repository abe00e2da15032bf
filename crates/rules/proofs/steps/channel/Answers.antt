-- `rules::steps::channel` meets its contract.
-- Assumes nothing.
use Rattle.rules.proofs.Turns.{channel_turn}
use Rattle.rules.proofs.steps.channel.Goals as goal

pub returns : goal.returns
returns c = channel_turn _ _ _ _ _ _ _ _ _ c.key-k.ensures c.first_of.ensures c.judged.ensures c.may_stand_inside.ensures c.valid.ensures.0
