-- `writer::steps::put` meets its contract.
-- Assumes nothing.
use Rattle.writer.proofs.PutLaws.{item_put}
use Rattle.writer.proofs.steps.put.Goals as goal

pub returns : goal.returns
returns c =
    let a = c.args in
    item_put _ _ _ _ _ _ _ a.item c.turn_of-turn.ensures (rw c.piece_of.ensures at c.put_words.ensures)
