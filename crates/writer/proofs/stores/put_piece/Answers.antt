-- `writer::stores::put_piece` meets its contract.
-- Assumes nothing.
use Rattle.writer.proofs.stores.put_piece.Goals as goal

pub returns-in-Event : goal.returns-in-Event
returns-in-Event c =
    rw c.in-Event.is c.put_six.ensures
