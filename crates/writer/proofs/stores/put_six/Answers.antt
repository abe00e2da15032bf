-- `writer::stores::put_six` meets its contract.
-- Assumes nothing.
use Rattle.writer.proofs.StoreTurns.{six}
use Rattle.writer.proofs.stores.put_six.Goals as goal

pub returns : goal.returns
returns c =
    six _ _ _ _ _ _ _ c.put_three.ensures c.put_three-2.ensures
