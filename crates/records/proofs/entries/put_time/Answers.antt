-- `records::entries::put_time` meets its contract.
-- Assumes nothing.
use Rattle.records.proofs.Storing.{time_stored}
use Rattle.records.proofs.entries.put_time.Goals as goal

pub returns : goal.returns
returns c =
    time_stored _ _ _ _ _ _ _ c.put_long.ensures c.put_word.ensures c.put_word-2.ensures
