-- `writer::stores::put_word` meets its contract.
-- Assumes nothing.
use Rattle.writer.proofs.StoreTurns.{word_put}
use Rattle.writer.proofs.stores.put_word.Goals as goal

pub returns : goal.returns
returns c = word_put _ _ _ _ c.ranges.w.fits c.to_le_bytes.ensures
