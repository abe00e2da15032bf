-- `records::entries::entry_in` meets its contract.
-- Assumes nothing.
use Rattle.records.proofs.RecordLaws.{entry_read}
use Rattle.records.proofs.entries.entry_in.Goals as goal

pub returns : goal.returns
returns c = entry_read _ _ _ _ _ _ _ _ _ c.word_in.ensures c.word_in-2.ensures c.long_in.ensures c.long_in-2.ensures c.word_in-3.ensures c.word_in-4.ensures c.stamp_in-stamp.ensures
