-- `records::entries::put_entry` meets its contract.
-- Assumes nothing.
use native.Mathlib.Omega.{arith}
use Rattle.records.specs.Views.{as_entry}
use Rattle.records.proofs.Storing.{entry_out, entry_stored}
use Rattle.records.proofs.entries.put_entry.Goals as goal

pub returns-then-buf-at : goal.returns-then-buf-at
returns-then-buf-at c = entry_out _ _ _ (omega arith)

pub returns : goal.returns
returns c =
    entry_stored _ _ _ _ _ _ _ _ _ (as_entry c.args.e) c.put_word.ensures c.put_word-2.ensures c.put_long.ensures c.put_long-2.ensures c.put_word-3.ensures c.put_word-4.ensures c.put_stamp.ensures
