-- `records::entries::put_stamp` meets its contract.
-- Assumes nothing.
use mathlib.Core.Path.{◌∙◌}
use Rattle.records.proofs.entries.put_stamp.Goals as goal

pub returns-in-None : goal.returns-in-None
returns-in-None c = c.put_time.ensures ∙ rw c.in-None.is

pub returns-in-Some : goal.returns-in-Some
returns-in-Some c = c.put_time-in-Some.ensures ∙ rw c.in-Some.is
