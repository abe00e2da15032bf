-- `records::history::stamp_fits` meets its contract.
-- Assumes nothing.
use Rattle.records.proofs.UndoLaws.{stamp_missing, stamp_given}
use mathlib.Core.Path.{◌∙◌}
use native.Mathlib.Omega.{arith}
use Rattle.records.proofs.history.stamp_fits.Goals as goal

pub returns-in-None : goal.returns-in-None
returns-in-None c = λ s. stamp_missing c.args.version s ∙ rw c.in-None.is

pub returns-in-Some : goal.returns-in-Some
returns-in-Some c = λ s. stamp_given c.args.version c.in-Some.x.time c.in-Some.x.desk (omega arith) s ∙ rw c.in-Some.is
