-- `assembler::opens::open_after` meets its contract.
-- Assumes nothing.
use mathlib.Core.Path.{ap}
use Rattle.assembler.specs.Views.{view_current}
use Rattle.assembler.proofs.StepLaws.{none_open}
use Rattle.assembler.proofs.opens.open_after.Goals as goal

pub returns-in-None : goal.returns-in-None
returns-in-None c = none_open _ _ _ _ (ap view_current c.in-None.is) c.begun.ensures
