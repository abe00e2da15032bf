-- `assembler::links::linked` meets its contract.
-- Assumes nothing.
use mathlib.Core.Path.{ap}
use Rattle.assembler.specs.Views.{view_current}
use Rattle.assembler.proofs.StepLaws.{none_linked, some_linked}
use Rattle.assembler.proofs.links.linked.Goals as goal

pub returns-in-None : goal.returns-in-None
returns-in-None c = none_linked _ _ _ _ _ (ap view_current c.in-None.is) c.continues.ensures

pub returns-in-Some : goal.returns-in-Some
returns-in-Some c = some_linked _ _ _ _ _ _ (ap view_current c.in-Some.is) c.goes_on.ensures
