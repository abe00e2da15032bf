-- `assembler::OpenEvent::goes_on` meets its contract.
-- Assumes nothing.
use Rattle.assembler.proofs.StepLaws.{goes_on_told}
use Rattle.assembler.proofs.OpenEvent.goes_on.Goals as goal

pub returns : goal.returns
returns c =
    goes_on_told _ _ _ _ _ _ _ _ c.continues.ensures c.long.ensures c.rises-rising.ensures
    c.sized-sizes.ensures
