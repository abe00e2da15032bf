-- `assembler::Assembler::followed` meets its contract.
-- Assumes nothing.
use mathlib.Core.Path.{sym, ap, ◌∙◌}
use Rattle.follower.specs.Paper.{view}
use Rattle.assembler.proofs.StepLaws.{fault_told}
use Rattle.assembler.proofs.Assembler.followed.Goals as goal

pub returns-in-Err : goal.returns-in-Err
returns-in-Err c = fault_told _ _ _ _ c.from-fault.ensures c.into.ensures (ap view (sym c.in-Err.is) ∙ c.follow.ensures)
