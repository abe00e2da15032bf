-- `assembler::links::sized` meets its contract.
-- Assumes nothing.
use native.Mathlib.Omega.{arith}
use Rattle.assembler.proofs.StepLaws.{goes_on_sized, ends_sized}
use Rattle.assembler.proofs.links.sized.Goals as goal

pub returns-then-lead-eq0 : goal.returns-then-lead-eq0
returns-then-lead-eq0 c = goes_on_sized _ _ _ (omega arith)

pub returns : goal.returns
returns c = ends_sized _ _ _ _ c.long-told.ensures (λ z. omega arith)
