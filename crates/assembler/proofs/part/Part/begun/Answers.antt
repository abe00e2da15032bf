-- `assembler::part::Part::begun` meets its contract.
-- Assumes nothing.
use native.Mathlib.Omega.{arith}
use Rattle.assembler.proofs.StepLaws.{none_begun, shut_begun, some_begun}
use Rattle.assembler.proofs.part.Part.begun.Goals as goal

pub returns-then-opener-eq0 : goal.returns-then-opener-eq0
returns-then-opener-eq0 c = none_begun _ _ (omega arith)

pub returns-then-not-is_open : goal.returns-then-not-is_open
returns-then-not-is_open c = shut_begun _ _ _ c.is_open.ensures c.if-not-is_open.true

pub returns : goal.returns
returns c = some_begun _ _ _ _ _ c.long.ensures (omega arith) (λ z. omega arith) c.is_open.ensures c.if-not-is_open.false
