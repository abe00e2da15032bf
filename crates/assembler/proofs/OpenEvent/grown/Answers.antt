-- `assembler::OpenEvent::grown` meets its contract.
-- Assumes nothing.
use mathlib.Core.Path.{refl, ap}
use Prim.Native.Nat.{ℕ, ◌+◌}
use native.Mathlib.Omega.{arith}
use Rattle.assembler.proofs.StepLaws.{sized_fits, ended, goes_on_open}
use Rattle.assembler.proofs.OpenEvent.grown.Goals as goal

pub returns-then-part-ne0 : goal.returns-then-part-ne0
returns-then-part-ne0 c = ended _ _ _ _ c.begun.ensures (λ z. omega arith)

pub overflow_add-result : goal.overflow_add-result
overflow_add-result c = record { fits = sized_fits _ _ _ c.requires _ c.size.ensures (omega arith) }

pub returns : goal.returns
returns c = goes_on_open _ _ _ _ _ _ refl (ap (λ (n : ℕ). c.args.self.size + n) c.size.ensures) c.max.ensures (omega arith)
