-- `assembler::part::Part::continues` meets its contract.
-- Assumes nothing.
use Prim.Native.Nat.{ℕ}
use mathlib.Core.Path.{ap}
use lib.Dec.{eqb}
use Rattle.assembler.proofs.part.Part.continues.Goals as goal

pub returns : goal.returns
returns c = ap (λ (n : ℕ). eqb n 0x0A00) c.word.ensures
