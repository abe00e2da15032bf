-- `records::values::put_legal` meets its contract.
-- Assumes nothing.
use native.Mathlib.Omega.{arith}
use Rattle.records.proofs.Storing.{sample_fits, sample_stored, count_stored}
use Rattle.records.proofs.values.put_legal.Goals as goal

pub overflow_cast-x : goal.overflow_cast-x
overflow_cast-x c = omega (arith, sample_fits _ _ c.requires.1 (omega arith))

pub returns-then-kind : goal.returns-then-kind
returns-then-kind c =
    sample_stored _ _ _ _ c.requires.1 (omega arith) _ _ c.word.ensures c.put_word.ensures

pub put_long-requires : goal.put_long-requires
put_long-requires c = omega (arith, c.requires.0)

pub returns : goal.returns
returns c =
    count_stored _ _ _ _ c.requires.1 (λ e. omega arith) _ c.put_long.ensures
