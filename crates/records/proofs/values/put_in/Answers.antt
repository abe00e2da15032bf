-- `records::values::put_in` meets its contract.
-- Assumes nothing.
use mathlib.Core.Path.{◌∙◌}
use native.Mathlib.Omega.{arith}
use Rattle.records.proofs.Storing.{sample_fits, sample_stored, count_stored, over_word, over_long}
use Rattle.records.proofs.values.put_in.Goals as goal

pub overflow_cast-x : goal.overflow_cast-x
overflow_cast-x c = omega (arith, sample_fits _ _ c.requires.1 (omega arith))

pub returns-then-kind : goal.returns-then-kind
returns-then-kind c =
    sample_stored _ _ _ _ c.requires.1 c.if-kind.true _ _ c.word.ensures (over_word c.args.f.now _ _ _ _ (omega arith) (omega (arith, c.requires.0.sample c.if-kind.true)) c.word.type_inv (c.copy_from_slice.ensures.after ∙ c.to_le_bytes.ensures))

pub returns : goal.returns
returns c =
    count_stored _ _ _ _ c.requires.1 c.if-kind.false _ (over_long c.args.f.now _ _ _ c.args.value (omega arith) (omega (arith, c.requires.0.bin c.if-kind.false)) (omega arith) (c.copy_from_slice-2.ensures.after ∙ c.to_le_bytes-2.ensures))
