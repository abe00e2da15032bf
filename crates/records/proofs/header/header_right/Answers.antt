-- `records::header::header_right` meets its contract.
-- Assumes nothing.
use native.Mathlib.Omega.{arith}
use Rattle.records.proofs.RecordLaws.{header_tests, product_small}
use Rattle.records.proofs.header.header_right.Goals as goal

pub overflow_mul-total : goal.overflow_mul-total
overflow_mul-total c = record { fits = omega (arith, product_small _ _ c.word-count.result c.entry_size.ensures (omega arith)) }

pub overflow_add-total : goal.overflow_add-total
overflow_add-total c = record { fits = omega (arith, product_small _ _ c.word-count.result c.entry_size.ensures (omega arith)) }

pub returns : goal.returns
returns c =
    header_tests c.args.b.now _ _ _ _ _ _ _ _ _ c.word-version.ensures c.word.ensures c.word-2.ensures c.word-length.ensures c.word-3.ensures c.word-count.ensures c.word-4.ensures c.word-5.ensures c.entry_size.ensures
