-- `records::scan::item_noted` meets its contract: a Sample or Bin by the range of its word, as the cursor answers it.
-- Assumes nothing.
use mathlib.Core.Path.{◌∙◌}
use native.Mathlib.Omega.{arith}
use Rattle.records.proofs.Scanning.{noted_sample, noted_bin, noted_count}
use Rattle.records.proofs.scan.item_noted.Goals as goal

pub word_in-w-requires : goal.word_in-w-requires
word_in-w-requires c = let p = c.requires in omega (arith, p.early)

pub overflow_add-at : goal.overflow_add-at
overflow_add-at c = let p = c.requires in omega (arith, p.early)

pub returns-then-w : goal.returns-then-w
returns-then-w c =
    c.stands.ensures ∙ noted_sample _ _ c.requires _ c.word_in-w.ensures c.if-w.true _ c.of_word.ensures

pub overflow_add-at-then-w-2 : goal.overflow_add-at-then-w-2
overflow_add-at-then-w-2 c = let p = c.requires in omega (arith, p.early)

pub long_in-count-requires : goal.long_in-count-requires
long_in-count-requires c =
    omega (arith, noted_bin _ _ c.requires _ c.word_in-w.ensures c.if-w-2.true)

pub overflow_add-at-then-w-2-2 : goal.overflow_add-at-then-w-2-2
overflow_add-at-then-w-2-2 c = let p = c.requires in omega (arith, p.early)

pub returns-then-w-2 : goal.returns-then-w-2
returns-then-w-2 c =
    c.stands-then-w-2.ensures ∙ noted_count _ _ c.requires _ c.word_in-w.ensures c.if-w-2.true _ _ c.of_word-then-w-2.ensures c.long_in-count.ensures
