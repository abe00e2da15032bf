-- `questions::fill::fill_counts` meets its contract.
-- Assumes nothing.
use mathlib.Core.Path.{refl}
use native.Mathlib.Omega.{arith}
use Rattle.format.proofs.reader.CursorLaws.{on_range}
use Rattle.questions.proofs.CountFill.{counting_start, bin_room, counting_bin, counting_other, counting_end}
use Rattle.questions.proofs.fill.fill_counts.Goals as goal

pub overflow_sub-last : goal.overflow_sub-last
overflow_sub-last c = let r = on_range _ _ c.requires.0 in omega arith

pub loop-at-init : goal.loop-at-init
loop-at-init c = let p = c.requires in (refl, p.1, counting_start _ _ _ p.0)

pub returns-then-w : goal.returns-then-w
returns-then-w c = counting_other _ _ _ _ _ c.loop-at.invariant.2 (omega arith) _ c.word_in-w.ensures c.if-w.true

pub long_in-requires : goal.long_in-requires
long_in-requires c = let r = bin_room _ _ _ _ _ c.loop-at.invariant.2 (omega arith) _ c.word_in-w.ensures c.if-w.false in omega (arith, r)

pub loop-at-preserved : goal.loop-at-preserved
loop-at-preserved c = let v = c.loop-at.invariant in (v.0, v.1, counting_bin _ _ _ _ _ v.2 (omega arith) _ c.word_in-w.ensures c.if-w.false _ _ c.of_word-bin.ensures c.long_in.ensures)

pub returns : goal.returns
returns c = counting_end _ _ _ _ _ c.loop-at.invariant.2 (omega arith)
