-- `questions::words::seek_bin` meets its contract.
-- Assumes nothing.
use mathlib.Core.Path.{refl}
use native.Mathlib.Omega.{arith}
use Rattle.format.proofs.reader.CursorLaws.{on_range}
use Rattle.questions.proofs.WordScan.{bin_start, bin_found, bin_next, bin_other, bin_end}
use Rattle.questions.proofs.words.seek_bin.Goals as goal

pub overflow_sub-last : goal.overflow_sub-last
overflow_sub-last c = let r = on_range _ _ c.requires in omega arith

pub loop-at-init : goal.loop-at-init
loop-at-init c = (refl, bin_start _ _ _ c.requires)

pub returns-then-w : goal.returns-then-w
returns-then-w c = bin_other _ _ _ _ c.loop-at.invariant.1 (omega arith) _ c.word_in-w.ensures c.if-w.true

pub returns-then-of_word-bin : goal.returns-then-of_word-bin
returns-then-of_word-bin c = bin_found _ _ _ _ c.loop-at.invariant.1 (omega arith) _ c.word_in-w.ensures c.if-w.false _ c.of_word.ensures c.if-of_word-bin.true

pub loop-at-preserved : goal.loop-at-preserved
loop-at-preserved c = let v = c.loop-at.invariant in (v.0, bin_next _ _ _ _ v.1 (omega arith) _ c.word_in-w.ensures c.if-w.false _ c.of_word.ensures c.if-of_word-bin.false)

pub returns : goal.returns
returns c = bin_end _ _ _ _ c.loop-at.invariant.1 (omega arith)
