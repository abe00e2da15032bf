-- `questions::words::seek_sample` meets its contract.
-- Assumes nothing.
use mathlib.Core.Path.{refl}
use native.Mathlib.Omega.{arith}
use Rattle.format.proofs.reader.CursorLaws.{on_range}
use Rattle.questions.proofs.WordScan.{sample_start, sample_found, sample_next, sample_later, sample_other, sample_end}
use Rattle.questions.proofs.words.seek_sample.Goals as goal

pub overflow_sub-last : goal.overflow_sub-last
overflow_sub-last c = let r = on_range _ _ c.requires in omega arith

pub loop-at-init : goal.loop-at-init
loop-at-init c = (refl, sample_start _ _ _ c.requires)

pub returns-then-next-time : goal.returns-then-next-time
returns-then-next-time c = sample_found _ _ _ _ _ c.loop-at.invariant.1 (omega arith) _ c.word_in-w.ensures c.if-w.true c.if-next-time.true

pub overflow_add-next : goal.overflow_add-next
overflow_add-next c = omega (arith, c.loop-at.invariant.1.early)

pub loop-at-preserved-then-w : goal.loop-at-preserved-then-w
loop-at-preserved-then-w c = let v = c.loop-at.invariant in (v.0, sample_next _ _ _ _ _ v.1 (omega arith) _ c.word_in-w.ensures c.if-w.true c.if-next-time.false)

pub returns-then-w-2 : goal.returns-then-w-2
returns-then-w-2 c = sample_other _ _ _ _ _ c.loop-at.invariant.1 (omega arith) _ c.word_in-w.ensures c.if-w.false c.if-w-2.true

pub loop-at-preserved : goal.loop-at-preserved
loop-at-preserved c = let v = c.loop-at.invariant in (v.0, sample_later _ _ _ _ _ v.1 (omega arith) _ c.word_in-w.ensures c.if-w-2.false _ c.of_word-next.ensures)

pub returns : goal.returns
returns c = sample_end _ _ _ _ _ c.loop-at.invariant.1 (omega arith)
