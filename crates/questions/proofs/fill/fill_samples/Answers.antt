-- `questions::fill::fill_samples` meets its contract.
-- Assumes nothing.
use mathlib.Core.Path.{refl}
use native.Mathlib.Omega.{arith}
use Rattle.format.proofs.reader.CursorLaws.{on_range}
use Rattle.questions.proofs.SampleFill.{sampling_start, sample_room, sampling_sample, sampling_time, sampling_other, sampling_end}
use Rattle.questions.proofs.fill.fill_samples.Goals as goal

pub overflow_sub-last : goal.overflow_sub-last
overflow_sub-last c = let r = on_range _ _ c.requires.0.on in omega arith

pub loop-at-init : goal.loop-at-init
loop-at-init c = let p = c.requires in (refl, p.1, sampling_start _ _ _ p.0)

pub offset_bounds-out-time : goal.offset_bounds-out-time
offset_bounds-out-time c = let v = c.loop-at.invariant in omega (arith, sample_room _ _ _ _ _ _ v.2 (omega arith) _ c.word_in-w.ensures c.if-w.true)

pub bounds-out-time : goal.bounds-out-time
bounds-out-time c = let v = c.loop-at.invariant in omega (arith, sample_room _ _ _ _ _ _ v.2 (omega arith) _ c.word_in-w.ensures c.if-w.true)

pub overflow_add-time : goal.overflow_add-time
overflow_add-time c = let v = c.loop-at.invariant in omega (arith, sample_room _ _ _ _ _ _ v.2 (omega arith) _ c.word_in-w.ensures c.if-w.true)

pub loop-at-preserved-then-w : goal.loop-at-preserved-then-w
loop-at-preserved-then-w c = let v = c.loop-at.invariant in (v.0, v.1, sampling_sample _ _ _ _ _ _ v.2 (omega arith) _ c.word_in-w.ensures c.if-w.true _ c.of_word.ensures)

pub returns-then-w-2 : goal.returns-then-w-2
returns-then-w-2 c = let v = c.loop-at.invariant in sampling_other _ _ _ _ _ _ v.2 (omega arith) _ c.word_in-w.ensures c.if-w.false c.if-w-2.true

pub loop-at-preserved : goal.loop-at-preserved
loop-at-preserved c = let v = c.loop-at.invariant in (v.0, v.1, sampling_time _ _ _ _ _ _ v.2 (omega arith) _ c.word_in-w.ensures c.if-w-2.false _ c.of_word-time.ensures)

pub returns : goal.returns
returns c = sampling_end _ _ _ _ _ _ c.loop-at.invariant.2 (omega arith)
