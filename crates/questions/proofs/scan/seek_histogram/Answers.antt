-- `questions::scan::seek_histogram` meets its contract.
-- Assumes nothing.
use mathlib.Core.Path.{refl, sym, ◌∙◌}
use native.Mathlib.Omega.{arith}
use Rattle.questions.proofs.Turns.{amid_range, next_further, nothing_there}
use Rattle.questions.proofs.HistogramScan.{seeking_start, seeking_bin, seeking_header, seeking_hit, seeking_next, seeking_found, seeking_none}
use Rattle.questions.proofs.scan.seek_histogram.Goals as goal

pub overflow_sub-last : goal.overflow_sub-last
overflow_sub-last c = let r = amid_range _ _ _ c.requires in omega arith

pub loop-at-init : goal.loop-at-init
loop-at-init c = (refl, seeking_start _ _ _ c.requires)

pub loop-at-preserved-then-w : goal.loop-at-preserved-then-w
loop-at-preserved-then-w c = let v = c.loop-at.invariant in (v.0, seeking_bin _ _ _ _ v.1 (omega arith) _ c.word_in-w.ensures c.if-w.true)

pub returns-then-is : goal.returns-then-is
returns-then-is c = let v = c.loop-at.invariant in seeking_hit _ _ _ _ v.1 (omega arith) _ c.word_in-w.ensures c.if-w-ge-HISTOGRAM.true _ c.of_word-x.ensures (sym c.is.ensures ∙ c.if-is.true)

pub loop-at-preserved-then-w-ge-HISTOGRAM : goal.loop-at-preserved-then-w-ge-HISTOGRAM
loop-at-preserved-then-w-ge-HISTOGRAM c = let v = c.loop-at.invariant in (v.0, seeking_header _ _ _ _ v.1 (omega arith) _ c.word_in-w.ensures c.if-w-ge-HISTOGRAM.true _ c.of_word-x.ensures (sym c.is.ensures ∙ c.if-is.false))

pub returns-then-is_header : goal.returns-then-is_header
returns-then-is_header c = let v = c.loop-at.invariant in seeking_found _ _ _ _ v.1 _ _ c.in_ok-x.ensures (sym c.is_header.ensures ∙ c.if-is_header.true)

pub loop-at-smaller : goal.loop-at-smaller
loop-at-smaller c = let v = c.loop-at.invariant in let f = next_further _ _ _ v.1.amid _ _ c.in_ok-x.ensures in omega arith

pub loop-at-preserved : goal.loop-at-preserved
loop-at-preserved c = let v = c.loop-at.invariant in (v.0, seeking_next _ _ _ _ v.1 _ _ c.in_ok-x.ensures (sym c.is_header.ensures ∙ c.if-is_header.false))

pub returns-in_err-x : goal.returns-in_err-x
returns-in_err-x c = let v = c.loop-at.invariant in nothing_there _ _ _ v.1.amid (omega arith) c.in_err-x.ensures

pub returns : goal.returns
returns c = let v = c.loop-at.invariant in seeking_none _ _ _ _ v.1 (omega arith)
