-- `questions::scan::seek_event` meets its contract.
-- Assumes nothing.
use mathlib.Core.Path.{refl, sym, ◌∙◌}
use native.Mathlib.Omega.{arith}
use Rattle.questions.proofs.Turns.{amid_range, next_further, nothing_there}
use Rattle.questions.proofs.EventScan.{seeking_start, seeking_one, seeking_next, seeking_further, seeking_found, seeking_none}
use Rattle.questions.proofs.scan.seek_event.Goals as goal

pub overflow_sub-last : goal.overflow_sub-last
overflow_sub-last c = let r = amid_range _ _ _ c.requires in omega arith

pub loop-at-init : goal.loop-at-init
loop-at-init c = (refl, seeking_start _ _ c.requires)

pub loop-at-preserved-then-w-ge-TIME_BIN : goal.loop-at-preserved-then-w-ge-TIME_BIN
loop-at-preserved-then-w-ge-TIME_BIN c = let v = c.loop-at.invariant in (v.0, seeking_one _ _ _ _ v.1 (omega arith) _ c.word_in-w.ensures c.if-w-ge-TIME_BIN.true)

pub returns-then-left-eq0 : goal.returns-then-left-eq0
returns-then-left-eq0 c = let v = c.loop-at.invariant in seeking_found _ _ _ _ v.1 _ _ c.in_ok-x.ensures (sym c.is_opener.ensures ∙ c.if-is_opener.true) c.if-left-eq0.true

pub loop-at-smaller-else-left-eq0 : goal.loop-at-smaller-else-left-eq0
loop-at-smaller-else-left-eq0 c = let v = c.loop-at.invariant in let f = next_further _ _ _ v.1.amid _ _ c.in_ok-x.ensures in omega arith

pub loop-at-preserved-else-left-eq0 : goal.loop-at-preserved-else-left-eq0
loop-at-preserved-else-left-eq0 c = let v = c.loop-at.invariant in (v.0, seeking_further _ _ _ _ v.1 _ _ c.in_ok-x.ensures (sym c.is_opener.ensures ∙ c.if-is_opener.true) c.if-left-eq0.false)

pub loop-at-smaller : goal.loop-at-smaller
loop-at-smaller c = let v = c.loop-at.invariant in let f = next_further _ _ _ v.1.amid _ _ c.in_ok-x.ensures in omega arith

pub loop-at-preserved : goal.loop-at-preserved
loop-at-preserved c = let v = c.loop-at.invariant in (v.0, seeking_next _ _ _ _ v.1 _ _ c.in_ok-x.ensures (sym c.is_opener.ensures ∙ c.if-is_opener.false))

pub returns-in_err-x : goal.returns-in_err-x
returns-in_err-x c = let v = c.loop-at.invariant in nothing_there _ _ _ v.1.amid (omega arith) c.in_err-x.ensures

pub returns : goal.returns
returns c = let v = c.loop-at.invariant in seeking_none _ _ _ _ v.1 (omega arith)
