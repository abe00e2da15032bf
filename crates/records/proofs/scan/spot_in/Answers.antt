-- `records::scan::spot_in` meets its contract: what it has passed is not the word asked for.
-- Assumes nothing.
use mathlib.Core.Path.{refl, ap, sym, ◌∙◌}
use native.Mathlib.Omega.{arith}
use Rattle.records.specs.Views.{view_spot}
use Rattle.records.proofs.Scanning.{seek_start, seek_found, seek_next, seek_end}
use Rattle.records.proofs.scan.spot_in.Goals as goal

pub loop-at-init : goal.loop-at-init
loop-at-init c = seek_start _ _ c.requires

pub returns-in_err-found : goal.returns-in_err-found
returns-in_err-found c = ap view_spot c.from_residual.ensures ∙ seek_end _ _ _ _ c.loop-at.invariant c.in_err-found.ensures c.loop-at-test.true

pub returns-then-at-w : goal.returns-then-at-w
returns-then-at-w c =
    seek_found _ _ _ _ c.loop-at.invariant _ _ c.in_ok-found.ensures c.if-at-w.true _ _ c.header_at.ensures c.spot_of.ensures

pub overflow_cast-at : goal.overflow_cast-at
overflow_cast-at c =
    let n = seek_next _ _ _ _ c.loop-at.invariant _ _ c.in_ok-found.ensures c.if-at-w.false c.loop-at-test.true _ refl in
    omega (arith, c.loop-at.invariant.few, n.0, n.1)

pub loop-at-smaller : goal.loop-at-smaller
loop-at-smaller c =
    let n = seek_next _ _ _ _ c.loop-at.invariant _ _ c.in_ok-found.ensures c.if-at-w.false c.loop-at-test.true _ c.head_behind-head.ensures in
    omega (arith, n.0, n.1)

pub loop-at-preserved : goal.loop-at-preserved
loop-at-preserved c =
    (seek_next _ _ _ _ c.loop-at.invariant _ _ c.in_ok-found.ensures c.if-at-w.false c.loop-at-test.true _ c.head_behind-head.ensures).2

pub returns : goal.returns
returns c = sym (c.loop-at.invariant.passed c.loop-at-test.false)
