-- `frame::walk::walk` meets its contract: the loop keeps that what is left to walk, after the items behind it, is the whole walk.
-- Assumes nothing.
use mathlib.Core.Path.{ap}
use native.Mathlib.Omega.{arith}
use Rattle.rules.specs.Views.{view_kind, view_step}
use Rattle.frame.proofs.Loop.{live_start, live_moved, live_run, live_stopped, live_end, live_few}
use Rattle.frame.proofs.walk.walk.Goals as goal

pub loop-at-init : goal.loop-at-init
loop-at-init c = (c.requires, live_start _ _ _ _ _ (view_kind c.args.kind) c.requires c.start-st.ensures)

pub step-requires : goal.step-requires
step-requires c = (omega arith, omega arith, c.page-rows.ensures)

pub overflow_add-count : goal.overflow_add-count
overflow_add-count c =
    let f = live_few _ _ _ _ _ _ _ _ _ c.loop-at.invariant.1 in
    omega (arith, f.0, f.1)

pub repeats_at-run-requires : goal.repeats_at-run-requires
repeats_at-run-requires c =
    let m = live_moved _ _ _ _ _ _ _ _ _ c.loop-at.invariant.1 c.loop-at-test.true _ c.step.ensures _ _ _ (ap view_step c.in-Ok.is) c.noted-index.ensures in
    (m.1, c.loop-at.invariant.0)

pub overflow_add-count-in-loop-at : goal.overflow_add-count-in-loop-at
overflow_add-count-in-loop-at c =
    let m = live_moved _ _ _ _ _ _ _ _ _ c.loop-at.invariant.1 c.loop-at-test.true _ c.step.ensures _ _ _ (ap view_step c.in-Ok.is) c.noted-index.ensures in
    let e = c.repeats_at-run.ensures in
    let l = live_run _ _ _ _ _ _ _ _ _ m.2 _ (λ i h. c.ahead.ensures.0 i (omega (arith, e.few))) _ _ e.turns in
    omega (arith, (live_few _ _ _ _ _ _ _ _ _ l).0)

pub loop-at-smaller : goal.loop-at-smaller
loop-at-smaller c =
    let m = live_moved _ _ _ _ _ _ _ _ _ c.loop-at.invariant.1 c.loop-at-test.true _ c.step.ensures _ _ _ (ap view_step c.in-Ok.is) c.noted-index.ensures in
    omega (arith, m.0, c.repeats_at-run.ensures.onwards)

pub loop-at-preserved : goal.loop-at-preserved
loop-at-preserved c =
    let m = live_moved _ _ _ _ _ _ _ _ _ c.loop-at.invariant.1 c.loop-at-test.true _ c.step.ensures _ _ _ (ap view_step c.in-Ok.is) c.noted-index.ensures in
    let e = c.repeats_at-run.ensures in
    (c.loop-at.invariant.0, live_run _ _ _ _ _ _ _ _ _ m.2 _ (λ i h. c.ahead.ensures.0 i (omega (arith, e.few))) _ _ e.turns)

pub returns-in-Err : goal.returns-in-Err
returns-in-Err c =
    rw c.at.ensures
    (live_stopped _ _ _ _ _ _ _ _ _ c.loop-at.invariant.1 c.loop-at-test.true _ c.step.ensures _ (view_kind c.args.kind) (ap view_step c.in-Err.is) c.start-st.ensures)

pub returns : goal.returns
returns c = live_end _ _ _ _ _ _ _ _ _ c.loop-at.invariant.1 c.loop-at-test.false (view_kind c.args.kind) c.start-st.ensures
