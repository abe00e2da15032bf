-- `writer::calls::may_close` meets its contract.
-- Assumes nothing.
use mathlib.Core.Path.{ap, ◌∙◌}
use Rattle.std.proofs.lemmas.Result.{err_from_is_err_and}
use native.Mathlib.Omega.{arith}
use Rattle.book.specs.Refusals.{refusal}
use Rattle.writer.specs.Views.{view_written}
use Rattle.writer.proofs.CallLaws.{short, may_close, close_short, close_open, close_partial}
use Rattle.writer.proofs.calls.may_close.Goals as goal

pub overflow_add-length : goal.overflow_add-length
overflow_add-length c =
    let s = short c.args.buf.now _ _ c.in_ok-frame.ensures in
    omega (arith, s)

pub returns-in_err-frame : goal.returns-in_err-frame
returns-in_err-frame c =
    let p = err_from_is_err_and c.from_residual.result c.from_residual.ensures.1 in
    ap view_written p.1 ∙ ap refusal p.2 ∙ close_partial c.args.buf.now _ _ _ c.in_err-frame.ensures

pub returns-then-not-may_end : goal.returns-then-not-may_end
returns-then-not-may_end c = ap refusal c.at.ensures ∙ close_open c.args.buf.now _ _ c.in_ok-frame.ensures _ c.may_end.ensures c.if-not-may_end.true

pub returns-then-buf-length : goal.returns-then-buf-length
returns-then-buf-length c =
    ap refusal c.into.ensures ∙ close_short c.args.buf.now _ _ c.in_ok-frame.ensures _ c.may_end.ensures c.if-not-may_end.false c.if-buf-length.true

pub returns : goal.returns
returns c = may_close c.args.buf.now _ _ c.in_ok-frame.ensures _ c.may_end.ensures c.if-not-may_end.false c.if-buf-length.false
