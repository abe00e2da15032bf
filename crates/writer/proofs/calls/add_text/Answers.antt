-- `writer::calls::add_text` meets its contract.
-- Assumes nothing.
use borrow.Author.Rules.{rules}
use Rattle.std.proofs.lemmas.Result.{err_from_is_err_and}
use Rattle.writer.proofs.AddLaws.{partial_refused, text_added}
use Rattle.writer.proofs.calls.add_text.Goals as goal

pub returns-in_err-frame : goal.returns-in_err-frame
returns-in_err-frame c =
    let p = err_from_is_err_and c.from_residual.result c.from_residual.ensures.1 in
    rw (p.1, p.2) (partial_refused c.args.buf.now _ _ _ _ c.in_err-frame.ensures)

pub returns-in_err-reached : goal.returns-in_err-reached
returns-in_err-reached c =
    let p = err_from_is_err_and c.from_residual-in_err-reached.result c.from_residual-in_err-reached.ensures.1 in
    rw (p.1, p.2) (text_added c.args.buf.now _ (λ i. search rules) _ c.in_ok-frame.ensures _ _ _ c.in_err-reached.ensures)

pub returns : goal.returns
returns c = text_added c.args.buf.now _ (λ i. search rules) _ c.in_ok-frame.ensures _ _ _ c.in_ok-reached.ensures
