-- `editor::restoring::restore` meets its contract.
-- Assumes nothing.
use Rattle.std.proofs.lemmas.Result.{err_from_is_err_and}
use Rattle.editor.proofs.KnownLaws.{record_known, record_refused}
use Rattle.editor.proofs.Orders.{first_refuses, first_passes, first_last}
use Rattle.editor.proofs.RestoreLaws.{restore_left, restore_unknown}
use Rattle.editor.proofs.restoring.restore.Goals as goal

pub returns-in_err-x : goal.returns-in_err-x
returns-in_err-x c =
    let p = err_from_is_err_and c.from_residual.result c.from_residual.ensures.1 in
    let t = c.in_err-x.ensures in
    rw (p.1, p.2) (record { answered = restore_unknown c.args.buf.now c.args.k c.args.out.now _ _ (record_refused _ _ _ _ t.answered); left = t.left })

pub returns-in_err-need : goal.returns-in_err-need
returns-in_err-need c =
    let p = err_from_is_err_and c.from_residual-in_err-need.result c.from_residual-in_err-need.ensures.1 in
    let t = c.in_ok-x.ensures in
    rw (p.1, p.2) (record { answered = restore_left _ _ _ _ (record_known _ _ _ t.answered) _ (first_refuses _ _ _ _ c.in_err-need.ensures); left = t.left })

pub returns : goal.returns
returns c =
    let t = c.in_ok-x.ensures in
    record { answered = restore_left _ _ _ _ (record_known _ _ _ t.answered) _ (first_passes _ _ _ c.in_ok-need.ensures (first_last _ _ c.need-2.ensures)); left = t.left }
