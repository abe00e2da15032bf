-- `editor::editing::edit_tests` meets its contract.
-- Assumes nothing.
use Rattle.std.proofs.lemmas.Result.{err_from_is_err_and}
use Rattle.editor.proofs.EditLaws.{not_new, not_signed, too_many, fits_in}
use Rattle.editor.proofs.editing.edit_tests.Goals as goal

pub returns-in_err-need : goal.returns-in_err-need
returns-in_err-need c =
    let p = err_from_is_err_and c.from_residual.result c.from_residual.ensures.1 in
    let l = rw c.numbered.ensures at c.legal-fresh.ensures in
    rw (p.1, p.2) (not_new c.args.c _ _ _ _ _ l _ _ c.in_err-need.ensures)

pub returns-in_err-need-2 : goal.returns-in_err-need-2
returns-in_err-need-2 c =
    let p = err_from_is_err_and c.from_residual-in_err-need-2.result c.from_residual-in_err-need-2.ensures.1 in
    let l = rw c.numbered.ensures at c.legal-fresh.ensures in
    rw (p.1, p.2) (not_signed c.args.c _ _ _ _ _ l c.in_ok-need.ensures _ c.signed-named.ensures _ _ c.in_err-need-2.ensures)

pub returns-in_err-need-3 : goal.returns-in_err-need-3
returns-in_err-need-3 c =
    let p = err_from_is_err_and c.from_residual-in_err-need-3.result c.from_residual-in_err-need-3.ensures.1 in
    let l = rw c.numbered.ensures at c.legal-fresh.ensures in
    rw (p.1, p.2) (too_many c.args.c _ _ _ _ _ l c.in_ok-need.ensures _ c.signed-named.ensures c.in_ok-need-2.ensures _ _ c.in_err-need-3.ensures)

pub returns : goal.returns
returns c =
    let l = rw c.numbered.ensures at c.legal-fresh.ensures in
    fits_in c.args.c _ _ _ _ _ l c.in_ok-need.ensures _ c.signed-named.ensures c.in_ok-need-2.ensures c.in_ok-need-3.ensures _ c.need-4.ensures
