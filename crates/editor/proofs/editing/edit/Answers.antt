-- `editor::editing::edit` meets its contract.
-- Assumes nothing.
use Rattle.std.proofs.lemmas.Result.{err_from_is_err_and}
use Rattle.editor.proofs.KnownLaws.{judged_known, judged_refused}
use Rattle.editor.proofs.EditLaws.{judged_two, edited_other, edited_unknown}
use Rattle.editor.proofs.editing.edit.Goals as goal

pub returns-then-word-ne-VERSION : goal.returns-then-word-ne-VERSION
returns-then-word-ne-VERSION c = rw c.into.ensures (edited_other _ _ _ c.word.ensures c.if-word-ne-VERSION.true)

pub edit_item-requires : goal.edit_item-requires
edit_item-requires c =
    judged_known _ _ _ _ _ (judged_two _ _ _ _ c.word.ensures c.if-word-ne-VERSION.false c.in_ok-judged.ensures)

pub returns-in_err-judged : goal.returns-in_err-judged
returns-in_err-judged c =
    let p = err_from_is_err_and c.from_residual.result c.from_residual.ensures.1 in
    rw (p.1, p.2) (edited_unknown _ _ _ _ (judged_refused _ _ _ _ _ (judged_two _ _ _ _ c.word.ensures c.if-word-ne-VERSION.false c.in_err-judged.ensures)))
