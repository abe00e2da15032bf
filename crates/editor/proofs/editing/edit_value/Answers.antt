-- `editor::editing::edit_value` meets its contract.
-- Assumes nothing.
use Rattle.std.proofs.lemmas.Result.{err_from_is_err_and}
use Rattle.editor.proofs.EditLaws.{tests_left, edited_refused, edited_written}
use Rattle.editor.proofs.editing.edit_value.Goals as goal

pub returns-in_err-edit_tests : goal.returns-in_err-edit_tests
returns-in_err-edit_tests c =
    let p = err_from_is_err_and c.from_residual.result c.from_residual.ensures.1 in
    rw (p.1, p.2) (edited_refused _ _ _ _ (tests_left _ _ c.requires.0 c.args.c _ _ c.requires.1 _ c.in_err-edit_tests.ensures))

pub write_edit-requires : goal.write_edit-requires
write_edit-requires c =
    record {
      known = c.requires.0;
      accepted = tests_left _ _ c.requires.0 c.args.c _ _ c.requires.1 _ c.in_ok-edit_tests.ensures;
      holds = c.requires.1;
    }

pub returns : goal.returns
returns c =
    edited_written _ _ _ (tests_left _ _ c.requires.0 c.args.c _ _ c.requires.1 _ c.in_ok-edit_tests.ensures) c.write_edit.ensures
