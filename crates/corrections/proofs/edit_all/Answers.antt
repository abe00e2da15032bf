-- `corrections::edit_all` meets its contract: each turn makes the correction at its position, which is what the list from there on begins with.
-- Assumes nothing.
use Rattle.std.proofs.Common.{◌≡◌, ◌∙◌, rules}
use Rattle.std.proofs.lemmas.Result.{err_from_is_err_and}
use Rattle.std.specs.Prelude.{Err}
use Rattle.book.specs.Refusals.{number_of}
use Rattle.book.proofs.Mapped.{as_accepted, as_refused}
use Rattle.editor.specs.Views.{view_done}
use Rattle.corrections.specs.Lists.{at_position}
use Rattle.corrections.specs.Views.{view_corrected}
use Rattle.corrections.proofs.Turns.{turn_made, turn_refused, through}
use Rattle.corrections.proofs.edit_all.Goals as goal

pub returns-in_err-map_err : goal.returns-in_err-map_err
returns-in_err-map_err c =
    let (q, e, l) = as_refused _ c.edit.result _ c.map_err.ensures.cases _ c.in_err-map_err.was in
    let d : view_corrected (Err c.in_err-map_err.field-0.0) ≡ at_position c.loop-position.position-counter (view_done (Err q)) = search rules in
    let p = err_from_is_err_and c.from_residual.result c.from_residual.ensures.1 in
    let t = turn_refused _ _ _ _ _ c.loop-position-test.true (number_of q.fault) q.place (rw e at c.edit.ensures) in
    rw (p.1, p.2) (record { answered = d ∙ t.0 ∙ c.loop-position.invariant.answered; left = t.1 ∙ c.loop-position.invariant.left })

pub loop-position-preserved : goal.loop-position-preserved
loop-position-preserved c =
    let e = as_accepted _ c.edit.result _ c.map_err.ensures.cases _ c.in_ok-map_err.was in
    let t = turn_made _ _ _ _ _ c.loop-position-test.true (rw e at c.edit.ensures) in
    record { answered = t.0 ∙ c.loop-position.invariant.answered; left = t.1 ∙ c.loop-position.invariant.left }

pub returns : goal.returns
returns c =
    let t = through _ _ _ c.loop-position-test.false in
    record { answered = t.0 ∙ c.loop-position.invariant.answered; left = t.1 ∙ c.loop-position.invariant.left }
