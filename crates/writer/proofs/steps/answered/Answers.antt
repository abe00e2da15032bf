-- `writer::steps::answered` meets its contract.
-- Assumes nothing.
use Prim.Native.Nat.{◌/◌}
use mathlib.Core.Path.{◌≡◌, ap, ◌∙◌}
use Rattle.std.proofs.Common.{rules}
use Rattle.std.proofs.lemmas.Result.{err_from_is_err_and}
use Rattle.book.specs.Refusals.{refusal}
use Rattle.book.proofs.Mapped.{as_accepted, as_refused}
use Rattle.rules.specs.Views.{view_step}
use Rattle.writer.proofs.PutLaws.{turned_away, comes_in, no_room}
use Rattle.writer.proofs.steps.answered.Goals as goal

pub returns-in_err-moved : goal.returns-in_err-moved
returns-in_err-moved c =
    let (f, e, l) = as_refused _ _ _ c.map_err.ensures.cases _ c.in_err-moved.was in
    let d : c.in_err-moved.field-0.0 ≡ record { fault = f; place = c.args.length / 2 } = search rules in
    let p = err_from_is_err_and c.from_residual.result c.from_residual.ensures.1 in
    rw (p.1, p.2, d) (turned_away c.args.room _ c.args.size _ _ (ap view_step e))

pub returns-then-not-has_room : goal.returns-then-not-has_room
returns-then-not-has_room c =
    ap refusal c.into.ensures ∙ no_room _ _ _ _ _ _ _ (ap view_step (as_accepted _ _ _ c.map_err.ensures.cases _ c.in_ok-moved.was)) c.has_room.ensures c.if-not-has_room.true

pub returns : goal.returns
returns c = comes_in _ _ _ _ _ _ _ (ap view_step (as_accepted _ _ _ c.map_err.ensures.cases _ c.in_ok-moved.was)) c.has_room.ensures c.if-not-has_room.false
