-- `frame::items::item` meets its contract: the item stands at the index that the walk noted.
-- Assumes nothing.
use mathlib.Core.Path.{◌≡◌, ap, refl, sym, ◌∙◌}
use Rattle.std.proofs.lemmas.Result.{err_from_is_err_and}
use Rattle.book.specs.declared.refusal.Fault.TheVariants.{Absent}
use Rattle.cursor.specs.Views.{view_standing}
use Rattle.frame.proofs.Finding.{shown_refused, item_found, item_missing}
use Rattle.frame.proofs.items.item.Goals as goal

pub returns-in_err-index : goal.returns-in_err-index
returns-in_err-index c =
    let p = err_from_is_err_and c.from_residual.result c.from_residual.ensures.1 in
    rw (p.1, p.2) (shown_refused _ _ _ _ c.in_err-index.ensures)

pub returns-in_err-found : goal.returns-in_err-found
returns-in_err-found c =
    let n = c.in_err-found.ensures.ok_part in
    let v = rw n at c.in_err-found.ensures.value in
    let f : c.in_err-found.field-0.0 ≡ Absent = cc in
    let p = err_from_is_err_and c.from_residual-in_err-found.result c.from_residual-in_err-found.ensures.1 in
    rw (p.1, p.2, f) (item_missing _ _ _ c.in_ok-index.ensures (sym (ap view_standing n) ∙ c.item_at.ensures))

pub returns : goal.returns
returns c = item_found _ _ _ c.in_ok-index.ensures _ (sym (ap view_standing c.in_ok-found.ensures.ok_part) ∙ c.item_at.ensures) _ refl
