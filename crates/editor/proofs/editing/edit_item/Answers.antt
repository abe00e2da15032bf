-- `editor::editing::edit_item` meets its contract.
-- Assumes nothing.
use native.Mathlib.Omega.{arith}
use borrow.Enum.Refused.{opened}
use mathlib.Core.Path.{sym, ap, ◌∙◌}
use Rattle.format.specs.Spots.{spot_of}
use Rattle.book.specs.Views.{view_item}
use Rattle.book.specs.declared.items.Item.{Item}
use Rattle.records.specs.Views.{view_header, view_spot}
use Rattle.records.proofs.Scanning.{other_spot}
use Rattle.editor.proofs.KnownLaws.{inside}
use Rattle.editor.proofs.EditLaws.{sum_two, not_standing, other_item, item_holds, no_target, edited_refused, total_fits}
use Rattle.editor.proofs.editing.edit_item.Goals as goal

pub slice_bounds-item_at-end : goal.slice_bounds-item_at-end
slice_bounds-item_at-end c =
    let k = c.requires.0 in
    omega (arith, inside _ _ _ k, sum_two _ _ k)

pub returns-in_default : goal.returns-in_default
returns-in_default c =
    rw c.into.ensures (edited_refused _ _ _ _ (no_target _ _ c.requires.0 c.args.c (sym (ap view_spot c.in_default.is) ∙ c.requires.1)))

pub returns-in_default-item_at : goal.returns-in_default-item_at
returns-in_default-item_at c =
    rw c.into-in_default-item_at.ensures
    (edited_refused _ _ _ _ (no_target _ _ c.requires.0 c.args.c (not_standing _ _ c.requires.0 (λ i. (c.slice_known-1.given i).fits) _ c.in_default-item_at.ensures)))

pub edit_value-requires : goal.edit_value-requires
edit_value-requires c =
    (c.requires.0, item_holds _ _ c.requires.0 (λ i. (c.slice_known-1.given i).fits) _ _ _ _ (sym (ap view_spot c.in-Some.is) ∙ c.requires.1) c.in-Some-item_at.ensures _ _ (ap (λ (z : Item). spot_of (view_header c.in-Some._spot.header) (view_item z)) (sym c.in-Sample.is)), total_fits _ _ c.requires.0 (λ i. (c.slice_known-1.given i).fits))

pub edit_value-requires-in-Bin : goal.edit_value-requires-in-Bin
edit_value-requires-in-Bin c =
    (c.requires.0, item_holds _ _ c.requires.0 (λ i. (c.slice_known-1.given i).fits) _ _ _ _ (sym (ap view_spot c.in-Some.is) ∙ c.requires.1) c.in-Some-item_at.ensures _ _ (ap (λ (z : Item). spot_of (view_header c.in-Some._spot.header) (view_item z)) (sym c.in-Bin.is)), total_fits _ _ c.requires.0 (λ i. (c.slice_known-1.given i).fits))

pub returns-in_default-item : goal.returns-in_default-item
returns-in_default-item c =
    rw c.into-in_default-item.ensures
    (edited_refused _ _ _ _ (no_target _ _ c.requires.0 c.args.c (other_item _ _ c.requires.0 (λ i. (c.slice_known-1.given i).fits) _ _ _ _ (sym (ap view_spot c.in-Some.is) ∙ c.requires.1) c.in-Some-item_at.ensures (other_spot c.in-Some-item_at.field-0.item (opened c.in_default-item.in_default-item-own.keys3) _))))
