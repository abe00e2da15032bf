-- `records::history::entry_fits` meets its contract.
-- Assumes nothing.
use native.Mathlib.Omega.{arith}
use mathlib.Core.Path.{refl, ap, sym, ◌∙◌}
use Rattle.format.specs.Spots.{spot_of}
use Rattle.book.specs.Views.{view_item}
use Rattle.book.specs.declared.items.Item.{Item}
use Rattle.records.specs.Views.{as_entry}
use Rattle.records.proofs.Scanning.{other_spot}
use Rattle.records.proofs.UndoLaws.{noted_item, unsound_fits, left_fits, unnoted_fits, nothing_fits, other_fits, item_fits}
use borrow.Enum.Refused.{opened}
use Rattle.records.proofs.history.entry_fits.Goals as goal

pub returns-then-not-is_sound : goal.returns-then-not-is_sound
returns-then-not-is_sound c =
    unsound_fits _ c.args.f.now (as_entry c.args.e) (λ p. sym c.if-not-is_sound.true ∙ c.is_sound.ensures p)

pub returns-then-head_at-eq-NONE : goal.returns-then-head_at-eq-NONE
returns-then-head_at-eq-NONE c =
    unnoted_fits c.args.map.now c.args.f.now c.requires _ _ (as_entry c.args.e) refl (omega (arith, c.head_at.ensures))

pub item_noted-requires : goal.item_noted-requires
item_noted-requires c =
    noted_item c.args.map.now c.args.f.now c.requires _ (omega (arith, c.head_at.ensures))

pub returns-in_default : goal.returns-in_default
returns-in_default c =
    nothing_fits c.args.map.now c.args.f.now c.requires _ _ (as_entry c.args.e) refl c.in_default.ensures

pub returns-in-Sample : goal.returns-in-Sample
returns-in-Sample c =
    item_fits c.args.map.now c.args.f.now c.requires _ _ (as_entry c.args.e) refl (omega (arith, c.head_at.ensures)) _ _ c.in-Some.ensures _ _ _
    (λ k. ap (λ (z : Item). spot_of k (view_item z)) (sym c.in-Sample.is)) (left_fits _ (as_entry c.args.e) _ _ _ _ c.is_sound.ensures c.if-not-is_sound.false c.fits_item.ensures)

pub returns-in-Bin : goal.returns-in-Bin
returns-in-Bin c =
    item_fits c.args.map.now c.args.f.now c.requires _ _ (as_entry c.args.e) refl (omega (arith, c.head_at.ensures)) _ _ c.in-Some.ensures _ _ _
    (λ k. ap (λ (z : Item). spot_of k (view_item z)) (sym c.in-Bin.is)) (left_fits _ (as_entry c.args.e) _ _ _ _ c.is_sound.ensures c.if-not-is_sound.false c.fits_item-in-Bin.ensures)

pub returns-in_default-item : goal.returns-in_default-item
returns-in_default-item c =
    other_fits c.args.map.now c.args.f.now c.requires _ _ (as_entry c.args.e) refl (omega (arith, c.head_at.ensures)) _ _ c.in-Some.ensures
    (other_spot c.in-Some.found.item (opened c.in_default-item.in_default-item-own.keys3))
