-- `listing::pieces::Lines::record_lines` meets its contract.
-- Assumes nothing.
use mathlib.Core.Path.{ap, sym, ◌∙◌}
use native.Mathlib.Omega.{arith}
use Rattle.frame.specs.Views.{view_reading}
use Rattle.listing.proofs.Putting.{joined, wider}
use Rattle.listing.proofs.Listings.{inside, frame_inside, few, frame_read, record_text, retold}
use Rattle.listing.proofs.pieces.Lines.record_lines.Goals as goal

pub overflow_add-end : goal.overflow_add-end
overflow_add-end c = omega (arith, frame_inside _ _ _ c.requires.0)

pub slice_bounds-read-end : goal.slice_bounds-read-end
slice_bounds-read-end c = omega (arith, frame_inside _ _ _ c.requires.0)

pub entry_lines-requires : goal.entry_lines-requires
entry_lines-requires c =
    let v = c.word-version.ensures in
    let p = c.requires in
    let m = few _ _ _ p.0 in
    (v, omega (arith, p.0.length), inside _ _ _ p.0 _ v, omega (arith, p.1))

pub end_line-requires : goal.end_line-requires
end_line-requires c =
    let p = c.requires in
    let m = few _ _ _ p.0 in
    omega (arith, p.1)

pub unwrap-frame-requires : goal.unwrap-frame-requires
unwrap-frame-requires c = frame_read _ _ _ c.requires.0 c.read.result c.read.ensures

pub returns : goal.returns
returns c =
    let k = c.requires.0 in
    let m = few _ _ _ k in
    wider 92520 (omega arith)
    (retold (record_text _ _ _ k _ (sym (ap view_reading c.unwrap-frame.ensures) ∙ c.read.ensures))
    (joined (joined c.frame_line.ensures c.entry_lines.ensures) c.end_line.ensures))
