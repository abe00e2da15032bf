-- `records::scan::note_heads` meets its contract: the words passed are noted, the others still blank.
-- Assumes nothing.
use mathlib.Core.Path.{refl}
use lib.ListN.{length-set}
use native.Mathlib.Omega.{arith}
use Rattle.records.proofs.Scanning.{note_start, tested_before, note_before, note_plain, note_bin, note_header, note_short, note_item, note_end}
use Rattle.records.proofs.scan.note_heads.Goals as goal

pub loop-map-init : goal.loop-map-init
loop-map-init c = let p = c.requires in (note_start _ _ p.0 p.1 p.2, refl)

pub word_in-w-requires : goal.word_in-w-requires
word_in-w-requires c = let g = c.loop-map.invariant.0 in omega (arith, g.within, g.begun)

pub offset_bounds-map-at : goal.offset_bounds-map-at
offset_bounds-map-at c = let g = c.loop-map.invariant.0 in omega (arith, g.few, g.within)

pub bounds-map-at : goal.bounds-map-at
bounds-map-at c = let g = c.loop-map.invariant.0 in omega (arith, g.few, g.within, g.long)

pub overflow_add-at : goal.overflow_add-at
overflow_add-at c = let g = c.loop-map.invariant.0 in omega (arith, g.few, g.within)

pub loop-map-smaller-then-w : goal.loop-map-smaller-then-w
loop-map-smaller-then-w c =
    let i = c.loop-map.invariant.0 in
    omega (arith, tested_before _ _ _ _ i 0x3000 0x8000 _ c.word_in-w.ensures c.if-w.true (omega arith))

pub loop-map-preserved-then-w : goal.loop-map-preserved-then-w
loop-map-preserved-then-w c =
    let i = c.loop-map.invariant in
    (note_plain _ _ _ _ i.0 _ c.word_in-w.ensures c.if-w.true, rw length-set i.1)

pub offset_bounds-map-at-then-w-2 : goal.offset_bounds-map-at-then-w-2
offset_bounds-map-at-then-w-2 c = let g = c.loop-map.invariant.0 in omega (arith, g.few, g.within)

pub bounds-map-at-then-w-2 : goal.bounds-map-at-then-w-2
bounds-map-at-then-w-2 c = let g = c.loop-map.invariant.0 in omega (arith, g.few, g.within, g.long)

pub overflow_add-at-then-w-2 : goal.overflow_add-at-then-w-2
overflow_add-at-then-w-2 c = let g = c.loop-map.invariant.0 in omega (arith, g.few, g.within)

pub loop-map-smaller-then-w-2 : goal.loop-map-smaller-then-w-2
loop-map-smaller-then-w-2 c =
    let i = c.loop-map.invariant.0 in
    omega (arith, tested_before _ _ _ _ i 0x2000 0x3000 _ c.word_in-w.ensures c.if-w-2.true (omega arith))

pub loop-map-preserved-then-w-2 : goal.loop-map-preserved-then-w-2
loop-map-preserved-then-w-2 c =
    let i = c.loop-map.invariant in
    (note_bin _ _ _ _ i.0 _ c.word_in-w.ensures c.if-w-2.true, rw length-set i.1)

pub overflow_cast-head : goal.overflow_cast-head
overflow_cast-head c = let g = c.loop-map.invariant.0 in omega (arith, g.few, g.within)

pub offset_bounds-map-at-then-w-ge-HISTOGRAM : goal.offset_bounds-map-at-then-w-ge-HISTOGRAM
offset_bounds-map-at-then-w-ge-HISTOGRAM c = let g = c.loop-map.invariant.0 in omega (arith, g.few, g.within)

pub bounds-map-at-then-w-ge-HISTOGRAM : goal.bounds-map-at-then-w-ge-HISTOGRAM
bounds-map-at-then-w-ge-HISTOGRAM c = let g = c.loop-map.invariant.0 in omega (arith, g.few, g.within, g.long)

pub overflow_add-at-then-w-ge-HISTOGRAM : goal.overflow_add-at-then-w-ge-HISTOGRAM
overflow_add-at-then-w-ge-HISTOGRAM c = let g = c.loop-map.invariant.0 in omega (arith, g.few, g.within)

pub loop-map-smaller-then-w-ge-HISTOGRAM : goal.loop-map-smaller-then-w-ge-HISTOGRAM
loop-map-smaller-then-w-ge-HISTOGRAM c =
    let i = c.loop-map.invariant.0 in
    omega (arith, note_before _ _ _ _ i _ c.word_in-w.ensures (omega arith))

pub loop-map-preserved-then-w-ge-HISTOGRAM : goal.loop-map-preserved-then-w-ge-HISTOGRAM
loop-map-preserved-then-w-ge-HISTOGRAM c =
    let i = c.loop-map.invariant in
    (note_header _ _ _ _ i.0 _ c.word_in-w.ensures (omega arith) (omega arith) _ refl, rw length-set i.1)

pub offset_bounds-map-at-then-w-ge-TIME_BIN : goal.offset_bounds-map-at-then-w-ge-TIME_BIN
offset_bounds-map-at-then-w-ge-TIME_BIN c = let g = c.loop-map.invariant.0 in omega (arith, g.few, g.within)

pub bounds-map-at-then-w-ge-TIME_BIN : goal.bounds-map-at-then-w-ge-TIME_BIN
bounds-map-at-then-w-ge-TIME_BIN c = let g = c.loop-map.invariant.0 in omega (arith, g.few, g.within, g.long)

pub overflow_add-at-then-w-ge-TIME_BIN : goal.overflow_add-at-then-w-ge-TIME_BIN
overflow_add-at-then-w-ge-TIME_BIN c = let g = c.loop-map.invariant.0 in omega (arith, g.few, g.within)

pub loop-map-smaller-then-w-ge-TIME_BIN : goal.loop-map-smaller-then-w-ge-TIME_BIN
loop-map-smaller-then-w-ge-TIME_BIN c =
    let i = c.loop-map.invariant.0 in
    omega (arith, note_before _ _ _ _ i _ c.word_in-w.ensures (omega arith))

pub loop-map-preserved-then-w-ge-TIME_BIN : goal.loop-map-preserved-then-w-ge-TIME_BIN
loop-map-preserved-then-w-ge-TIME_BIN c =
    let i = c.loop-map.invariant in
    (note_short _ _ _ _ i.0 _ c.word_in-w.ensures c.if-w.false c.if-w-2.false (omega arith) (omega arith), rw length-set i.1)

pub shape_of-map-in_default : goal.shape_of-map-in_default
shape_of-map-in_default c = c.loop-map.invariant.1

pub returns-in_default : goal.returns-in_default
returns-in_default c =
    note_end _ _ _ _ c.loop-map.invariant.0 c.in_default.ensures

pub overflow_cast-at : goal.overflow_cast-at
overflow_cast-at c = let g = c.loop-map.invariant.0 in omega (arith, g.few, g.within)

pub offset_bounds-map-at-in-loop-map : goal.offset_bounds-map-at-in-loop-map
offset_bounds-map-at-in-loop-map c = let g = c.loop-map.invariant.0 in omega (arith, g.few, g.within)

pub bounds-map-at-in-loop-map : goal.bounds-map-at-in-loop-map
bounds-map-at-in-loop-map c = let g = c.loop-map.invariant.0 in omega (arith, g.few, g.within, g.long)

pub loop-map-smaller : goal.loop-map-smaller
loop-map-smaller c =
    let n = note_item _ _ _ _ c.loop-map.invariant.0 _ _ c.in-Some.ensures _ c.head_behind-head.ensures in
    omega (arith, n.0, n.1)

pub loop-map-preserved : goal.loop-map-preserved
loop-map-preserved c =
    let v = c.loop-map.invariant in
    ((note_item _ _ _ _ v.0 _ _ c.in-Some.ensures _ c.head_behind-head.ensures).2, rw length-set v.1)
