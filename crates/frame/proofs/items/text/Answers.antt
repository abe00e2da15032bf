-- `frame::items::text` meets its contract: the bytes, and where the part lies.
-- Assumes nothing.
use mathlib.Core.Path.{ap}
use native.Mathlib.Omega.{arith}
use Rattle.frame.specs.Parts.{part_from}
use Rattle.frame.proofs.Finding.{text_refused, text_none, text_part}
use Rattle.frame.proofs.items.text.Goals as goal

pub returns-then-length-lt1 : goal.returns-then-length-lt1
returns-then-length-lt1 c =
    let p = text_none _ _ _ _ _ c.in-Ok.ensures _ c.text_count-length.ensures (omega arith) in
    (p.0, ap (part_from c.args.s.ref_ptr) p.1)

pub overflow_add-from : goal.overflow_add-from
overflow_add-from c = let p = text_part _ _ _ _ _ c.in-Ok.ensures _ c.text_count-length.ensures (omega arith) in omega (arith, p.after_word, p.inside)

pub overflow_sub-from : goal.overflow_sub-from
overflow_sub-from c = let p = text_part _ _ _ _ _ c.in-Ok.ensures _ c.text_count-length.ensures (omega arith) in omega (arith, p.after_word, p.inside)

pub overflow_mul-from : goal.overflow_mul-from
overflow_mul-from c = let p = text_part _ _ _ _ _ c.in-Ok.ensures _ c.text_count-length.ensures (omega arith) in omega (arith, p.after_word, p.inside)

pub overflow_add-to : goal.overflow_add-to
overflow_add-to c = let p = text_part _ _ _ _ _ c.in-Ok.ensures _ c.text_count-length.ensures (omega arith) in omega (arith, p.after_word, p.inside)

pub slice_bounds-result-end-2 : goal.slice_bounds-result-end-2
slice_bounds-result-end-2 c = let p = text_part _ _ _ _ _ c.in-Ok.ensures _ c.text_count-length.ensures (omega arith) in omega (arith, p.after_word, p.inside)

pub returns-in_default : goal.returns-in_default
returns-in_default c =
    let p = text_refused c.args.s.now c.args.n _ _ c.in_default.ensures in
    (p.0, ap (part_from c.args.s.ref_ptr) p.1)

pub returns : goal.returns
returns c =
    let p = text_part _ _ _ _ _ c.in-Ok.ensures _ c.text_count-length.ensures (omega arith) in
    (p.bytes_are (λ i. (c.type_inv.s i).fits), ap (part_from c.args.s.ref_ptr) p.from_is)
