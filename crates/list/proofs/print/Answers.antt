-- `print` is lent memory that holds any listing.
-- Assumes nothing.
use Prim.Native.Nat.{◌≤◌}
use mathlib.Core.Path.{sym}
use native.Mathlib.Omega.{arith}
use lib.Seq.{length-take-le}
use Rattle.listing.proofs.Room.{listed_ok, listed_within}
use Rattle.list.proofs.print.Goals as goal

pub unwrap-n-requires : goal.unwrap-n-requires
unwrap-n-requires g c = listed_ok c.args.buf.now (λ i. (c.type_inv.buf i).fits) c.listing.result _ _ (omega arith) c.listing.ensures

pub slice_bounds-write_all-end : goal.slice_bounds-write_all-end
slice_bounds-write_all-end g c =
    let l = rw c.unwrap-n.ensures at c.listing.ensures in
    let w : c.unwrap-n.result ≤ 92520 = listed_within c.args.buf.now (λ i. (c.type_inv.buf i).fits) c.unwrap-n.result _ _ (omega arith) l in
    omega (arith, c.listing.auto.out)

pub slice_bounds-write_all-end-2 : goal.slice_bounds-write_all-end-2
slice_bounds-write_all-end-2 g c =
    let l = rw c.unwrap-n.ensures at c.listing.ensures in
    let w : c.unwrap-n.result ≤ 92520 = listed_within c.args.buf.now (λ i. (c.type_inv.buf i).fits) c.unwrap-n.result _ _ (omega arith) l in
    sym (length-take-le _ _ (omega (arith, c.listing.auto.out)))
