-- `book::items::header_bits` meets its contract: each masked field stands at its place, and parts that share no bit add up.
-- Assumes nothing.
use Prim.Native.Nat.{◌+◌, ◌*◌, ◌%◌}
use lib.Dec.{lit≤}
use lib.Bits.{and_mask}
use native.Mathlib.Omega.{arith}
use Rattle.book.proofs.Bits.{placed, join}
use Rattle.book.proofs.items.header_bits.Goals as goal

pub returns : goal.returns
returns c =
    let a = c.args.card % 32 * 512 in
    let b = c.args.chip % 4 * 128 in
    rw (placed 16 5 9 _ (lit≤ tt), placed 16 2 7 _ (lit≤ tt), and_mask _ 7, join 9 a b (omega arith) (omega arith)) (join 7 (a + b) (c.args.low % 128) (omega arith) (omega arith))
