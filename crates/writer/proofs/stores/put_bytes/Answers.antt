-- `writer::stores::put_bytes` meets its contract.
-- Assumes nothing.
use Prim.Native.Nat.{◌+◌}
use native.Mathlib.Omega.{arith}
use lib.ListN.{length}
use Rattle.format.proofs.items.StoringLaws.{part_stores}
use Rattle.writer.proofs.stores.put_bytes.Goals as goal

pub returns : goal.returns
returns c =
    let a = c.args in
    let p = c.requires in
    part_stores a.buf.now a.at (a.at + length a.from.now) _ a.from.now (omega arith) p (omega arith) c.copy.ensures
