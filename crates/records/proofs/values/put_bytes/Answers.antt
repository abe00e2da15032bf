-- `records::values::put_bytes` meets its contract.
-- Assumes nothing.
use mathlib.Core.Path.{sym}
use native.Mathlib.Omega.{arith}
use Rattle.format.proofs.items.StoringLaws.{sets_out}
use Rattle.records.proofs.Storing.{stored_from}
use Rattle.records.proofs.values.put_bytes.Goals as goal

pub returns-then-at-buf : goal.returns-then-at-buf
returns-then-at-buf c = stored_from c.args.buf.now _ c.args.from.now _ c.if-at-buf.true c.copy.ensures

pub returns-else-at-buf : goal.returns-else-at-buf
returns-else-at-buf c = sym (sets_out c.args.from.now c.args.buf.now c.args.at (omega arith))
