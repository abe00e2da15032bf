-- `editor::opening::open` meets its contract.
-- Assumes nothing.
use native.Mathlib.Omega.{arith}
use Rattle.std.proofs.lemmas.Result.{err_from_is_err_and}
use Rattle.editor.proofs.OpenLaws.{frame_short, opened_refused, opened_no_room, opened_written}
use Rattle.editor.proofs.opening.open.Goals as goal

pub write_open-requires : goal.write_open-requires
write_open-requires c =
    (omega arith, frame_short _ c.args.buf.now _ c.in_ok-read.ensures (λ i. (c.type_inv.frame i).fits))

pub returns-in_err-read : goal.returns-in_err-read
returns-in_err-read c =
    let p = err_from_is_err_and c.from_residual.result c.from_residual.ensures.1 in
    rw (p.1, p.2) (opened_refused _ _ _ _ c.in_err-read.ensures)

pub returns-then-buf-frame : goal.returns-then-buf-frame
returns-then-buf-frame c = rw c.into.ensures (opened_no_room _ c.args.buf.now _ c.in_ok-read.ensures (omega arith))

pub returns : goal.returns
returns c = opened_written _ c.args.buf.now _ c.in_ok-read.ensures _ (omega arith) c.write_open.ensures
