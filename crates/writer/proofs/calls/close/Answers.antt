-- `writer::calls::close` meets its contract.
-- Assumes nothing.
use Rattle.std.proofs.lemmas.Result.{err_from_is_err_and}
use native.Mathlib.Omega.{arith}
use Rattle.writer.proofs.CallLaws.{close_room, refused_close, close_wrote}
use Rattle.writer.proofs.calls.close.Goals as goal

pub overflow_cast-n : goal.overflow_cast-n
overflow_cast-n c =
    let r = close_room c.args.buf.now _ _ c.in_ok-n.ensures in
    omega (arith, r.0, r.3)

pub put_word-requires : goal.put_word-requires
put_word-requires c =
    let r = close_room c.args.buf.now _ _ c.in_ok-n.ensures in
    omega (arith, r.1, r.2)

pub put_word-requires-2 : goal.put_word-requires-2
put_word-requires-2 c =
    let r = close_room c.args.buf.now _ _ c.in_ok-n.ensures in
    omega (arith, r.1)

pub returns-in_err-n : goal.returns-in_err-n
returns-in_err-n c =
    let p = err_from_is_err_and c.from_residual.result c.from_residual.ensures.1 in
    rw (p.1, p.2) (refused_close c.args.buf.now _ _ _ c.in_err-n.ensures)

pub returns : goal.returns
returns c = close_wrote c.args.buf.now _ _ _ _ c.in_ok-n.ensures c.put_word.ensures c.put_word-2.ensures
