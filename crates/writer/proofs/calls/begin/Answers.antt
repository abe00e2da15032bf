-- `writer::calls::begin` meets its contract.
-- Assumes nothing.
use Rattle.std.proofs.lemmas.Result.{err_from_is_err_and}
use native.Mathlib.Omega.{arith}
use Rattle.writer.proofs.CallLaws.{begin_room, begin_refused, begin_wrote}
use Rattle.writer.proofs.calls.begin.Goals as goal

pub put_word-requires : goal.put_word-requires
put_word-requires c = omega (arith, begin_room c.args.buf.now _ _ _ c.in_ok-n.ensures)

pub put_word-requires-2 : goal.put_word-requires-2
put_word-requires-2 c = omega (arith, begin_room c.args.buf.now _ _ _ c.in_ok-n.ensures)

pub put_word-requires-3 : goal.put_word-requires-3
put_word-requires-3 c = omega (arith, begin_room c.args.buf.now _ _ _ c.in_ok-n.ensures)

pub returns-in_err-n : goal.returns-in_err-n
returns-in_err-n c =
    let p = err_from_is_err_and c.from_residual.result c.from_residual.ensures.1 in
    rw (p.1, p.2) (begin_refused c.args.buf.now _ _ _ _ _ c.in_err-n.ensures)

pub returns : goal.returns
returns c =
    begin_wrote c.args.buf.now _ _ _ _ _ _ _ _ c.in_ok-n.ensures c.start_word.ensures c.put_word.ensures c.put_word-2.ensures c.put_word-3.ensures
