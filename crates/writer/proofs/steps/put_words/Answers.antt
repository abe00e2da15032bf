-- `writer::steps::put_words` meets its contract.
-- Assumes nothing.
use Rattle.std.proofs.lemmas.Result.{err_from_is_err_and}
use native.Mathlib.Omega.{arith}
use Rattle.rules.specs.Views.{view_step}
use Rattle.writer.specs.Views.{piece_bytes}
use Rattle.writer.proofs.PutLaws.{roomy, kept, stored}
use Rattle.writer.proofs.steps.put_words.Goals as goal

pub put_piece-requires : goal.put_piece-requires
put_piece-requires c =
    let s = c.piece_size in
    let r = roomy _ _ s.result _ _ c.in_ok-reached.ensures in
    let e = s.ensures.0 in
    omega (arith, r, e)

pub returns-in_err-reached : goal.returns-in_err-reached
returns-in_err-reached c =
    let a = c.args in
    let p = err_from_is_err_and c.from_residual.result c.from_residual.ensures.1 in
    rw (p.1, p.2) (kept a.buf.now a.length (piece_bytes a.piece) (view_step a.turn) _ c.piece_size.ensures.0 _ _ c.in_err-reached.ensures)

pub returns : goal.returns
returns c =
    let a = c.args in
    stored a.buf.now a.length (piece_bytes a.piece) (view_step a.turn) _ c.piece_size.ensures.0 _ _ c.in_ok-reached.ensures c.put_piece.ensures
