-- `writer::steps::text_words` meets its contract.
-- Assumes nothing.
use Prim.Native.Nat.{ℕ, ◌+◌, ◌*◌, ◌/◌, ◌%◌}
use mathlib.Core.Path.{ap, ◌∙◌}
use Rattle.std.proofs.lemmas.Result.{err_from_is_err_and}
use native.Mathlib.Omega.{arith}
use lib.ListN.{length}
use lib.Seq.{sets}
use Rattle.rules.specs.Views.{view_step}
use Rattle.writer.specs.Views.{text_bytes, lettered}
use Rattle.writer.proofs.StoreTurns.{text_size}
use Rattle.writer.proofs.PutLaws.{roomy, kept, stored}
use Rattle.writer.proofs.steps.text_words.Goals as goal

pub put_letters-requires : goal.put_letters-requires
put_letters-requires c =
    let a = c.args in
    let r = roomy _ _ (2 + (length a.letters.now + 2) / 2 * 2) _ _ c.in_ok-reached.ensures in
    let s = text_size c.word-w.result a.letters.now in
    omega (arith, r, s)

pub returns-in_err-reached : goal.returns-in_err-reached
returns-in_err-reached c =
    let a = c.args in
    let s = a.letters.now in
    let p = err_from_is_err_and c.from_residual.result c.from_residual.ensures.1 in
    rw (p.1, p.2) (kept a.buf.now a.length (lettered s) (view_step a.turn) _ (text_size (0x0100 + (length s + 1) % 256) s) _ _ c.in_err-reached.ensures)

pub returns : goal.returns
returns c =
    let a = c.args in
    let s = a.letters.now in
    stored a.buf.now a.length (lettered s) (view_step a.turn) _ (text_size (0x0100 + (length s + 1) % 256) s) _ _ c.in_ok-reached.ensures
    (c.put_letters.ensures ∙ ap (λ (v : ℕ). sets a.buf.now a.length (text_bytes v s)) c.word-w.ensures)
