-- `frame::partial::partial` meets its contract.
-- Assumes nothing.
use Prim.Native.Nat.{ℕ, ◌%◌}
use mathlib.Core.Path.{refl, ap, ◌∙◌}
use native.Mathlib.Omega.{arith}
use lib.Bits.{and_mask}
use Rattle.std.proofs.lemmas.Result.{err_from_is_err_and}
use Rattle.format.specs.Book.{class_of}
use Rattle.format.specs.Frames.{start_fits, kind_of}
use Rattle.format.proofs.reader.PartialJudging.{fault_refused, started}
use Rattle.frame.proofs.Judging.{no_fault}
use Rattle.frame.proofs.PartialTurns.{stopped, ended}
use Rattle.frame.proofs.partial.partial.Goals as goal

pub returns-in_err-partial_fault : goal.returns-in_err-partial_fault
returns-in_err-partial_fault c =
    let p = err_from_is_err_and c.from_residual.result c.from_residual.ensures.1 in
    rw (p.1, p.2) (fault_refused c.args.buf.now c.args.n _ c.in_err-partial_fault.ensures (no_fault _))

pub kind_of-kind-requires : goal.kind_of-kind-requires
kind_of-kind-requires c = ap start_fits c.word-w.ensures ∙ (started c.args.buf.now _ c.in_ok-partial_fault.ensures).0

pub walk-requires : goal.walk-requires
walk-requires c =
    let s = started c.args.buf.now _ c.in_ok-partial_fault.ensures in
    omega (arith, s.1, s.2)

pub returns-in_err-walked : goal.returns-in_err-walked
returns-in_err-walked c =
    let p = err_from_is_err_and c.from_residual-in_err-walked.result c.from_residual-in_err-walked.ensures.1 in
    rw (p.1, p.2)
    (stopped c.args.buf.now c.args.n c.in_ok-partial_fault.ensures _ _
    (c.kind_of-kind.ensures ∙ ap (λ (v : ℕ). kind_of (class_of v)) c.word-w.ensures)
    (and_mask c.word-w.result 5 ∙ ap (λ (v : ℕ). v % 32) c.word-w.ensures) _ c.in_err-walked.ensures _ _ refl)

pub returns : goal.returns
returns c =
    ended c.args.buf.now c.args.n c.in_ok-partial_fault.ensures _ _
    (c.kind_of-kind.ensures ∙ ap (λ (v : ℕ). kind_of (class_of v)) c.word-w.ensures)
    (and_mask c.word-w.result 5 ∙ ap (λ (v : ℕ). v % 32) c.word-w.ensures) _ c.in_ok-walked.ensures _ _ refl c.word.ensures
