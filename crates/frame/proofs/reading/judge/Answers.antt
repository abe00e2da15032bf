-- `frame::reading::judge` meets its contract: the head's fault, the walk's, and the ending.
-- Assumes nothing.
use Prim.Native.Nat.{ℕ, ◌%◌}
use mathlib.Core.Path.{refl, ap, ◌∙◌}
use native.Mathlib.Omega.{arith}
use lib.Bits.{and_mask}
use Rattle.std.proofs.lemmas.Result.{err_from_is_err_and}
use Rattle.format.specs.Book.{class_of}
use Rattle.format.specs.Frames.{start_fits, kind_of}
use Rattle.format.proofs.reader.HeadTests.{started}
use Rattle.format.proofs.reader.JudgeLaws.{head_refused}
use Rattle.frame.proofs.Judging.{no_fault, stopped, ended}
use Rattle.frame.proofs.reading.judge.Goals as goal

pub returns-in_err-head_fault : goal.returns-in_err-head_fault
returns-in_err-head_fault c =
    let p = err_from_is_err_and c.from_residual.result c.from_residual.ensures.1 in
    rw (p.1, p.2) (head_refused c.args.s.now c.args.n _ c.in_err-head_fault.ensures (no_fault _))

pub overflow_sub-last : goal.overflow_sub-last
overflow_sub-last c =
    omega (arith, (started c.args.s.now c.in_ok-head_fault.ensures).1)

pub kind_of-kind-requires : goal.kind_of-kind-requires
kind_of-kind-requires c =
    ap start_fits c.word-w.ensures ∙ (started c.args.s.now c.in_ok-head_fault.ensures).0

pub returns-in_err-walked : goal.returns-in_err-walked
returns-in_err-walked c =
    let p = err_from_is_err_and c.from_residual-in_err-walked.result c.from_residual-in_err-walked.ensures.1 in
    rw (p.1, p.2)
    (stopped c.args.s.now c.args.n c.in_ok-head_fault.ensures _ _ _
    (c.kind_of-kind.ensures ∙ ap (λ (v : ℕ). kind_of (class_of v)) c.word-w.ensures)
    (and_mask c.word-w.result 5 ∙ ap (λ (v : ℕ). v % 32) c.word-w.ensures) refl _ c.in_err-walked.ensures _ _ refl)

pub returns : goal.returns
returns c =
    c.ending.ensures ∙ (ended c.args.s.now c.args.n c.in_ok-head_fault.ensures _ _ _
    (c.kind_of-kind.ensures ∙ ap (λ (v : ℕ). kind_of (class_of v)) c.word-w.ensures)
    (and_mask c.word-w.result 5 ∙ ap (λ (v : ℕ). v % 32) c.word-w.ensures) refl _ c.in_ok-walked.ensures _ refl)
