-- T40 of `partial`: its answer on paper fixes the answer.
-- Assumes nothing.
use mathlib.Core.Path.{◌≡◌, ap}
use Rattle.std.specs.Prelude.{Result}
use Rattle.format.specs.PartialSteps.{PartialOverview}
use Rattle.book.specs.declared.refusal.Refusal.{Refusal}
use Rattle.book.proofs.Unique.{same_result}
use Rattle.frame.specs.declared.begun.PartialFrame.{PartialFrame}
use Rattle.frame.specs.PartialViews.{view_partial_frame, view_partial}
use Rattle.rules.proofs.Unique.{same_kind, same_state}

pub same_partial_frame : (r q : PartialFrame) → view_partial_frame r ≡ view_partial_frame q → r ≡ q
same_partial_frame r q e =
    let k = same_kind r.kind q.kind (ap (λ (f : PartialOverview). f.kind) e) in
    let c : r.card ≡ q.card = ap (λ (f : PartialOverview). f.card) e in
    let s : r.sequence ≡ q.sequence = ap (λ (f : PartialOverview). f.sequence) e in
    let t = same_state r.state q.state (ap (λ (f : PartialOverview). f.state) e) in
    λ i. record { kind = k i; card = c i; sequence = s i; state = t i }

pub same_partial : (r q : Result PartialFrame Refusal) → view_partial r ≡ view_partial q → r ≡ q
same_partial = same_result view_partial_frame same_partial_frame
