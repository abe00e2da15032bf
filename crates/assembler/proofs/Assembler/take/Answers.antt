-- `assembler::Assembler::take` meets its contract.
-- Assumes nothing.
use mathlib.Core.Path.{ap, sym, ◌∙◌}
use Rattle.std.proofs.lemmas.Result.{err_from_is_err_and}
use Rattle.book.specs.Views.{refusal}
use Rattle.runs.specs.Marked.{linking_by}
use Rattle.runs.proofs.front.Runs.{marks_reach}
use Rattle.assembler.specs.Views.{view_taken}
use Rattle.assembler.proofs.StepLaws.{read_refused, read_accepted, follow_refused}
use Rattle.assembler.proofs.Assembler.take.Goals as goal

pub returns-in_err-f : goal.returns-in_err-f
returns-in_err-f c =
    let p = err_from_is_err_and c.from_residual.result c.from_residual.ensures.1 in
    ap view_taken p.1 ∙ ap refusal p.2 ∙ read_refused _ _ (λ i. (c.type_inv.frame i).fits) _ _ c.in_err-f.ensures

pub returns-in_err-followed : goal.returns-in_err-followed
returns-in_err-followed c =
    let p = err_from_is_err_and c.from_residual-in_err-followed.result c.from_residual-in_err-followed.ensures.1 in
    ap view_taken p.1 ∙ ap refusal p.2 ∙ read_accepted _ _ (λ i. (c.type_inv.frame i).fits) _ _ c.in_ok-f.ensures (follow_refused _ _ _ _ _ _ c.in_err-followed.ensures)

pub invariant_of-part : goal.invariant_of-part
invariant_of-part c = record { reach = marks_reach _ (λ i. (c.type_inv.frame i).fits) _ (sym c.in_ok-f.ensures) }

pub returns : goal.returns
returns c = read_accepted _ _ (λ i. (c.type_inv.frame i).fits) _ _ c.in_ok-f.ensures (c.link.ensures ∙ ap (linking_by _ _ _) c.in_ok-followed.ensures)
