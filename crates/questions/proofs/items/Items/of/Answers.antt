-- `questions::items::Items::of` meets its contract.
-- Assumes nothing.
use Rattle.questions.proofs.Missing.{passed_by}
use Rattle.questions.proofs.Reading.{read_accepted, read_refused, number_is}
use Rattle.questions.proofs.items.Items.of.Goals as goal

pub returns-in_err-frame : goal.returns-in_err-frame
returns-in_err-frame c = passed_by _ _ _ _ c.from_residual.ensures.1 (read_refused _ _ _ c.in_err-frame.ensures)

pub invariant_of-result : goal.invariant_of-result
invariant_of-result c = record { content = λ i. (c.type_inv.bytes i).fits; accepted = number_is _ _ (read_accepted _ _ c.in_ok-frame.ensures) }
