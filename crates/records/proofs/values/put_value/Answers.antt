-- `records::values::put_value` meets its contract.
-- Assumes nothing.
use mathlib.Core.Path.{sym, ◌∙◌}
use native.Mathlib.Omega.{arith}
use Rattle.records.proofs.Storing.{past_left, illegal_left}
use Rattle.records.proofs.values.put_value.Goals as goal

pub returns-then-f-w : goal.returns-then-f-w
returns-then-f-w c = past_left _ _ _ _ (omega arith)

pub put_legal-requires : goal.put_legal-requires
put_legal-requires c = (omega arith, sym c.legal.ensures ∙ c.if-legal.true)

pub returns-else-legal : goal.returns-else-legal
returns-else-legal c = illegal_left _ _ _ _ (sym c.legal.ensures ∙ c.if-legal.false)
