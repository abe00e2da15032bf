-- `frame::head::kind_of` meets its contract.
-- Assumes nothing.
use native.Mathlib.Omega.{arith}
use Rattle.format.proofs.reader.HeadTests.{kind_data, kind_monitor, kind_command}
use Rattle.frame.proofs.head.kind_of.Goals as goal

pub returns-in-64 : goal.returns-in-64
returns-in-64 c = kind_data _ c.in-64.is

pub returns-in-48 : goal.returns-in-48
returns-in-48 c = kind_monitor _ c.in-48.is

pub returns-in_default : goal.returns-in_default
returns-in_default c = kind_command _ c.requires (λ e. omega arith) (λ e. omega arith)
