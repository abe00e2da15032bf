-- `records::entries::entry_size` meets its contract.
-- Assumes nothing.
use Rattle.records.proofs.RecordLaws.{size_one, size_two}
use Rattle.records.proofs.entries.entry_size.Goals as goal

pub returns-then-version-eq-FIRST_VERSION : goal.returns-then-version-eq-FIRST_VERSION
returns-then-version-eq-FIRST_VERSION c = size_one _ c.if-version-eq-FIRST_VERSION.true

pub returns : goal.returns
returns c = size_two _ c.if-version-eq-FIRST_VERSION.false
