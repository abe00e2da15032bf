-- `records::history::signed` meets its contract.
-- Assumes nothing.
use mathlib.Core.Path.{refl}
use Rattle.ledger.specs.Tests.{all}
use Rattle.ledger.specs.Records.{signed}
use Rattle.records.proofs.history.signed.Goals as goal

pub returns : goal.returns
unfolding signed all
returns c = refl
