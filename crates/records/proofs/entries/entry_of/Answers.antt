-- `records::entries::entry_of` meets its contract.
-- Assumes nothing.
use mathlib.Core.Path.{refl}
use native.Mathlib.Omega.{arith}
use lib.ListN.{replicate}
use Rattle.records.proofs.RecordLaws.{size_small, zeros, padded_entry}
use Rattle.records.proofs.entries.entry_of.Goals as goal

pub entry_in-requires : goal.entry_in-requires
entry_in-requires c = omega (arith, size_small c.args.version, c.copy.auto.dst)

pub returns : goal.returns
returns c = padded_entry _ (replicate 24 0) 24 refl (zeros 24) _ _ _ (omega arith) c.copy.ensures c.entry_in.ensures
