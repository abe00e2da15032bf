-- The tests of an entry in the order in which the code makes them: those that ask for no item, then those at the item. That together they are
-- ledger's `fits_item` is in proofs/UndoLaws.
-- Assumes nothing.
use Rattle.std.specs.Prelude.{ℕ, Bool, not, ◌&&◌, eqb}
use Rattle.format.specs.Spots.{Spot, legal_value}
use Rattle.ledger.specs.Formats.{Entry, Format}
use Rattle.ledger.specs.Records.{signed}

-- it changes a value, it is signed, and what it keeps may be kept, for that item too
unfoldable pub sound_at : Format → Entry → Spot → Bool
sound_at F e s = (not (eqb e.old e.new) && signed e.operator e.reason) && (F.good e.extra && F.suits e.extra s)

-- an item of the kind with the value: the entry's kind and its new value, and the old one is legal
unfoldable pub left_by : Entry → ℕ → ℕ → Bool
left_by e kind value = (eqb kind e.kind && eqb value e.new) && legal_value e.kind e.old
