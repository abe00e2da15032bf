-- The records that the figures of `list` are of. Assumes nothing.
use Rattle.std.specs.Prelude.{ℕ, List}
use Rattle.ledger.specs.Versions.{Version}
use Rattle.ledger.specs.PlaneTable.{recorded, first}

-- case 10's record after its edit, in a version
abbrev pub edited : Version → List ℕ
edited v = recorded v (first v)
