-- Figure 10 of document 01 and its form in version 2, as far as no frame is judged: the header before and after the edit, and the bytes of its entry.
-- Assumes nothing.
use mathlib.Core.Path.{◌≡◌, refl}
use mathlib.Core.List.{[], ◌∷◌}
use Rattle.format.specs.Words.{bytes}
use Rattle.ledger.specs.Records.{header, entry_bytes}
use Rattle.ledger.specs.VersionOne.{version_one}
use Rattle.ledger.specs.VersionTwo.{version_two}

-- case 3 has 34 bytes
pub header_opened : header version_one 34 0 ≡ bytes (0x0001 ∷ 0x0001 ∷ 0x0010 ∷ 0x0022 ∷ 0x0032 ∷ 0x0000 ∷ 0x0032 ∷ 0x0000 ∷ [])
unfolding header version_one
header_opened = refl

pub header_edited : header version_one 34 1 ≡ bytes (0x0001 ∷ 0x0001 ∷ 0x0010 ∷ 0x0022 ∷ 0x0032 ∷ 0x0001 ∷ 0x0042 ∷ 0x0000 ∷ [])
unfolding header version_one
header_edited = refl

-- word 11, a sample, from 250 to 260, operator 9, reason 2
pub entry_written : entry_bytes version_one (record { word = 11; kind = 1; old = 250; new = 260; operator = 9; reason = 2; extra = [] })
    ≡ 0x0B ∷ 0x00 ∷ 0x01 ∷ 0x00 ∷ 0xFA ∷ 0x00 ∷ 0x00 ∷ 0x00 ∷ 0x04 ∷ 0x01 ∷ 0x00 ∷ 0x00 ∷ 0x09 ∷ 0x00 ∷ 0x02 ∷ 0x00 ∷ []
unfolding entry_bytes version_one bytes
entry_written = refl

-- the same in version 2 at 1,773,403,200 seconds: 24 bytes, so that the total is 004A
pub header_edited_two : header version_two 34 1 ≡ bytes (0x0002 ∷ 0x0001 ∷ 0x0010 ∷ 0x0022 ∷ 0x0032 ∷ 0x0001 ∷ 0x004A ∷ 0x0000 ∷ [])
unfolding header version_two
header_edited_two = refl

pub entry_written_two : entry_bytes version_two (record { word = 11; kind = 1; old = 250; new = 260; operator = 9; reason = 2; extra = 1773403200 ∷ 0 ∷ [] })
    ≡ 0x0B ∷ 0x00 ∷ 0x01 ∷ 0x00 ∷ 0xFA ∷ 0x00 ∷ 0x00 ∷ 0x00 ∷ 0x04 ∷ 0x01 ∷ 0x00 ∷ 0x00 ∷ 0x09 ∷ 0x00 ∷ 0x02 ∷ 0x00 ∷ 0x40 ∷ 0xFC ∷ 0xB3 ∷ 0x69 ∷ 0x00 ∷ 0x00 ∷ 0x00 ∷ 0x00 ∷ []
unfolding entry_bytes version_two bytes
entry_written_two = refl

-- the six bytes of a time each count
pub last_time : entry_bytes version_two (record { word = 0; kind = 0; old = 0; new = 0; operator = 0; reason = 0; extra = 0x060504030201 ∷ 0 ∷ [] })
    ≡ 0x00 ∷ 0x00 ∷ 0x00 ∷ 0x00 ∷ 0x00 ∷ 0x00 ∷ 0x00 ∷ 0x00 ∷ 0x00 ∷ 0x00 ∷ 0x00 ∷ 0x00 ∷ 0x00 ∷ 0x00 ∷ 0x00 ∷ 0x00 ∷ 0x01 ∷ 0x02 ∷ 0x03 ∷ 0x04 ∷ 0x05 ∷ 0x06 ∷ 0x00 ∷ 0x00 ∷ []
unfolding entry_bytes version_two bytes
last_time = refl
