-- A record's bytes as the documents lay them out (document 01, "The plane record"; document 02, request 3), with numerals of their own: where its
-- parts stand, and what is written there.
-- Assumes nothing.
use Rattle.std.specs.Prelude.{ℕ, ◌+◌, ◌-◌, ◌*◌, ◌/◌, ◌%◌, List, [], ◌∷◌, ◌++◌, take, drop}
use Rattle.format.specs.Words.{word_at, bytes}
use Rattle.ledger.specs.Formats.{Entry}
use Rattle.ledger.specs.VersionTwo.{time_in, desk_in}
use Rattle.ledger.specs.Versions.{Version, v1, v2}

-- ---- the two versions: header word 0, and the bytes of an entry
abbrev pub number_of : Version → ℕ
number_of v1 = 1
number_of v2 = 2

abbrev pub entry_size : Version → ℕ
entry_size v1 = 16
entry_size v2 = 24

-- ---- parts: frame length in header word 3, entry count in word 5, the frame from byte 16, then the entries
abbrev pub total_length : Version → List ℕ → ℕ
total_length v b = 16 + word_at b 3 + entry_size v * word_at b 5

abbrev pub frame_of : List ℕ → List ℕ
frame_of b = take (word_at b 3) (drop 16 b)

-- the bytes from entry j on, from 1 as the oldest: "word index (2), kind (2), old value (4), new value (4), operator (2), reason (2)"; in version 2
-- then "a time (6 bytes) and a desk number (2 bytes, 0 for now)"
abbrev pub entry_from : Version → List ℕ → ℕ → List ℕ
entry_from v b j = drop (16 + word_at b 3 + entry_size v * (j - 1)) b

-- ---- what is written: "version 1; frame count 1; frame offset 16; frame length; history offset (16 + frame length); entry count; total length
-- ---- (history offset + 16 times the count); 0", and in version 2 its number and 24 times the count
abbrev pub header_for : Version → ℕ → ℕ → List ℕ
header_for v len n = bytes (number_of v ∷ 1 ∷ 16 ∷ len ∷ (16 + len) ∷ n ∷ (16 + len + entry_size v * n) ∷ 0 ∷ [])

-- the bytes of a time, the low one first
abbrev pub time_written : ℕ → List ℕ
time_written t = (t % 256) ∷ (t / 256 % 256) ∷ (t / 65536 % 256) ∷ (t / 16777216 % 256) ∷ (t / 4294967296 % 256) ∷ (t / 1099511627776 % 256) ∷ []

abbrev pub stamp_written : Version → Entry → List ℕ
stamp_written v1 e = []
stamp_written v2 e = time_written (time_in e.extra) ++ bytes (desk_in e.extra ∷ [])

abbrev pub entry_written : Version → Entry → List ℕ
entry_written v e = bytes (e.word ∷ e.kind ∷ (e.old % 65536) ∷ (e.old / 65536) ∷ (e.new % 65536) ∷ (e.new / 65536) ∷ e.operator ∷ e.reason ∷ []) ++ stamp_written v e

-- entries in their order
unfoldable pub history_written : Version → List Entry → List ℕ
history_written v [] = []
history_written v (e ∷ es) = entry_written v e ++ history_written v es
