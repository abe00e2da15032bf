-- When each refusal of a call on a record is due and at what place, in the documents' words (document 01, "The plane record", "Numbered refusals";
-- document 02, request 3) and with numerals and orders of its own: no word of the tests that an answer is computed by. Of version 1 the questions and
-- restoring are the calls', opening and edits the old editor's.
-- Assumes nothing.
use Rattle.std.specs.Prelude.{ℕ, suc, ◌+◌, ◌≤◌, ◌<◌, ◌≡◌, List, [], ◌∷◌, length}
use Rattle.std.proofs.Math.Option.{some}
use Rattle.format.specs.Words.{word_at, long_at}
use Rattle.format.specs.Faults.{Refused}
use Rattle.format.specs.Spots.{Spot, spot, put}
use Rattle.ledger.specs.Formats.{Correction}
use Rattle.ledger.specs.VersionTwo.{time_in}
use Rattle.ledger.specs.Versions.{Version, v2}
use Rattle.ledger.specs.Layout.{number_of, entry_size, total_length, frame_of, entry_from}

-- ---- orders

-- n is the first in an order of numbers that is broken
pub data FirstIn (Broken : ℕ → Type 0) : List ℕ → ℕ → Type 0 where
  here : {n : ℕ} {ms : List ℕ} → Broken n → FirstIn Broken (n ∷ ms) n
  later : {m n : ℕ} {ms : List ℕ} → (Broken m → ⊥) → FirstIn Broken ms n → FirstIn Broken (m ∷ ms) n

-- the refusals of what is judged before, as they are; and where none of them is due, the first broken number of an order, at place 0
pub data Behind (Earlier : ℕ → ℕ → Type 0) (Broken : ℕ → Type 0) (order : List ℕ) : ℕ → ℕ → Type 0 where
  earlier : {n p : ℕ} → Earlier n p → Behind Earlier Broken order n p
  own : {n : ℕ} → ((m q : ℕ) → Earlier m q → ⊥) → FirstIn Broken order n → Behind Earlier Broken order n 0

-- ---- values and signers

-- "sample over 4,095, bin 0"; and no count is over 32 bits
pub data Illegal (kind value : ℕ) : Type 0 where
  over : kind ≡ 1 → 4095 < value → Illegal kind value
  nought : kind ≡ 2 → value ≡ 0 → Illegal kind value
  wide : kind ≡ 2 → 4294967296 ≤ value → Illegal kind value

-- "operator not 1 to 65,535, or reason not 1 to 5"
pub data NotSigned (operator reason : ℕ) : Type 0 where
  no_operator : operator ≡ 0 → NotSigned operator reason
  high_operator : 65535 < operator → NotSigned operator reason
  no_reason : reason ≡ 0 → NotSigned operator reason
  high_reason : 5 < reason → NotSigned operator reason

-- ---- a record: "20, frame refusals, then entries from the newest back"

-- "buffer under 16 bytes, a header word wrong, or buffer under the total length"
pub data HeaderBroken (v : Version) (b : List ℕ) : Type 0 where
  short : length b < 16 → HeaderBroken v b
  version : (word_at b 0 ≡ number_of v → ⊥) → HeaderBroken v b
  frames : (word_at b 1 ≡ 1 → ⊥) → HeaderBroken v b
  offset : (word_at b 2 ≡ 16 → ⊥) → HeaderBroken v b
  history : (word_at b 4 ≡ 16 + word_at b 3 → ⊥) → HeaderBroken v b
  count : 512 < word_at b 5 → HeaderBroken v b
  total : (word_at b 6 ≡ total_length v b → ⊥) → HeaderBroken v b
  zero : (word_at b 7 ≡ 0 → ⊥) → HeaderBroken v b
  cut : length b < total_length v b → HeaderBroken v b

-- the entry that the bytes e begin with does not fit the frame f: "the item must stand at that index and be of that kind, the entry's new value
-- must be the one standing, the old one must be legal and different, operator and reason legal"
pub data Unfit (v : Version) (f e : List ℕ) : Type 0 where
  no_item : ((p : Spot) → spot f (word_at e 0) ≡ some p → ⊥) → Unfit v f e
  other_kind : (p : Spot) → spot f (word_at e 0) ≡ some p → (p.kind ≡ word_at e 1 → ⊥) → Unfit v f e
  other_value : (p : Spot) → spot f (word_at e 0) ≡ some p → (p.value ≡ long_at e 4 → ⊥) → Unfit v f e
  old_illegal : Illegal (word_at e 1) (long_at e 2) → Unfit v f e
  unchanged : long_at e 2 ≡ long_at e 4 → Unfit v f e
  signer : NotSigned (word_at e 6) (word_at e 7) → Unfit v f e
  -- "0 for now"
  desk : v ≡ v2 → (word_at e 11 ≡ 0 → ⊥) → Unfit v f e

-- frames back from the one that stands, down to the one after entry j: each entry above j fits its frame, and "the old value is then taken as
-- standing"
pub record Back (v : Version) (b : List ℕ) (j : ℕ) (f : ℕ → List ℕ) : Type 0 where
  pub standing : f (word_at b 5) ≡ frame_of b
  pub fit : (m : ℕ) → j ≤ m → m < word_at b 5 → Unfit v (f (suc m)) (entry_from v b (suc m)) → ⊥
  pub old : (m : ℕ) → j ≤ m → m < word_at b 5 → f m ≡ put (f (suc m)) (word_at (entry_from v b (suc m)) 0) (long_at (entry_from v b (suc m)) 2)

-- entry j is the newest that does not fit
pub record NewestUnfit (v : Version) (b : List ℕ) (j : ℕ) : Type 0 where
  pub least : 1 ≤ j
  pub most : j ≤ word_at b 5
  pub frames : ℕ → List ℕ
  pub back : Back v b j frames
  pub unfit : Unfit v (frames j) (entry_from v b j)

pub data RecordRefused (v : Version) (b : List ℕ) : ℕ → ℕ → Type 0 where
  of_header : HeaderBroken v b → RecordRefused v b 20 0
  of_frame : (n p : ℕ) → (HeaderBroken v b → ⊥) → Refused (frame_of b) n p → RecordRefused v b n p
  of_entry : (j : ℕ) → (HeaderBroken v b → ⊥) → ((n p : ℕ) → Refused (frame_of b) n p → ⊥) → NewestUnfit v b j → RecordRefused v b 21 j

-- ---- "Opening a record: frame refusals, then 12 if the buffer is under 16 + frame length"
pub data OpenBroken (f b : List ℕ) : ℕ → Type 0 where
  room : length b < 16 + length f → OpenBroken f b 12

abbrev pub OpenRefused : List ℕ → List ℕ → ℕ → ℕ → Type 0
OpenRefused f b = Behind (Refused f) (OpenBroken f b) (12 ∷ [])

-- ---- "An edit: record refusals, 22, 23, 24, 25, then 12 if the buffer is under total + 16", and in version 2 + 24
pub data EditBroken (v : Version) (b : List ℕ) (c : Correction) : ℕ → Type 0 where
  -- "the word index is not a Sample's or Bin's first word"
  target : ((p : Spot) → spot (frame_of b) c.word ≡ some p → ⊥) → EditBroken v b c 22
  -- "sample over 4,095, bin 0, or the present value"
  illegal : (p : Spot) → spot (frame_of b) c.word ≡ some p → Illegal p.kind c.value → EditBroken v b c 23
  present : (p : Spot) → spot (frame_of b) c.word ≡ some p → p.value ≡ c.value → EditBroken v b c 23
  signer : NotSigned c.operator c.reason → EditBroken v b c 24
  -- a time that 6 bytes do not hold
  time : 281474976710656 ≤ time_in c.extra → EditBroken v b c 24
  -- "512 entries stand"
  full : 512 ≤ word_at b 5 → EditBroken v b c 25
  room : length b < total_length v b + entry_size v → EditBroken v b c 12

abbrev pub EditRefused : Version → List ℕ → Correction → ℕ → ℕ → Type 0
EditRefused v b c = Behind (RecordRefused v b) (EditBroken v b c) (22 ∷ 23 ∷ 24 ∷ 25 ∷ 12 ∷ [])

-- ---- "Restore to k: record refusals, 26, then 12 if the second buffer is under the frame length"
pub data RestoreBroken (b : List ℕ) (k : ℕ) (out : List ℕ) : ℕ → Type 0 where
  -- "k above the entry count"
  above : word_at b 5 < k → RestoreBroken b k out 26
  room : length out < word_at b 3 → RestoreBroken b k out 12

abbrev pub RestoreRefused : Version → List ℕ → ℕ → List ℕ → ℕ → ℕ → Type 0
RestoreRefused v b k out = Behind (RecordRefused v b) (RestoreBroken b k out) (26 ∷ 12 ∷ [])

-- ---- entry j, from 1: record refusals, then 26
pub data EntryBroken (b : List ℕ) (j : ℕ) : ℕ → Type 0 where
  none : j ≡ 0 → EntryBroken b j 26
  above : word_at b 5 < j → EntryBroken b j 26

abbrev pub EntryRefused : Version → List ℕ → ℕ → ℕ → ℕ → Type 0
EntryRefused v b j = Behind (RecordRefused v b) (EntryBroken b j) (26 ∷ [])
