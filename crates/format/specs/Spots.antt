-- Spots: the Samples and Bins of an accepted frame, whose values a record may correct (document 01, "The plane record").
-- Assumes nothing.
use Rattle.std.specs.Prelude.{ℕ, ◌+◌, ◌*◌, ◌≡◌, List, [], ◌∷◌, ◌++◌, Bool, ◌&&◌, length, leb, ltb, eqb}
use Rattle.std.proofs.Math.Option.{Option, none, some}
use Rattle.std.proofs.lemmas.List.Edits.{sets}
use Rattle.format.specs.Words.{pick, bytes, long_words}
use Rattle.format.specs.Answers.{Outcome, accepted, refused}
use Rattle.format.specs.Items.{ItemOf, Item, Channel, Histogram, HitCount, Sample, Bin, LastCell, TimeBin, Text, StartEvent, ContinueEvent, EndEvent, words_of}
use Rattle.format.specs.Frames.{Frame, all_words, verdict}

-- what a Channel or Histogram item says of the items that follow it
pub record Header : Type 0 where
  pub card : ℕ
  pub chip : ℕ
  pub channel : ℕ

-- before any header; no Sample or Bin of an accepted frame stands there (proofs/spots/SpotKeys.antt `spot_headed`)
abbrev pub no_header : Header
no_header = record { card = 0; chip = 0; channel = 0 }

-- an item that may be corrected: its kind, "1 sample, 2 bin"; its value; and the header it stands under
pub record Spot : Type 0 where
  pub kind : ℕ
  pub value : ℕ
  pub header : Header

-- an item under that header, as a spot
abbrev pub spot_of : {T : Type 0} → Header → ItemOf T → Option Spot
spot_of k (Channel a b c) = none
spot_of k (Histogram a b c) = none
spot_of k (HitCount a b c) = none
spot_of k (Sample v) = some (record { kind = 1; value = v; header = k })
spot_of k (Bin b n) = some (record { kind = 2; value = n; header = k })
spot_of k (LastCell a b) = none
spot_of k (TimeBin t) = none
spot_of k (Text s) = none
spot_of k (StartEvent t ts n) = none
spot_of k (ContinueEvent n) = none
spot_of k (EndEvent n) = none

-- the header that the next item stands under: a Channel or Histogram is one, after any other item it is still k
abbrev pub under : {T : Type 0} → Header → ItemOf T → Header
under k (Channel a b c) = record { card = a; chip = b; channel = c }
under k (Histogram a b c) = record { card = a; chip = b; channel = c }
under k (HitCount a b c) = k
under k (Sample v) = k
under k (Bin b n) = k
under k (LastCell a b) = k
under k (TimeBin t) = k
under k (Text s) = k
under k (StartEvent t ts n) = k
under k (ContinueEvent n) = k
under k (EndEvent n) = k

-- the item whose first word is word w, of items that begin at word `at` and under the header k
unfoldable pub spot_in : Header → ℕ → List Item → ℕ → Option Spot
spot_in k at [] w = none
spot_in k at (x ∷ xs) w = pick (eqb w at) (spot_of k x) (spot_in (under k x) (at + length (words_of x)) xs w)

-- "the word index is not a Sample's or Bin's first word": none; and none where the bytes are no frame. Items begin at word 3
abbrev pub spot_for : Outcome Frame → ℕ → Option Spot
spot_for (accepted f) w = spot_in no_header 3 f.items w
spot_for (refused n p) w = none

unfoldable pub spot : List ℕ → ℕ → Option Spot
spot s w = spot_for (verdict s) w

-- ---- putting a value

-- the word index at which the value begins, and the words that hold it: a Sample's own word; a Bin's count in the two words after its first
abbrev pub value_word : ℕ → ℕ → ℕ
value_word kind w = pick (eqb kind 1) w (w + 1)

abbrev pub value_words : ℕ → ℕ → List ℕ
value_words kind v = pick (eqb kind 1) ((0x3000 + v) ∷ []) (long_words v)

abbrev pub put_for : Option Spot → List ℕ → ℕ → ℕ → List ℕ
put_for none s w v = s
put_for (some p) s w v = sets s (2 * value_word p.kind w) (bytes (value_words p.kind v))

-- the bytes with the value v in the item at word w; as they are where no such item stands
unfoldable pub put : List ℕ → ℕ → ℕ → List ℕ
put s w v = put_for (spot s w) s w v

-- "sample over 4,095, bin 0": a bin's count has 32 bits, and no other kind has a value
unfoldable pub legal_value : ℕ → ℕ → Bool
legal_value kind v = pick (eqb kind 1) (leb v 4095) (eqb kind 2 && leb 1 v && ltb v 4294967296)

-- ---- the same, said of the items with no word of bytes

-- a spot, and an item, with another value
abbrev pub revalued : Spot → ℕ → Spot
revalued p v = record { kind = p.kind; value = v; header = p.header }

abbrev pub with_value : Item → ℕ → Item
with_value (Channel a b c) v = Channel a b c
with_value (Histogram a b c) v = Histogram a b c
with_value (HitCount a b c) v = HitCount a b c
with_value (Sample n) v = Sample v
with_value (Bin b n) v = Bin b v
with_value (LastCell a b) v = LastCell a b
with_value (TimeBin t) v = TimeBin t
with_value (Text s) v = Text s
with_value (StartEvent t ts n) v = StartEvent t ts n
with_value (ContinueEvent n) v = ContinueEvent n
with_value (EndEvent n) v = EndEvent n

-- the header that stands after some items
unfoldable pub under_all : Header → List Item → Header
under_all k [] = k
under_all k (x ∷ xs) = under_all (under k x) xs

-- the spot p is the item at word w: what stands before it begins at word 3 and ends there
pub record SpotIs (xs : List Item) (w : ℕ) (p : Spot) : Type 0 where
  pub before : List Item
  pub item : Item
  pub after : List Item
  pub items : xs ≡ before ++ (item ∷ after)
  pub index : w ≡ 3 + length (all_words before)
  pub spot : spot_of (under_all no_header before) item ≡ some p

-- a frame with other items
abbrev pub with_items : Frame → List Item → Frame
with_items f xs = record { kind = f.kind; card = f.card; sequence = f.sequence; items = xs }
