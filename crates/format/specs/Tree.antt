-- A frame's items as a tree: a second writing of place, value and order, with limits of its own, apart from the one in Rules and Items (document
-- 01, "Shape of a frame"). That the two say the same is stated in proofs/front/Tree.antt.
-- Assumes nothing.
use Rattle.std.specs.Prelude.{ℕ, suc, ◌+◌, ◌*◌, ◌^◌, ◌<◌, ◌≤◌, ◌≡◌, List, [], ◌∷◌, length}
use Rattle.format.specs.Items.{Item, Channel, Histogram, HitCount, Sample, Bin, LastCell, TimeBin, Text, StartEvent, ContinueEvent, EndEvent, header_bits}
use Rattle.format.specs.Rules.{Kind, data_kind, monitor_kind, command_kind}
use Rattle.format.specs.Frames.{all_words}

-- ---- trees

-- a Time bin with its samples: the time, the first sample, the further ones
pub data Stretch : Type 0 where
  stretch : ℕ → ℕ → List ℕ → Stretch

-- what stands in an event, in any order
pub data Part : Type 0 where
  -- a Hit count: card, chip, count
  hits : ℕ → ℕ → ℕ → Part
  -- a Last cell: chip, cell
  cell : ℕ → ℕ → Part
  -- a Channel (card, chip, channel) with its first run and the further ones
  pulse : ℕ → ℕ → ℕ → Stretch → List Stretch → Part

-- a Start event (type, timestamp, number), the parts, and the size that the End event gives
pub data Event : Type 0 where
  event : ℕ → ℕ → ℕ → List Part → ℕ → Event

-- a bin with its count
pub data Bar : Type 0 where
  bar : ℕ → ℕ → Bar

-- a Histogram (card, chip, channel) with its bins
pub data Pedestal : Type 0 where
  pedestal : ℕ → ℕ → ℕ → List Bar → Pedestal

-- a data frame: an event's last part, which a Continue event (number) opens and an End event (size) ends, if there is one; events whole; and an
-- event's first part, if there is one. Or nothing but a part of one event, which a Continue event (number) opens
pub data Lead : Type 0 where
  new : Lead
  ending : ℕ → List Part → ℕ → Lead

pub data Tail : Type 0 where
  shut : Tail
  opening : ℕ → ℕ → ℕ → List Part → Tail

pub data Readout : Type 0 where
  events : Lead → List Event → Tail → Readout
  through : ℕ → List Part → Readout

abbrev pub Tree : Kind → Type 0
Tree data_kind = Readout
Tree monitor_kind = List Pedestal
Tree command_kind = List (List ℕ)

-- ---- their leaves, each time before the items xs

unfoldable pub of_samples : List ℕ → List Item → List Item
of_samples [] xs = xs
of_samples (v ∷ vs) xs = Sample v ∷ of_samples vs xs

unfoldable pub of_stretches : List Stretch → List Item → List Item
of_stretches [] xs = xs
of_stretches (stretch t v vs ∷ rs) xs = TimeBin t ∷ Sample v ∷ of_samples vs (of_stretches rs xs)

unfoldable pub of_parts : List Part → List Item → List Item
of_parts [] xs = xs
of_parts (hits a b c ∷ ps) xs = HitCount a b c ∷ of_parts ps xs
of_parts (cell a b ∷ ps) xs = LastCell a b ∷ of_parts ps xs
of_parts (pulse a b c r rs ∷ ps) xs = Channel a b c ∷ of_stretches (r ∷ rs) (of_parts ps xs)

unfoldable pub of_events : List Event → List Item → List Item
of_events [] xs = xs
of_events (event t ts n ps z ∷ es) xs = StartEvent t ts n ∷ of_parts ps (EndEvent z ∷ of_events es xs)

abbrev pub of_lead : Lead → List Item → List Item
of_lead new xs = xs
of_lead (ending n ps z) xs = ContinueEvent n ∷ of_parts ps (EndEvent z ∷ xs)

abbrev pub of_tail : Tail → List Item
of_tail shut = []
of_tail (opening t ts n ps) = StartEvent t ts n ∷ of_parts ps []

abbrev pub of_readout : Readout → List Item
of_readout (events l es o) = of_lead l (of_events es (of_tail o))
of_readout (through n ps) = ContinueEvent n ∷ of_parts ps []

unfoldable pub of_bars : List Bar → List Item → List Item
of_bars [] xs = xs
of_bars (bar b n ∷ bs) xs = Bin b n ∷ of_bars bs xs

unfoldable pub of_pedestals : List Pedestal → List Item
of_pedestals [] = []
of_pedestals (pedestal a b c bs ∷ hs) = Histogram a b c ∷ of_bars bs (of_pedestals hs)

unfoldable pub of_texts : List (List ℕ) → List Item
of_texts [] = []
of_texts (s ∷ ss) = Text s ∷ of_texts ss

abbrev pub leaves : (kind : Kind) → Tree kind → List Item
leaves data_kind r = of_readout r
leaves monitor_kind hs = of_pedestals hs
leaves command_kind ss = of_texts ss

-- ---- lawful trees

-- the numbers rise, from m on
unfoldable pub Rising : ℕ → List ℕ → Type 0
Rising m [] = Unit {0}
Rising m (k ∷ ks) = (m ≤ k) × Rising (suc k) ks

-- a channel's runs, the first at time m or later: "none after 511", and a later one "at least 2 above the last sample's time"
unfoldable pub Spaced : ℕ → List Stretch → Type 0
Spaced m [] = Unit {0}
Spaced m (stretch t v vs ∷ rs) = (m ≤ t) × (t + length vs ≤ 511) × Spaced (t + length vs + 2) rs

unfoldable pub AllSpaced : List Part → Type 0
AllSpaced [] = Unit {0}
AllSpaced (hits a b c ∷ ps) = AllSpaced ps
AllSpaced (cell a b ∷ ps) = AllSpaced ps
AllSpaced (pulse a b c r rs ∷ ps) = Spaced 0 (r ∷ rs) × AllSpaced ps

-- the 14-bit contents of an event's Channel headers
unfoldable pub channels : List Part → List ℕ
channels [] = []
channels (hits a b c ∷ ps) = channels ps
channels (cell a b ∷ ps) = channels ps
channels (pulse a b c r rs ∷ ps) = header_bits a b c ∷ channels ps

-- the bytes of an event, "from its Start event word to the end of its End event item"
abbrev pub event_bytes : Event → ℕ
event_bytes (event t ts n ps z) = 2 * length (all_words (StartEvent t ts n ∷ of_parts ps (EndEvent z ∷ [])))

-- an event's parts in this frame
abbrev pub Ordered : List Part → Type 0
Ordered ps = AllSpaced ps × Rising 0 (channels ps)

unfoldable pub AllEvents : List Event → Type 0
AllEvents [] = Unit {0}
AllEvents (event t ts n ps z ∷ es) = Ordered ps × (z ≡ event_bytes (event t ts n ps z)) × AllEvents es

-- the size of an event that began in another frame counts what stands there
abbrev pub LeadOrdered : Lead → Type 0
LeadOrdered new = Unit {0}
LeadOrdered (ending n ps z) = Ordered ps

abbrev pub TailOrdered : Tail → Type 0
TailOrdered shut = Unit {0}
TailOrdered (opening t ts n ps) = Ordered ps

abbrev pub ReadoutOrdered : Readout → Type 0
ReadoutOrdered (events l es o) = LeadOrdered l × AllEvents es × TailOrdered o
ReadoutOrdered (through n ps) = Ordered ps

unfoldable pub bin_numbers : List Bar → List ℕ
bin_numbers [] = []
bin_numbers (bar b n ∷ bs) = b ∷ bin_numbers bs

-- the 14-bit contents of the Histogram headers
unfoldable pub histograms : List Pedestal → List ℕ
histograms [] = []
histograms (pedestal a b c bs ∷ hs) = header_bits a b c ∷ histograms hs

unfoldable pub AllBars : List Pedestal → Type 0
AllBars [] = Unit {0}
AllBars (pedestal a b c bs ∷ hs) = Rising 0 (bin_numbers bs) × AllBars hs

abbrev pub Shaped : (kind : Kind) → Tree kind → Type 0
Shaped data_kind r = ReadoutOrdered r
Shaped monitor_kind hs = Rising 0 (histograms hs) × AllBars hs
Shaped command_kind ss = Unit {0}

-- "earlier bytes not zero": each byte of a text is one of 1 to 255
unfoldable pub Letters : List ℕ → Type 0
Letters [] = Unit {0}
Letters (b ∷ s) = (1 ≤ b) × (b ≤ 255) × Letters s

-- "Card equals the frame's card; channel at most 78; hit count at most 79; bin count at least 1"; a text has at most 254 bytes before its zero, so
-- that n is at most 255; and no content is wider than its field: card 5 bits, chip 2, sample and bin 12, cell and time 9, type 4, timestamp 48,
-- count, number and size 32
abbrev pub Limits : ℕ → Item → Type 0
Limits card (Channel a b c) = (a ≡ card) × (a ≤ 31) × (b ≤ 3) × (c ≤ 78)
Limits card (Histogram a b c) = (a ≡ card) × (a ≤ 31) × (b ≤ 3) × (c ≤ 78)
Limits card (HitCount a b n) = (a ≡ card) × (a ≤ 31) × (b ≤ 3) × (n ≤ 79)
Limits card (Sample v) = v ≤ 4095
Limits card (Bin b n) = (b ≤ 4095) × (1 ≤ n) × (n < 2 ^ 32)
Limits card (LastCell b c) = (b ≤ 3) × (c ≤ 511)
Limits card (TimeBin t) = t ≤ 511
Limits card (Text s) = (length s ≤ 254) × Letters s
Limits card (StartEvent t ts n) = (t ≤ 15) × (ts < 2 ^ 48) × (n < 2 ^ 32)
Limits card (ContinueEvent n) = n < 2 ^ 32
Limits card (EndEvent z) = z < 2 ^ 32

-- of every item, and the frame's card
unfoldable pub Limited : ℕ → List Item → Type 0
Limited card [] = Unit {0}
Limited card (x ∷ xs) = Limits card x × Limited card xs

pub record Lawful (kind : Kind) (card : ℕ) (tree : Tree kind) : Type 0 where
  pub shaped : Shaped kind tree
  pub limited : Limited card (leaves kind tree)

-- some items are the leaves of a lawful tree
pub record TreeOf (kind : Kind) (card : ℕ) (xs : List Item) : Type 0 where
  pub tree : Tree kind
  pub lawful : Lawful kind card tree
  pub leaves_are : leaves kind tree ≡ xs
