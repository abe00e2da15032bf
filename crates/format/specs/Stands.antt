-- What stands where in a frame's items, said by splitting the list and with no word of how it is looked up (document 01, "Reading and writing
-- items"). The questions answer exactly this: proofs/front/Questions.
-- Assumes nothing.
use Rattle.std.specs.Prelude.{ℕ, ◌+◌, ◌<◌, ◌≤◌, ◌≡◌, List, [], ◌∷◌, ◌++◌, Bool, true, ◌&&◌, ◌↔◌, length, take, get_or}
use Rattle.std.proofs.Math.Option.{Option, none, some}
use Rattle.format.specs.Book.{Class, sample, bin, time_bin, end_event}
use Rattle.format.specs.Items.{Item, Channel, Histogram, HitCount, Sample, Bin, LastCell, TimeBin, Text, StartEvent, ContinueEvent, EndEvent, class_for}
use Rattle.format.specs.Rules.{count, openers, among}
use Rattle.format.specs.Frames.{all_words}
use Rattle.format.specs.Questions.{Event}

-- item n, from 0, is x
pub record ItemIs (xs : List Item) (n : ℕ) (x : Item) : Type 0 where
  pub before : List Item
  pub after : List Item
  pub items : xs ≡ before ++ (x ∷ after)
  pub ordinal : length before ≡ n

-- the word index of item n: the three first words and those of the n items before it come first; of the end word where n is their number
abbrev pub index_of : List Item → ℕ → ℕ
index_of xs n = 3 + length (all_words (take n xs))

-- every item is of one of the classes
unfoldable pub only : List Class → List Item → Bool
only cs [] = true
only cs (x ∷ xs) = among (class_for x) cs && only cs xs

-- the item opens the event: its Start event; or a Continue event, and then type and timestamp stand in another frame
abbrev pub Opener : Item → Event → Type 0
Opener (Channel a b c) w = ⊥
Opener (Histogram a b c) w = ⊥
Opener (HitCount a b c) w = ⊥
Opener (Sample v) w = ⊥
Opener (Bin b n) w = ⊥
Opener (LastCell a b) w = ⊥
Opener (TimeBin t) w = ⊥
Opener (Text s) w = ⊥
Opener (StartEvent t ts n) w = (w.began ≡ some (record { kind = t; timestamp = ts })) × (w.number ≡ n)
Opener (ContinueEvent n) w = (w.began ≡ none) × (w.number ≡ n)
Opener (EndEvent n) w = ⊥

-- what comes after an event's items: its End event, which gives its size; or nothing, and then the size stands in another frame
pub data Closing : List Item → Option ℕ → Type 0 where
  ends_with : (z : ℕ) (after : List Item) → Closing (EndEvent z ∷ after) (some z)
  goes_on : Closing [] none

-- event e: an item that opens one, with e of them before it, and the first End event after it
pub record EventIn (xs : List Item) (e : ℕ) (v : Event) : Type 0 where
  pub before : List Item
  pub opener : Item
  pub between : List Item
  pub rest : List Item
  pub items : xs ≡ before ++ (opener ∷ (between ++ rest))
  pub opens : Opener opener v
  pub closing : Closing rest v.size
  pub ordinal : openers before ≡ e
  pub ended : count end_event between ≡ 0
  pub index : v.index ≡ 3 + length (all_words before)

-- ys stand behind the header of a chip and a channel in event e
pub record ChannelIn (xs : List Item) (e chip c : ℕ) (ys : List Item) : Type 0 where
  pub event : Event
  pub within : EventIn xs e event
  pub left : List Item
  pub card : ℕ
  pub header : within.between ≡ left ++ (Channel card chip c ∷ ys)

-- ys stand behind the header of a histogram
pub record HistogramIn (xs : List Item) (chip c : ℕ) (ys : List Item) : Type 0 where
  pub left : List Item
  pub card : ℕ
  pub header : xs ≡ left ++ (Histogram card chip c ∷ ys)

-- a Sample v stands at time t of the channel whose header ys stand behind: "A Time bin's first sample is at that time, each further sample
-- one later"
pub record SampleIn (ys : List Item) (t v : ℕ) : Type 0 where
  pub before : List Item
  pub time : ℕ
  pub run : List Item
  pub after : List Item
  pub items : ys ≡ before ++ (TimeBin time ∷ (run ++ (Sample v ∷ after)))
  pub same_channel : only (time_bin ∷ sample ∷ []) before ≡ true
  pub samples : only (sample ∷ []) run ≡ true
  pub at : t ≡ time + length run

-- a Bin b of count n stands in the histogram whose header ys stand behind
pub record BinIn (ys : List Item) (b n : ℕ) : Type 0 where
  pub before : List Item
  pub after : List Item
  pub items : ys ≡ before ++ (Bin b n ∷ after)
  pub same_histogram : only (bin ∷ []) before ≡ true

-- the items before a Sample of a channel: those before its event, the one that opens it, those before the header, the header, and those from there on
abbrev pub before_sample : {xs ys : List Item} {e chip c t v : ℕ} → ChannelIn xs e chip c ys → SampleIn ys t v → List Item
before_sample {chip = chip} {c = c} h k =
    h.within.before
    ++ (h.within.opener
    ∷ (h.left ++ (Channel h.card chip c ∷ (k.before ++ (TimeBin k.time ∷ k.run)))))

abbrev pub before_bin : {xs ys : List Item} {chip c b n : ℕ} → HistogramIn xs chip c ys → BinIn ys b n → List Item
before_bin {chip = chip} {c = c} h k = h.left ++ (Histogram h.card chip c ∷ k.before)

-- a Sample v stands at word w and at time t of a channel in event e
pub record SampleAt (xs : List Item) (e chip c t w v : ℕ) : Type 0 where
  pub items : List Item
  pub channel : ChannelIn xs e chip c items
  pub sample : SampleIn items t v
  pub index : w ≡ 3 + length (all_words (before_sample channel sample))

-- a Bin b of count n stands at word w, in a histogram
pub record BinAt (xs : List Item) (chip c b w n : ℕ) : Type 0 where
  pub items : List Item
  pub histogram : HistogramIn xs chip c items
  pub bin : BinIn items b n
  pub index : w ≡ 3 + length (all_words (before_bin histogram bin))

-- what a question leaves in lent words: of the first n, each holds the value that stands at its place, or is blank where none stands; the
-- words beyond are as found
pub record Fill (n blank : ℕ) (Standing : ℕ → ℕ → Type 0) (found left : List ℕ) : Type 0 where
  pub stands : (i v : ℕ) → i < n → ((get_or left i 0 ≡ v) × (v ≡ blank → ⊥)) ↔ Standing i v
  pub blanks : (i : ℕ) → i < n → ((v : ℕ) → Standing i v → ⊥) → get_or left i 0 ≡ blank
  pub beyond : (i : ℕ) → n ≤ i → get_or left i 0 ≡ get_or found i 0
  pub kept : length left ≡ length found

-- how many Samples of the channel stand before it
abbrev pub sample_ordinal : {ys : List Item} {t v : ℕ} → SampleIn ys t v → ℕ
sample_ordinal h = count sample h.before + length h.run

-- how many Bins of the histogram stand before it
abbrev pub bin_ordinal : {ys : List Item} {b n : ℕ} → BinIn ys b n → ℕ
bin_ordinal h = length h.before
