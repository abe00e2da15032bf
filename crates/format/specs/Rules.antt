-- The rules of place, value and order at one item, on the list p of the earlier items, latest first (document 01, "Shape of a frame").
-- Assumes nothing.
use Rattle.std.specs.Prelude.{ℕ, ◌+◌, ◌*◌, List, [], ◌∷◌, ◌++◌, Bool, true, false, not, ◌&&◌, ◌||◌, length, leb, ltb, eqb}
use Rattle.format.specs.Words.{pick}
use Rattle.format.specs.Book.{Class, channel, histogram, hit_count, sample, bin, last_cell, time_bin, data_frame, monitor_frame, command_frame, text, start_event, continue_event, end_event, frame_end, unassigned, row_of}
use Rattle.format.specs.Items.{Item, Channel, Histogram, HitCount, Sample, Bin, LastCell, TimeBin, Text, StartEvent, ContinueEvent, EndEvent, class_for, words_of, in_range, key, Token, whole, broken, flawed}

pub data Kind : Type 0 where
  data_kind monitor_kind command_kind : Kind

abbrev pub same : Class → Class → Bool
same c d = eqb (row_of c) (row_of d)

-- ---- the earlier items

-- the items from the latest one of the class on, latest first; all of them where there is none
unfoldable pub since : Class → List Item → List Item
since c [] = []
since c (x ∷ p) = x ∷ pick (same c (class_for x)) [] (since c p)

-- the items before the latest one of the class, latest first
unfoldable pub before : Class → List Item → List Item
before c [] = []
before c (x ∷ p) = pick (same c (class_for x)) p (before c p)

-- how many items are of the class
unfoldable pub count : Class → List Item → ℕ
count c [] = 0
count c (x ∷ p) = pick (same c (class_for x)) 1 0 + count c p

abbrev pub has : Class → List Item → Bool
has c p = leb 1 (count c p)

-- the class of the latest item
abbrev pub latest : List Item → Class
latest [] = unassigned
latest (x ∷ p) = class_for x

-- the words of some items, how many they are
unfoldable pub total : List Item → ℕ
total [] = 0
total (x ∷ p) = length (words_of x) + total p

-- a number that some items have, gathered, latest first
unfoldable pub gather : (Item → List ℕ) → List Item → List ℕ
gather f [] = []
gather f (x ∷ p) = f x ++ gather f p

abbrev pub channel_key : Item → List ℕ
channel_key (Channel a b c) = key a b c ∷ []
channel_key (Histogram a b c) = []
channel_key (HitCount a b c) = []
channel_key (Sample v) = []
channel_key (Bin b n) = []
channel_key (LastCell a b) = []
channel_key (TimeBin t) = []
channel_key (Text s) = []
channel_key (StartEvent t ts n) = []
channel_key (ContinueEvent n) = []
channel_key (EndEvent n) = []

abbrev pub histogram_key : Item → List ℕ
histogram_key (Channel a b c) = []
histogram_key (Histogram a b c) = key a b c ∷ []
histogram_key (HitCount a b c) = []
histogram_key (Sample v) = []
histogram_key (Bin b n) = []
histogram_key (LastCell a b) = []
histogram_key (TimeBin t) = []
histogram_key (Text s) = []
histogram_key (StartEvent t ts n) = []
histogram_key (ContinueEvent n) = []
histogram_key (EndEvent n) = []

abbrev pub bin_number : Item → List ℕ
bin_number (Channel a b c) = []
bin_number (Histogram a b c) = []
bin_number (HitCount a b c) = []
bin_number (Sample v) = []
bin_number (Bin b n) = b ∷ []
bin_number (LastCell a b) = []
bin_number (TimeBin t) = []
bin_number (Text s) = []
bin_number (StartEvent t ts n) = []
bin_number (ContinueEvent n) = []
bin_number (EndEvent n) = []

abbrev pub start_time : Item → List ℕ
start_time (Channel a b c) = []
start_time (Histogram a b c) = []
start_time (HitCount a b c) = []
start_time (Sample v) = []
start_time (Bin b n) = []
start_time (LastCell a b) = []
start_time (TimeBin t) = t ∷ []
start_time (Text s) = []
start_time (StartEvent t ts n) = []
start_time (ContinueEvent n) = []
start_time (EndEvent n) = []

abbrev pub head_or_zero : List ℕ → ℕ
head_or_zero [] = 0
head_or_zero (n ∷ ns) = n

-- the number is above every one of these
unfoldable pub above : ℕ → List ℕ → Bool
above k [] = true
above k (n ∷ ns) = ltb n k && above k ns

-- how many items open an event, or go on with one
abbrev pub openers : List Item → ℕ
openers p = count start_event p + count continue_event p

-- an event is open: such an item stands since the latest End event; and one that began in this frame: a Start event does
abbrev pub in_event : List Item → Bool
in_event p = leb 1 (openers (since end_event p))

abbrev pub begun : List Item → Bool
begun p = has start_event (since end_event p)

-- "A Time bin's first sample is at that time, each further sample one later": the time that a sample after p has
abbrev pub time : List Item → ℕ
time p = head_or_zero (gather start_time p) + count sample (since time_bin p)

-- "the last sample's time": the one that the latest Sample has, after the items before it
abbrev pub last_time : List Item → ℕ
last_time p = time (before sample p)

-- ---- place

-- where the next item would stand
pub data ReaderMode : Type 0 where
  fresh outside inside after_channel after_time after_sample unheaded headed commands : ReaderMode

abbrev pub inside_after : Class → ReaderMode
inside_after channel = after_channel
inside_after histogram = inside
inside_after hit_count = inside
inside_after sample = after_sample
inside_after bin = inside
inside_after last_cell = inside
inside_after time_bin = after_time
inside_after data_frame = inside
inside_after monitor_frame = inside
inside_after command_frame = inside
inside_after text = inside
inside_after start_event = inside
inside_after continue_event = inside
inside_after end_event = inside
inside_after frame_end = inside
inside_after unassigned = inside

-- outside an event: before any item, or after an event
abbrev pub between_events : List Item → ReaderMode
between_events [] = fresh
between_events (x ∷ p) = outside

abbrev pub mode_after : Kind → List Item → ReaderMode
mode_after data_kind p = pick (in_event p) (inside_after (latest p)) (between_events p)
mode_after monitor_kind p = pick (same histogram (latest p) || same bin (latest p)) headed unheaded
mode_after command_kind p = commands

-- "outside an event only Start event", and Continue event "may only be the first item of a data frame". "Inside: Hit count, Last cell, Channel, End event; after Channel only Time bin; after Time bin only Sample;
-- after Sample also Sample and Time bin"; "Histogram anywhere; Bin after Histogram or Bin"; "Text only"
abbrev pub allowed : ReaderMode → List Class
allowed fresh = start_event ∷ continue_event ∷ []
allowed outside = start_event ∷ []
allowed inside = hit_count ∷ last_cell ∷ channel ∷ end_event ∷ []
allowed after_channel = time_bin ∷ []
allowed after_time = sample ∷ []
allowed after_sample = hit_count ∷ last_cell ∷ channel ∷ end_event ∷ sample ∷ time_bin ∷ []
allowed unheaded = histogram ∷ []
allowed headed = histogram ∷ bin ∷ []
allowed commands = text ∷ []

abbrev pub among : Class → List Class → Bool
among c [] = false
among c (d ∷ ds) = same c d || among c ds

abbrev pub place : Kind → List Item → Class → Bool
place kind p c = among c (allowed (mode_after kind p))

-- "A data frame may end in an open event, though not after Channel or Time bin"
abbrev pub may_end : List Item → Bool
may_end p = not (same channel (latest p) || same time_bin (latest p))

-- ---- value

-- the bytes of an event whose End event comes after p, "from its Start event word to the end of its End event item"
abbrev pub event_size : List Item → ℕ
event_size p = 2 * total (since start_event p) + 6

-- "its size the event's bytes"; "A frame alone checks that size only where the event began in it"
abbrev pub sized : List Item → Item → Bool
sized p (Channel a b c) = true
sized p (Histogram a b c) = true
sized p (HitCount a b c) = true
sized p (Sample v) = true
sized p (Bin b n) = true
sized p (LastCell a b) = true
sized p (TimeBin t) = true
sized p (Text s) = true
sized p (StartEvent t ts n) = true
sized p (ContinueEvent n) = true
sized p (EndEvent n) = not (begun p) || eqb n (event_size p)

abbrev pub value : ℕ → List Item → Item → Bool
value card p x = in_range card x && sized p x

-- ---- order

-- "none after 511. A later Time bin in a channel is at least 2 above the last sample's time"; it is later where a Sample stands since the Channel.
-- "Channel headers in one event rise by their 14-bit content, so do Histogram headers in a frame, and bin numbers in a histogram"
abbrev pub order : List Item → Item → Bool
order p (Channel a b c) = above (key a b c) (gather channel_key (since start_event p))
order p (Histogram a b c) = above (key a b c) (gather histogram_key p)
order p (HitCount a b c) = true
order p (Sample v) = leb (time p) 511
order p (Bin b n) = above b (gather bin_number (since histogram p))
order p (LastCell a b) = true
order p (TimeBin t) = not (has sample (since channel p)) || leb (last_time p + 2) t
order p (Text s) = true
order p (StartEvent t ts n) = true
order p (ContinueEvent n) = true
order p (EndEvent n) = true

-- ---- the rules together

-- the earlier items with the new one, or the number of the first rule of 6 to 10 that is broken
pub data Checked (A : Type 0) : Type 0 where
  good : A → Checked A
  bad : ℕ → Checked A

unfoldable pub check : Kind → ℕ → List Item → Token → Checked (List Item)
check kind card p (flawed n) = bad n
check kind card p (broken c) = pick (place kind p c) (bad 9) (bad 8)
check kind card p (whole x) =
    pick (place kind p (class_for x)) (pick (value card p x) (pick (order p x) (good (x ∷ p)) (bad 10)) (bad 9)) (bad 8)
