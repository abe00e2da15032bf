-- What a reader has to remember of the earlier items, as a function of that list, and one turn of the rules at a word of some bytes.
-- Assumes nothing.
use Rattle.std.specs.Prelude.{ℕ, suc, ◌+◌, ◌-◌, ◌*◌, max, List, [], ◌∷◌, Bool, true, false, not, ◌&&◌, ◌||◌, length, take, drop, leb, ltb, eqb}
use Rattle.format.specs.Words.{pick, words, word_at}
use Rattle.format.specs.Answers.{Outcome, accepted, and_then}
use Rattle.format.specs.Book.{Class, channel, histogram, start_event, end_event, class_of, after}
use Rattle.format.specs.Items.{Item, Channel, Histogram, HitCount, Sample, Bin, LastCell, TimeBin, Text, StartEvent, ContinueEvent, EndEvent, class_for, in_range, key, Token, whole, broken, flawed, token_of, tokens}
use Rattle.format.specs.Rules.{Kind, data_kind, monitor_kind, command_kind, same, since, has, total, gather, channel_key, histogram_key, bin_number, time, begun, ReaderMode, fresh, outside, inside, after_channel, after_time, after_sample, unheaded, headed, commands, mode_after, allowed, among, Checked, good, bad}
use Rattle.format.specs.Frames.{Frame, earlier_then, walk, verdict}

-- ---- the state

-- where events begin and end. The leading part is that of an event that began in another frame, and goes on with a Continue event in this one
pub record Marks : Type 0 where
  -- the word index of the latest Start event; 0 where the frame has none. Whether its event is open is the mode's to tell
  pub opener : ℕ
  -- one more than the key of the leading part's first Channel header; 0 where it has none
  pub first : ℕ
  -- the word index of the leading part's End event; 0 where it has none
  pub lead : ℕ

pub record ReaderState : Type 0 where
  -- where the next item would stand
  pub mode : ReaderMode
  -- a header's key is at least this
  pub key : ℕ
  -- the time that a sample would have, or the least number that a bin may have
  pub next : ℕ
  pub marks : Marks

-- the least number above all of these
unfoldable pub above_all : List ℕ → ℕ
above_all [] = 0
above_all (n ∷ ns) = max (suc n) (above_all ns)

abbrev pub key_after : Kind → List Item → ℕ
key_after data_kind p = above_all (gather channel_key (since start_event p))
key_after monitor_kind p = above_all (gather histogram_key p)
key_after command_kind p = 0

abbrev pub next_after : Kind → List Item → ℕ
next_after data_kind p = time p
next_after monitor_kind p = above_all (gather bin_number (since histogram p))
next_after command_kind p = 0

-- the items p begin at word 3
abbrev pub opener_after : List Item → ℕ
opener_after p = pick (has start_event p) ((3 + total p) - total (since start_event p)) 0

-- a Channel of an event that did not begin in this frame, and the first one
unfoldable pub first_after : List Item → ℕ
first_after [] = 0
first_after (x ∷ p) = pick (same channel (class_for x) && not (begun p) && eqb (first_after p) 0) (above_all (channel_key x)) (first_after p)

-- an End event of an event that did not begin in this frame
unfoldable pub lead_after : List Item → ℕ
lead_after [] = 0
lead_after (x ∷ p) = pick (same end_event (class_for x) && not (begun p)) (3 + total p) (lead_after p)

unfoldable pub marks_after : List Item → Marks
marks_after p = record { opener = opener_after p; first = first_after p; lead = lead_after p }

-- no event has begun or ended
abbrev pub unmarked : Marks
unmarked = record { opener = 0; first = 0; lead = 0 }

unfoldable pub state_of : Kind → List Item → ReaderState
state_of kind p = record { mode = mode_after kind p; key = key_after kind p; next = next_after kind p; marks = marks_after p }

-- the state before any item
abbrev pub first_mode : Kind → ReaderMode
first_mode data_kind = fresh
first_mode monitor_kind = unheaded
first_mode command_kind = commands

abbrev pub start : Kind → ReaderState
start kind = record { mode = first_mode kind; key = 0; next = 0; marks = unmarked }

-- ---- the rules by the state alone, of an item at word `at`

abbrev pub place_by : ReaderState → Class → Bool
place_by st c = among c (allowed st.mode)

abbrev pub sized_by : ℕ → ReaderState → Item → Bool
sized_by at st (Channel a b c) = true
sized_by at st (Histogram a b c) = true
sized_by at st (HitCount a b c) = true
sized_by at st (Sample v) = true
sized_by at st (Bin b n) = true
sized_by at st (LastCell a b) = true
sized_by at st (TimeBin t) = true
sized_by at st (Text s) = true
sized_by at st (StartEvent t ts n) = true
sized_by at st (ContinueEvent n) = true
sized_by at st (EndEvent n) = eqb st.marks.opener 0 || eqb n (2 * (at - st.marks.opener) + 6)

abbrev pub value_by : ℕ → ℕ → ReaderState → Item → Bool
value_by card at st x = in_range card x && sized_by at st x

-- a Time bin right after a Sample leaves a pause
abbrev pub paused : ReaderMode → ℕ → ℕ → Bool
paused fresh next t = true
paused outside next t = true
paused inside next t = true
paused after_channel next t = true
paused after_time next t = true
paused after_sample next t = ltb next t
paused unheaded next t = true
paused headed next t = true
paused commands next t = true

abbrev pub order_by : ReaderState → Item → Bool
order_by st (Channel a b c) = leb st.key (key a b c)
order_by st (Histogram a b c) = leb st.key (key a b c)
order_by st (HitCount a b c) = true
order_by st (Sample v) = leb st.next 511
order_by st (Bin b n) = leb st.next b
order_by st (LastCell a b) = true
order_by st (TimeBin t) = paused st.mode st.next t
order_by st (Text s) = true
order_by st (StartEvent t ts n) = true
order_by st (ContinueEvent n) = true
order_by st (EndEvent n) = true

-- the marks after a Channel header whose key is one less than n, a Start event at word `at`, and an End event there. Channel and End event stand in the
-- leading part where no Start event stood before them: an event is open there, and behind a Start event none that began in another frame is
abbrev pub marks_channel : ℕ → Marks → Marks
marks_channel n m = record { opener = m.opener; first = pick (eqb m.opener 0 && eqb m.first 0) n m.first; lead = m.lead }

abbrev pub marks_start : ℕ → Marks → Marks
marks_start at m = record { opener = at; first = m.first; lead = m.lead }

abbrev pub marks_end : ℕ → Marks → Marks
marks_end at m = record { opener = m.opener; first = m.first; lead = pick (eqb m.opener 0) at m.lead }

-- the state after an item at word `at`
abbrev pub state_after : ℕ → ReaderState → Item → ReaderState
state_after at st (Channel a b c) = record { mode = after_channel; key = key a b c + 1; next = st.next; marks = marks_channel (key a b c + 1) st.marks }
state_after at st (Histogram a b c) = record { mode = headed; key = key a b c + 1; next = 0; marks = st.marks }
state_after at st (HitCount a b c) = record { mode = inside; key = st.key; next = st.next; marks = st.marks }
state_after at st (Sample v) = record { mode = after_sample; key = st.key; next = st.next + 1; marks = st.marks }
state_after at st (Bin b n) = record { mode = headed; key = st.key; next = b + 1; marks = st.marks }
state_after at st (LastCell a b) = record { mode = inside; key = st.key; next = st.next; marks = st.marks }
state_after at st (TimeBin t) = record { mode = after_time; key = st.key; next = t; marks = st.marks }
state_after at st (Text s) = record { mode = commands; key = 0; next = 0; marks = st.marks }
state_after at st (StartEvent t ts n) = record { mode = inside; key = 0; next = st.next; marks = marks_start at st.marks }
state_after at st (ContinueEvent n) = record { mode = inside; key = st.key; next = st.next; marks = st.marks }
state_after at st (EndEvent n) = record { mode = outside; key = st.key; next = st.next; marks = marks_end at st.marks }

unfoldable pub check_by : ℕ → ℕ → ReaderState → Token → Checked ReaderState
check_by card at st (flawed n) = bad n
check_by card at st (broken c) = pick (place_by st c) (bad 9) (bad 8)
check_by card at st (whole x) =
    pick (place_by st (class_for x)) (pick (value_by card at st x) (pick (order_by st x) (good (state_after at st x)) (bad 10)) (bad 9)) (bad 8)

-- the items may end here: not after Channel or Time bin
abbrev pub ended_by : ReaderMode → Bool
ended_by fresh = true
ended_by outside = true
ended_by inside = true
ended_by after_channel = false
ended_by after_time = false
ended_by after_sample = true
ended_by unheaded = true
ended_by headed = true
ended_by commands = true

-- an event is open here
abbrev pub open_in : ReaderMode → Bool
open_in fresh = false
open_in outside = false
open_in inside = true
open_in after_channel = true
open_in after_time = true
open_in after_sample = true
open_in unheaded = false
open_in headed = false
open_in commands = false

-- ---- one turn at a word of some bytes, of which the words before word `last` are read

-- the token that begins at a word
unfoldable pub token_at : List ℕ → ℕ → ℕ → Token
token_at s last at = token_of (word_at s at) (drop (at + 1) (take last (words s)))

-- where the next one begins
unfoldable pub next_at : List ℕ → ℕ → ℕ
next_at s at = at + 1 + after (class_of (word_at s at)) (word_at s at)

-- the tokens from a word on
abbrev pub rest : List ℕ → ℕ → ℕ → List Token
rest s last at = tokens 0 (drop at (take last (words s)))

pub data Stepped : Type 0 where
  -- the state after the item, and the index of the next
  moved : ReaderState → ℕ → Stepped
  -- the number of the refusal
  stopped : ℕ → Stepped

abbrev pub marked : ℕ → Checked ReaderState → Stepped
marked next (good st) = moved st next
marked next (bad n) = stopped n

unfoldable pub step_of : ℕ → List ℕ → ℕ → ℕ → ReaderState → Stepped
step_of card s last at st = marked (next_at s at) (check_by card at st (token_at s last at))

-- ---- what a walk to the end tells of the items p, latest first

-- the word index of item n, 0 where there is none: an item after those of p begins at word 3 + their words
unfoldable pub index_in : ℕ → List Item → ℕ
index_in n [] = 0
index_in n (x ∷ p) = pick (eqb (length p) n) (3 + total p) (index_in n p)

-- how many items there are, the word index of item n, and the state behind them all
pub record Summary : Type 0 where
  pub count : ℕ
  pub index : ℕ
  pub state : ReaderState

abbrev pub summary : Kind → ℕ → List Item → Summary
summary kind n p = record { count = length p; index = index_in n p; state = state_of kind p }

-- the walk over the words before word `last`, asked for the index of item n
unfoldable pub summed : Kind → ℕ → List ℕ → ℕ → ℕ → Outcome Summary
summed kind card s last n = and_then (walk kind card [] 3 (rest s last 3)) (λ p. accepted (summary kind n p))

-- ---- what reading a frame answers: its kind, card and sequence word, how many items it has, and the state behind them
pub record Overview : Type 0 where
  pub kind : Kind
  pub card : ℕ
  pub sequence : ℕ
  pub items : ℕ
  pub state : ReaderState

abbrev pub overview : Frame → Overview
overview f = record { kind = f.kind; card = f.card; sequence = f.sequence; items = length f.items; state = state_of f.kind (earlier_then [] f.items) }

-- "A frame is tested 1 to 5 in order, then item by item from the left"
unfoldable pub read_of : List ℕ → Outcome Overview
read_of s = and_then (verdict s) (λ f. accepted (overview f))

-- and where item n stands
pub record Indexed : Type 0 where
  pub frame : Overview
  pub index : ℕ

unfoldable pub index_of : List ℕ → ℕ → Outcome Indexed
index_of s n = and_then (verdict s) (λ f. accepted (record { frame = overview f; index = index_in n (earlier_then [] f.items) }))
