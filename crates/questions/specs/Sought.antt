-- What the scans over an accepted frame find: for the functions that only this crate calls. Words are counted from the frame's first.
-- Assumes nothing.
use Rattle.std.specs.Prelude as found
use Rattle.std.specs.Prelude.{ℕ, ◌+◌, ◌%◌, ◌<◌, ◌≡◌, List, [], ◌∷◌, Bool, true, false, ◌&&◌, eqb, length}
use Rattle.std.proofs.Math.Option.{Option, none, some}
use Rattle.format.specs.Words.{pick, word_at, time_at, long_at}
use Rattle.format.specs.Answers.{Outcome, accepted, refused, and_then, Done}
use Rattle.format.specs.Book.{class_of, continue_event, end_event}
use Rattle.format.specs.Items.{ItemOf, Item, Channel, Histogram, HitCount, Sample, Bin, LastCell, TimeBin, Text, StartEvent, ContinueEvent, EndEvent}
use Rattle.format.specs.Rules.{Kind, data_kind, same, gather}
use Rattle.format.specs.Frames.{earlier_then}
use Rattle.format.specs.Cursor.{items_from, On}
use Rattle.format.specs.Questions.{Event, Opened, end_size, head_of, events, pick_nth, present, done, until, past_at, is_channel, is_histogram, channel_at, sample_word, bin_word}
use Rattle.book.specs.Views.{view_option}
use Rattle.questions.specs.Views.{itself}

-- the cursor stands at word `at` of an accepted frame of the kind
pub record Amid (s : List ℕ) (kind : Kind) (at : ℕ) : Type 0 where
  pub on : On s at
  pub kind_is : on.frame.kind ≡ kind

-- an item, as it is answered, that opens an event or goes on with one, and one that ends it
abbrev pub opens_event : ItemOf ℕ → Bool
opens_event (Channel a b c) = false
opens_event (Histogram a b c) = false
opens_event (HitCount a b c) = false
opens_event (Sample v) = false
opens_event (Bin b n) = false
opens_event (LastCell a b) = false
opens_event (TimeBin t) = false
opens_event (Text n) = false
opens_event (StartEvent t ts n) = true
opens_event (ContinueEvent n) = true
opens_event (EndEvent n) = false

abbrev pub ends_event : ItemOf ℕ → Bool
ends_event (Channel a b c) = false
ends_event (Histogram a b c) = false
ends_event (HitCount a b c) = false
ends_event (Sample v) = false
ends_event (Bin b n) = false
ends_event (LastCell a b) = false
ends_event (TimeBin t) = false
ends_event (Text n) = false
ends_event (StartEvent t ts n) = false
ends_event (ContinueEvent n) = false
ends_event (EndEvent n) = true

-- one that is a header of a chip and a channel
abbrev pub is_header : ℕ → ℕ → ItemOf ℕ → Bool
is_header chip c (Channel a b d) = eqb b chip && eqb d c
is_header chip c (Histogram a b d) = eqb b chip && eqb d c
is_header chip c (HitCount a b d) = false
is_header chip c (Sample v) = false
is_header chip c (Bin b n) = false
is_header chip c (LastCell a b) = false
is_header chip c (TimeBin t) = false
is_header chip c (Text n) = false
is_header chip c (StartEvent t ts n) = false
is_header chip c (ContinueEvent n) = false
is_header chip c (EndEvent n) = false

-- the event whose Start event stands at word q
abbrev pub started_at : List ℕ → ℕ → Opened
started_at s q = record {
  event = record {
    began = some (record { kind = word_at s q % 16; timestamp = time_at s (q + 1) });
    number = long_at s (q + 4);
    size = head_of (gather end_size (items_from s (q + 6)));
    index = q;
  };
  items = items_from s (q + 6);
  inside = q + 6;
}

-- the event that goes on with the Continue event at word q
abbrev pub continued_at : List ℕ → ℕ → Opened
continued_at s q = record {
  event = record {
    began = none;
    number = long_at s (q + 1);
    size = head_of (gather end_size (items_from s (q + 3)));
    index = q;
  };
  items = items_from s (q + 3);
  inside = q + 3;
}

-- the event that the item at word q opens, and the word behind that item
abbrev pub opened_at : List ℕ → ℕ → Opened
opened_at s q = pick (same (class_of (word_at s q)) continue_event) (continued_at s q) (started_at s q)

abbrev pub inside_at : List ℕ → ℕ → ℕ
inside_at s q = (opened_at s q).inside

-- event e begins at word q
pub record EventAt (s : List ℕ) (e q : ℕ) : Type 0 where
  pub within : q < length s
  pub picked : pick_nth e (events 3 (items_from s 3)) ≡ some (opened_at s q)
  pub amid : Amid s data_kind (inside_at s q)

abbrev pub EventSought : List ℕ → ℕ → found.Option ℕ → Type 0
EventSought s e (found.Some q) = EventAt s e q
EventSought s e found.None = pick_nth e (events 3 (items_from s 3)) ≡ none

-- what event e of some items answers
abbrev pub event_in : List Item → ℕ → Outcome Event
event_in xs e = and_then (present (pick_nth e (events 3 xs))) (λ o. accepted o.event)

-- what a question that fills lent words answers, and how it leaves them
pub record Filling (o : Outcome (List Item)) (written : Outcome (List Item) → List ℕ → List ℕ) (found : List ℕ) (answer : Done) (left : List ℕ) : Type 0 where
  pub answered : answer ≡ done o
  pub filled : left ≡ written o found

-- behind word q stands what is behind a Channel header: its time bins and samples come first
pub record Headed (s : List ℕ) (q : ℕ) : Type 0 where
  pub on : On s q
  pub card : ℕ
  pub chip : ℕ
  pub channel : ℕ
  pub before : List Item
  pub header : earlier_then [] on.before ≡ Channel card chip channel ∷ before

pub record ChannelAt (s : List ℕ) (from chip c q : ℕ) : Type 0 where
  pub passed : past_at (is_channel chip c) from (until end_event (items_from s from)) ≡ some (record { index = q; items = until end_event (items_from s q) })
  pub headed : Headed s q

abbrev pub ChannelSought : List ℕ → ℕ → ℕ → ℕ → found.Option ℕ → Type 0
ChannelSought s from chip c (found.Some q) = ChannelAt s from chip c q
ChannelSought s from chip c found.None = past_at (is_channel chip c) from (until end_event (items_from s from)) ≡ none

-- of event e of a frame's items
pub record ChannelFound (s : List ℕ) (e chip c q : ℕ) : Type 0 where
  pub found : channel_at e chip c (items_from s 3) ≡ accepted (record { index = q; items = until end_event (items_from s q) })
  pub headed : Headed s q

abbrev pub SamplesSought : List ℕ → ℕ → ℕ → ℕ → found.Option ℕ → Type 0
SamplesSought s e chip c (found.Some q) = ChannelFound s e chip c q
SamplesSought s e chip c found.None = channel_at e chip c (items_from s 3) ≡ refused 13 0

pub record HistogramAt (s : List ℕ) (chip c q : ℕ) : Type 0 where
  pub passed : past_at (is_histogram chip c) 3 (items_from s 3) ≡ some (record { index = q; items = items_from s q })
  pub on : On s q

abbrev pub HistogramSought : List ℕ → ℕ → ℕ → found.Option ℕ → Type 0
HistogramSought s chip c (found.Some q) = HistogramAt s chip c q
HistogramSought s chip c found.None = past_at (is_histogram chip c) 3 (items_from s 3) ≡ none

-- a place as the definitions have it
abbrev pub place_of : found.Option ℕ → Option ℕ
place_of = view_option itself

-- the word of a sample, and of a bin, of a frame's items
abbrev pub sample_word_in : List Item → ℕ → ℕ → ℕ → ℕ → Outcome ℕ
sample_word_in xs e chip c t = and_then (channel_at e chip c xs) (λ h. present (sample_word t 0 h.index h.items))

abbrev pub bin_word_in : List Item → ℕ → ℕ → ℕ → Outcome ℕ
bin_word_in xs chip c b = and_then (present (past_at (is_histogram chip c) 3 xs)) (λ h. present (bin_word b h.index h.items))
