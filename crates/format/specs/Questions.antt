-- The questions on what was read (document 01, "Reading and writing items").
-- Assumes nothing.
use Rattle.std.specs.Prelude.{ℕ, zero, suc, ◌+◌, ◌≡◌, List, [], ◌∷◌, ◌++◌, Bool, false, ◌&&◌, length, set, leb, eqb}
use Rattle.std.proofs.Math.Option.{Option, none, some}
use Rattle.format.specs.Words.{pick}
use Rattle.format.specs.Answers.{Outcome, accepted, refused, and_then, Done}
use Rattle.format.specs.Book.{Class, end_event}
use Rattle.format.specs.Items.{ItemOf, Item, Channel, Histogram, HitCount, Sample, Bin, LastCell, TimeBin, Text, StartEvent, ContinueEvent, EndEvent, class_for, words_of}
use Rattle.format.specs.Rules.{same, gather}
use Rattle.format.specs.Frames.{verdict}

-- ---- the item at an ordinal

-- an item as it is answered: of a text, its n, the final zero included; its bytes are a question of their own
abbrev pub shown : Item → ItemOf ℕ
shown (Channel a b c) = Channel a b c
shown (Histogram a b c) = Histogram a b c
shown (HitCount a b c) = HitCount a b c
shown (Sample v) = Sample v
shown (Bin b n) = Bin b n
shown (LastCell a b) = LastCell a b
shown (TimeBin t) = TimeBin t
shown (Text s) = Text (length s + 1)
shown (StartEvent t ts n) = StartEvent t ts n
shown (ContinueEvent n) = ContinueEvent n
shown (EndEvent n) = EndEvent n

-- an item and the index of the next one, or of the end word: what the cursor finds at a word (specs/Cursor)
pub record Found : Type 0 where
  pub item : Item
  pub next : ℕ

-- as it is answered
pub record Shown : Type 0 where
  pub item : ItemOf ℕ
  pub next : ℕ

-- the same with the index of the item's own first word: what the item question finds
pub record IndexedItem : Type 0 where
  pub index : ℕ
  pub item : Item
  pub next : ℕ

-- as it is answered
pub record IndexedShown : Type 0 where
  pub index : ℕ
  pub item : ItemOf ℕ
  pub next : ℕ

-- item n of those that begin at word `at`; 13 where there is none
unfoldable pub nth : ℕ → ℕ → List Item → Outcome IndexedItem
nth n at [] = refused 13 0
nth zero at (x ∷ xs) = accepted (record { index = at; item = x; next = at + length (words_of x) })
nth (suc n) at (x ∷ xs) = nth n (at + length (words_of x)) xs

unfoldable pub item_at : List ℕ → ℕ → Outcome IndexedItem
item_at s n = and_then (verdict s) (λ f. nth n 3 f.items)

abbrev pub showing : IndexedItem → IndexedShown
showing r = record { index = r.index; item = shown r.item; next = r.next }

unfoldable pub shown_at : List ℕ → ℕ → Outcome IndexedShown
shown_at s n = and_then (item_at s n) (λ r. accepted (showing r))

-- "A text's content .. without the final zero"; on any refusal or another class an empty part
abbrev pub text_in : Item → List ℕ
text_in (Channel a b c) = []
text_in (Histogram a b c) = []
text_in (HitCount a b c) = []
text_in (Sample v) = []
text_in (Bin b n) = []
text_in (LastCell a b) = []
text_in (TimeBin t) = []
text_in (Text s) = s
text_in (StartEvent t ts n) = []
text_in (ContinueEvent n) = []
text_in (EndEvent n) = []

abbrev pub text_found : Outcome IndexedItem → List ℕ
text_found (accepted r) = text_in r.item
text_found (refused n p) = []

unfoldable pub text_at : List ℕ → ℕ → List ℕ
text_at s n = text_found (item_at s n)

-- the first answer that is there, else 13
abbrev pub present : {A : Type 0} → Option A → Outcome A
present none = refused 13 0
present (some a) = accepted a

-- ---- events

-- what an event's Start event tells: its type and timestamp
pub record Began : Type 0 where
  pub kind : ℕ
  pub timestamp : ℕ

-- "Event e answers with its type, timestamp, number, size and the index of its Start event word". A part that a Continue event opens "counts as
-- event 0 there, indexed by its first word; what stands in another frame is answered as missing"
pub record Event : Type 0 where
  -- where its Start event is in this frame
  pub began : Option Began
  pub number : ℕ
  -- where its End event is in this frame
  pub size : Option ℕ
  pub index : ℕ

-- an event, the items after the one that opens it, and the word at which these begin
pub record Opened : Type 0 where
  pub event : Event
  pub items : List Item
  pub inside : ℕ

abbrev pub end_size : Item → List ℕ
end_size (Channel a b c) = []
end_size (Histogram a b c) = []
end_size (HitCount a b c) = []
end_size (Sample v) = []
end_size (Bin b n) = []
end_size (LastCell a b) = []
end_size (TimeBin t) = []
end_size (Text s) = []
end_size (StartEvent t ts n) = []
end_size (ContinueEvent n) = []
end_size (EndEvent n) = n ∷ []

-- the first of some numbers, where there is one
abbrev pub head_of : List ℕ → Option ℕ
head_of [] = none
head_of (n ∷ ns) = some n

-- the event that an item at word `at` opens, where the items xs come after it; its size is what the first End event gives.
-- A Start event has six words, a Continue event three
abbrev pub opens : ℕ → Item → List Item → List Opened
opens at (Channel a b c) xs = []
opens at (Histogram a b c) xs = []
opens at (HitCount a b c) xs = []
opens at (Sample v) xs = []
opens at (Bin b n) xs = []
opens at (LastCell a b) xs = []
opens at (TimeBin t) xs = []
opens at (Text s) xs = []
opens at (StartEvent t ts n) xs =
    record { event = record { began = some (record { kind = t; timestamp = ts }); number = n; size = head_of (gather end_size xs); index = at }; items = xs; inside = at + 6 } ∷ []
opens at (ContinueEvent n) xs =
    record { event = record { began = none; number = n; size = head_of (gather end_size xs); index = at }; items = xs; inside = at + 3 } ∷ []
opens at (EndEvent n) xs = []

-- the events of some items, the first of which stands at word `at`
unfoldable pub events : ℕ → List Item → List Opened
events at [] = []
events at (x ∷ xs) = opens at x xs ++ events (at + length (words_of x)) xs

unfoldable pub pick_nth : {A : Type 0} → ℕ → List A → Option A
pick_nth n [] = none
pick_nth zero (a ∷ l) = some a
pick_nth (suc n) (a ∷ l) = pick_nth n l

unfoldable pub event_at : List ℕ → ℕ → Outcome Event
event_at s e = and_then (verdict s) (λ f. and_then (present (pick_nth e (events 3 f.items))) (λ o. accepted o.event))

-- ---- samples and counts

-- the items before the first one of the class
unfoldable pub until : Class → List Item → List Item
until c [] = []
until c (x ∷ xs) = pick (same c (class_for x)) [] (x ∷ until c xs)

-- the items after the first one that passes the test
unfoldable pub past : (Item → Bool) → List Item → Option (List Item)
past f [] = none
past f (x ∷ xs) = pick (f x) (some xs) (past f xs)

-- a Channel header, and a Histogram header, of a chip and a channel; their card is the frame's
abbrev pub is_channel : ℕ → ℕ → Item → Bool
is_channel chip c (Channel a b d) = eqb b chip && eqb d c
is_channel chip c (Histogram a b d) = false
is_channel chip c (HitCount a b d) = false
is_channel chip c (Sample v) = false
is_channel chip c (Bin b n) = false
is_channel chip c (LastCell a b) = false
is_channel chip c (TimeBin t) = false
is_channel chip c (Text s) = false
is_channel chip c (StartEvent t ts n) = false
is_channel chip c (ContinueEvent n) = false
is_channel chip c (EndEvent n) = false

abbrev pub is_histogram : ℕ → ℕ → Item → Bool
is_histogram chip c (Channel a b d) = false
is_histogram chip c (Histogram a b d) = eqb b chip && eqb d c
is_histogram chip c (HitCount a b d) = false
is_histogram chip c (Sample v) = false
is_histogram chip c (Bin b n) = false
is_histogram chip c (LastCell a b) = false
is_histogram chip c (TimeBin t) = false
is_histogram chip c (Text s) = false
is_histogram chip c (StartEvent t ts n) = false
is_histogram chip c (ContinueEvent n) = false
is_histogram chip c (EndEvent n) = false

-- the first n words v, those beyond as they are
unfoldable pub cleared : ℕ → ℕ → List ℕ → List ℕ
cleared zero v l = l
cleared (suc n) v [] = []
cleared (suc n) v (x ∷ l) = v ∷ cleared n v l

-- the samples that come first, each at its time: a Time bin gives the time of the next one
unfoldable pub fill_samples : ℕ → List Item → List ℕ → List ℕ
fill_samples t [] l = l
fill_samples t (Channel a b c ∷ xs) l = l
fill_samples t (Histogram a b c ∷ xs) l = l
fill_samples t (HitCount a b c ∷ xs) l = l
fill_samples t (Sample v ∷ xs) l = fill_samples (suc t) xs (set l t v)
fill_samples t (Bin b n ∷ xs) l = l
fill_samples t (LastCell a b ∷ xs) l = l
fill_samples t (TimeBin u ∷ xs) l = fill_samples u xs l
fill_samples t (Text s ∷ xs) l = l
fill_samples t (StartEvent k ts n ∷ xs) l = l
fill_samples t (ContinueEvent n ∷ xs) l = l
fill_samples t (EndEvent n ∷ xs) l = l

-- the bins that come first, each count at its number
unfoldable pub fill_counts : List Item → List ℕ → List ℕ
fill_counts [] l = l
fill_counts (Channel a b c ∷ xs) l = l
fill_counts (Histogram a b c ∷ xs) l = l
fill_counts (HitCount a b c ∷ xs) l = l
fill_counts (Sample v ∷ xs) l = l
fill_counts (Bin b n ∷ xs) l = fill_counts xs (set l b n)
fill_counts (LastCell a b ∷ xs) l = l
fill_counts (TimeBin t ∷ xs) l = l
fill_counts (Text s ∷ xs) l = l
fill_counts (StartEvent k ts n ∷ xs) l = l
fill_counts (ContinueEvent n ∷ xs) l = l
fill_counts (EndEvent n ∷ xs) l = l

-- the items after the header of a channel in event e
unfoldable pub channel_in : ℕ → ℕ → ℕ → List Item → Outcome (List Item)
channel_in e chip c xs = and_then (present (pick_nth e (events 3 xs))) (λ o. present (past (is_channel chip c) (until end_event o.items)))

-- "Order: frame refusals, 12, 13"
unfoldable pub samples_at : List ℕ → ℕ → ℕ → ℕ → ℕ → Outcome (List Item)
samples_at s e chip c room = and_then (verdict s) (λ f. pick (leb 512 room) (channel_in e chip c f.items) (refused 12 0))

unfoldable pub counts_at : List ℕ → ℕ → ℕ → ℕ → Outcome (List Item)
counts_at s chip c room = and_then (verdict s) (λ f. pick (leb 4096 room) (present (past (is_histogram chip c) f.items)) (refused 12 0))

-- ---- the words of samples and bins: the index that a correction takes

-- the items behind one, and the word at which they begin
pub record Behind : Type 0 where
  pub index : ℕ
  pub items : List Item

-- those after the first one that passes the test, where the first of all stands at word `at`
unfoldable pub past_at : (Item → Bool) → ℕ → List Item → Option Behind
past_at f at [] = none
past_at f at (x ∷ xs) =
    pick (f x) (some (record { index = at + length (words_of x); items = xs })) (past_at f (at + length (words_of x)) xs)

-- the word of the sample at time t, among the samples that come first: the next one is at time u, and the first item stands at word `at`. A
-- Sample and a Time bin have one word
unfoldable pub sample_word : ℕ → ℕ → ℕ → List Item → Option ℕ
sample_word t u at [] = none
sample_word t u at (Channel a b c ∷ xs) = none
sample_word t u at (Histogram a b c ∷ xs) = none
sample_word t u at (HitCount a b c ∷ xs) = none
sample_word t u at (Sample v ∷ xs) = pick (eqb u t) (some at) (sample_word t (suc u) (at + 1) xs)
sample_word t u at (Bin b n ∷ xs) = none
sample_word t u at (LastCell a b ∷ xs) = none
sample_word t u at (TimeBin w ∷ xs) = sample_word t w (at + 1) xs
sample_word t u at (Text s ∷ xs) = none
sample_word t u at (StartEvent k ts n ∷ xs) = none
sample_word t u at (ContinueEvent n ∷ xs) = none
sample_word t u at (EndEvent n ∷ xs) = none

-- the first word of bin b, among the bins that come first: a Bin has three words
unfoldable pub bin_word : ℕ → ℕ → List Item → Option ℕ
bin_word b at [] = none
bin_word b at (Channel x y c ∷ xs) = none
bin_word b at (Histogram x y c ∷ xs) = none
bin_word b at (HitCount x y c ∷ xs) = none
bin_word b at (Sample v ∷ xs) = none
bin_word b at (Bin d n ∷ xs) = pick (eqb d b) (some at) (bin_word b (at + 3) xs)
bin_word b at (LastCell x y ∷ xs) = none
bin_word b at (TimeBin t ∷ xs) = none
bin_word b at (Text s ∷ xs) = none
bin_word b at (StartEvent k ts n ∷ xs) = none
bin_word b at (ContinueEvent n ∷ xs) = none
bin_word b at (EndEvent n ∷ xs) = none

-- the items after the header of a channel in event e, and where they begin
unfoldable pub channel_at : ℕ → ℕ → ℕ → List Item → Outcome Behind
channel_at e chip c xs = and_then (present (pick_nth e (events 3 xs))) (λ o. present (past_at (is_channel chip c) o.inside (until end_event o.items)))

-- Order: frame refusals, 13
unfoldable pub sample_word_at : List ℕ → ℕ → ℕ → ℕ → ℕ → Outcome ℕ
sample_word_at s e chip c t =
    and_then (verdict s) (λ f. and_then (channel_at e chip c f.items) (λ h. present (sample_word t 0 h.index h.items)))

unfoldable pub bin_word_at : List ℕ → ℕ → ℕ → ℕ → Outcome ℕ
bin_word_at s chip c b =
    and_then (verdict s) (λ f. and_then (present (past_at (is_histogram chip c) 3 f.items)) (λ h. present (bin_word b h.index h.items)))

-- ---- what the samples and counts questions leave

abbrev pub done : {A : Type 0} → Outcome A → Done
done (accepted a) = accepted tt
done (refused n p) = refused n p

-- "0xFFFF where no sample stands", "0 where no bin stands"; on a refusal as found
abbrev pub samples_left : Outcome (List Item) → List ℕ → List ℕ
samples_left (accepted xs) l = fill_samples 0 xs (cleared 512 0xFFFF l)
samples_left (refused n p) l = l

abbrev pub counts_left : Outcome (List Item) → List ℕ → List ℕ
counts_left (accepted xs) l = fill_counts xs (cleared 4096 0 l)
counts_left (refused n p) l = l

-- the promise of the samples question: its answer, and all lent words as it leaves them
pub record Sampled (s : List ℕ) (e chip c : ℕ) (found : List ℕ) (answer : Done) (left : List ℕ) : Type 0 where
  pub answered : answer ≡ done (samples_at s e chip c (length found))
  pub filled : left ≡ samples_left (samples_at s e chip c (length found)) found

-- and of the counts question
pub record Counted (s : List ℕ) (chip c : ℕ) (found : List ℕ) (answer : Done) (left : List ℕ) : Type 0 where
  pub answered : answer ≡ done (counts_at s chip c (length found))
  pub filled : left ≡ counts_left (counts_at s chip c (length found)) found
