-- The front page of the questions, T10 to T14 and T41: what each answers on an accepted frame, in terms of what stands in its items (specs/Stands).
-- Each theorem is one law.
-- Assumes nothing.
use Prim.Native.Nat.{ℕ, suc, ◌+◌, ◌-◌, ◌*◌, ◌/◌, ◌<◌, ◌≤◌}
use mathlib.Core.Path.{◌≡◌}
use mathlib.Core.List.{List, [], ◌∷◌, ◌++◌}
use mathlib.Core.Logic.{◌↔◌}
use mathlib.Core.Bool.{false}
use mathlib.Core.Option.{some}
use lib.ListN.{length, get_or, take, drop}
use Rattle.format.specs.Words.{Bytes, pick}
use Rattle.format.specs.Answers.{accepted, refused}
use Rattle.format.specs.Book.{text, end_event}
use Rattle.format.specs.Items.{Item, Text, EndEvent, class_for}
use Rattle.format.specs.Rules.{data_kind, same, count, openers, in_event}
use Rattle.format.specs.Frames.{Frame, earlier_then, all_words, verdict}
use Rattle.format.specs.Questions.{Began, Event, item_at, shown, shown_at, text_at, event_at, samples_at, samples_left, counts_at, counts_left, sample_word_at, bin_word_at}
use Rattle.format.specs.Cursor.{Meets}
use Rattle.format.specs.Stands.{ItemIs, index_of, EventIn, ChannelIn, HistogramIn, SampleIn, BinIn, Fill, sample_ordinal, bin_ordinal, SampleAt, BinAt}
use Rattle.format.specs.Spots.{spot}
use Rattle.format.proofs.reader.CursorLaws as cursor
use Rattle.format.proofs.questions.ItemQuestions as items
use Rattle.format.proofs.questions.EventQuestions as events
use Rattle.format.proofs.questions.FillQuestions as fill
use Rattle.format.proofs.questions.WordQuestions as word
use Rattle.format.proofs.writer.HandingLaws as handing

-- "Order: frame refusals, ..": a refused frame is refused by every question, and has no text
module _ (s : List ℕ) (k p : ℕ) (v : verdict s ≡ refused k p) where
  pub item_refused : (n : ℕ) → item_at s n ≡ refused k p
  item_refused = items.item_refused s k p v

  pub shown_refused : (n : ℕ) → shown_at s n ≡ refused k p
  shown_refused = handing.shown_refused s k p v

  pub text_refused : (n : ℕ) → text_at s n ≡ []
  text_refused = items.text_refused s k p v

  pub event_refused : (e : ℕ) → event_at s e ≡ refused k p
  event_refused = events.event_refused s k p v

  pub samples_refused : (e chip c room : ℕ) → samples_at s e chip c room ≡ refused k p
  samples_refused = fill.samples_refused s k p v

  pub counts_refused : (chip c room : ℕ) → counts_at s chip c room ≡ refused k p
  counts_refused = fill.counts_refused s k p v

  pub sample_word_refused : (e chip c t : ℕ) → sample_word_at s e chip c t ≡ refused k p
  sample_word_refused = word.sample_refused s k p v

  pub bin_word_refused : (chip c b : ℕ) → bin_word_at s chip c b ≡ refused k p
  bin_word_refused = word.bin_refused s k p v

-- "Every refusal leaves all lent memory as found."
pub samples_kept : (s : List ℕ) (e chip c k p : ℕ) (found : List ℕ) → samples_at s e chip c (length found) ≡ refused k p
    → samples_left (samples_at s e chip c (length found)) found ≡ found
samples_kept = fill.samples_kept

pub counts_kept : (s : List ℕ) (chip c k p : ℕ) (found : List ℕ) → counts_at s chip c (length found) ≡ refused k p
    → counts_left (counts_at s chip c (length found)) found ≡ found
counts_kept = fill.counts_kept

module _ (s : List ℕ) (bytes : Bytes s) (f : Frame) (v : verdict s ≡ accepted f) where
  -- from word 3 the cursor, which only decodes, meets the frame's items in order, each at its index and the last followed by the end word; and
  -- nothing else
  pub cursor_meets : Meets s 3 f.items
  cursor_meets = cursor.accepted_meets s bytes f v

  pub cursor_meets_only : (xs : List Item) → Meets s 3 xs → xs ≡ f.items
  cursor_meets_only xs m = cursor.met_once s 3 xs f.items m cursor_meets

  -- T10. "The item at ordinal n (from 0) answers with its class and content, and the index of the next item or end word"; with them its own index
  pub item_answer : (n : ℕ) (x : Item) → ItemIs f.items n x
      → item_at s n ≡ accepted (record { index = index_of f.items n; item = x; next = index_of f.items (suc n) })
  item_answer = items.item_there s f v

  -- as it is answered: of a text, its n (proofs/front/Demand2.antt ties the answers to the printed columns, and to what the writer is handed)
  pub item_shown : (n : ℕ) (x : Item) → ItemIs f.items n x
      → shown_at s n ≡ accepted (record { index = index_of f.items n; item = shown x; next = index_of f.items (suc n) })
  item_shown = handing.shown_there s f v

  pub item_there : (n : ℕ) → n < length f.items → (x : Item) × ItemIs f.items n x
  item_there n = items.item_stands n f.items

  -- ABSENT, "no such item"
  pub item_absent : (n : ℕ) → length f.items ≤ n → item_at s n ≡ refused 13 0
  item_absent = items.item_past s f v

  pub shown_absent : (n : ℕ) → length f.items ≤ n → shown_at s n ≡ refused 13 0
  shown_absent = handing.shown_past s f v

  -- the first item stands behind the three first words, each further one behind it, and behind the last one the frame's last word
  pub first_index : index_of f.items 0 ≡ 3
  first_index = items.index_first f.items

  pub indexes_rise : (n : ℕ) → n < length f.items → index_of f.items n < index_of f.items (suc n)
  indexes_rise n = items.index_rises n f.items

  pub end_index : index_of f.items (length f.items) ≡ length s / 2 - 1
  end_index = items.index_last s bytes f v

  -- T11. "A text's content is the part of the caller's own frame without the final zero."
  pub text_is : (n : ℕ) (t : List ℕ) → ItemIs f.items n (Text t) → text_at s n ≡ t
  text_is n t = items.text_of s f v n (Text t)

  pub text_part : (n : ℕ) (t : List ℕ) → ItemIs f.items n (Text t) → text_at s n ≡ take (length t) (drop (2 * index_of f.items n + 2) s)
  text_part = items.text_bytes s bytes f v

  -- "on any refusal or another class that question gives an empty part"
  pub text_other : (n : ℕ) (x : Item) → ItemIs f.items n x → same text (class_for x) ≡ false → text_at s n ≡ []
  text_other = items.other_text s f v

  pub text_absent : (n : ℕ) → length f.items ≤ n → text_at s n ≡ []
  text_absent = items.text_past s f v

  pub text_only : (n b : ℕ) (t : List ℕ) → text_at s n ≡ b ∷ t → ItemIs f.items n (Text (b ∷ t))
  text_only = items.only_text s f v

  -- T12. "Event e answers with its type, timestamp, number, size and the index of its Start event word."
  pub event_exactly : (e : ℕ) (w : Event) → (event_at s e ≡ accepted w) ↔ EventIn f.items e w
  event_exactly = events.event_answer s bytes f v

  -- ".. its size the event's bytes, from its Start event word to the end of its End event item", where both stand in this frame
  pub event_size : (e : ℕ) (w : Event) (h : EventIn f.items e w) (t : Began) (z : ℕ) → w.began ≡ some t → w.size ≡ some z
      → z ≡ 2 * length (all_words (h.opener ∷ (h.between ++ (EndEvent z ∷ []))))
  event_size = events.event_bytes s bytes f v

  -- ABSENT, "no such event"
  pub event_absent : (e : ℕ) → (event_at s e ≡ refused 13 0) ↔ (openers f.items ≤ e)
  event_absent = events.event_none s f v

  -- every event has its End event in this frame, but a last one that is still open
  pub events_whole : openers f.items ≡ count end_event f.items + pick (in_event (earlier_then [] f.items)) 1 0
  events_whole = events.frame_balance s bytes f v

  pub events_in_data : (f.kind ≡ data_kind → ⊥) → (e : ℕ) → event_at s e ≡ refused 13 0
  events_in_data = events.other_kind s bytes f v

  -- T13. "Samples of event e (from 0), chip, channel go into 512 words .. Order: frame refusals, 12, 13."
  pub samples_room : (e chip c room : ℕ) → room < 512 → samples_at s e chip c room ≡ refused 12 0
  samples_room = fill.samples_room s f v

  pub samples_exactly : (e chip c room : ℕ) → 512 ≤ room → (ys : List Item) → (samples_at s e chip c room ≡ accepted ys) ↔ ChannelIn f.items e chip c ys
  samples_exactly = fill.samples_answer s bytes f v

  -- ABSENT, "no such .. channel"; "A number out of range is 13"
  pub samples_absent : (e chip c room : ℕ) → 512 ≤ room → (samples_at s e chip c room ≡ refused 13 0) ↔ ((ys : List Item) → ChannelIn f.items e chip c ys → ⊥)
  samples_absent = fill.samples_none s bytes f v

  -- at most one header of the event has that chip and channel
  pub one_channel : (e chip c : ℕ) (ys ys' : List Item) (a : ChannelIn f.items e chip c ys) (b : ChannelIn f.items e chip c ys') → (a.left ≡ b.left) × (ys ≡ ys')
  one_channel = fill.one_channel_header s bytes f v

  -- no two of its Samples have one time: two that have it are one, with as many Samples before it; none is after 511
  pub one_sample : (e chip c : ℕ) (ys : List Item) → ChannelIn f.items e chip c ys → (t u w : ℕ) (a : SampleIn ys t u) (b : SampleIn ys t w)
      → (sample_ordinal a ≡ sample_ordinal b) × (u ≡ w)
  one_sample = fill.one_sample f (events.sounds s bytes f v)

  pub sample_time : (e chip c : ℕ) (ys : List Item) → ChannelIn f.items e chip c ys → (t u : ℕ) → SampleIn ys t u → t ≤ 511
  sample_time = fill.sample_time f (events.sounds s bytes f v)

  -- "0xFFFF where no sample stands .. Words beyond these are untouched"
  pub samples_left_lem : (e chip c : ℕ) (ys : List Item) → ChannelIn f.items e chip c ys → (found : List ℕ) → 512 ≤ length found
      → Fill 512 0xFFFF (SampleIn ys) found (samples_left (samples_at s e chip c (length found)) found)
  samples_left_lem = fill.samples_lent s bytes f v

  -- T14. "counts of a histogram go into 4,096 words of 32 bits"
  pub counts_room : (chip c room : ℕ) → room < 4096 → counts_at s chip c room ≡ refused 12 0
  counts_room = fill.counts_room s f v

  pub counts_exactly : (chip c room : ℕ) → 4096 ≤ room → (ys : List Item) → (counts_at s chip c room ≡ accepted ys) ↔ HistogramIn f.items chip c ys
  counts_exactly = fill.counts_answer s bytes f v

  pub counts_absent : (chip c room : ℕ) → 4096 ≤ room → (counts_at s chip c room ≡ refused 13 0) ↔ ((ys : List Item) → HistogramIn f.items chip c ys → ⊥)
  counts_absent = fill.counts_none s bytes f v

  pub one_histogram : (chip c : ℕ) (ys ys' : List Item) (a : HistogramIn f.items chip c ys) (b : HistogramIn f.items chip c ys') → (a.left ≡ b.left) × (ys ≡ ys')
  one_histogram = fill.one_histogram_header s bytes f v

  pub one_bin : (chip c : ℕ) (ys : List Item) → HistogramIn f.items chip c ys → (b m n : ℕ) (x : BinIn ys b m) (y : BinIn ys b n)
      → (bin_ordinal x ≡ bin_ordinal y) × (m ≡ n)
  one_bin = fill.one_bin f (events.sounds s bytes f v)

  -- "0 where no bin stands"
  pub counts_left_lem : (chip c : ℕ) (ys : List Item) → HistogramIn f.items chip c ys → (found : List ℕ) → 4096 ≤ length found
      → Fill 4096 0 (BinIn ys) found (counts_left (counts_at s chip c (length found)) found)
  counts_left_lem = fill.counts_lent s bytes f v

  -- a histogram without bins is there, and all its counts are 0
  pub empty_histogram : (chip c : ℕ) (ys : List Item) → HistogramIn f.items chip c ys → ((b n : ℕ) → BinIn ys b n → ⊥) → (found : List ℕ) → 4096 ≤ length found
      → (counts_at s chip c (length found) ≡ accepted ys) × ((b : ℕ) → b < 4096 → get_or (counts_left (counts_at s chip c (length found)) found) b 0 ≡ 0)
  empty_histogram = fill.empty_counts s bytes f v

  -- T41. The word of a sample, the index that a correction takes: the first word of the Sample that stands at that time of the channel in the event,
  pub sample_word_exactly : (e chip c t w : ℕ) → (sample_word_at s e chip c t ≡ accepted w) ↔ ((n : ℕ) × SampleAt f.items e chip c t w n)
  sample_word_exactly = word.sample_exactly s bytes f v

  -- and 13 where none stands: no such event, channel or sample
  pub sample_word_absent : (e chip c t : ℕ) → (sample_word_at s e chip c t ≡ refused 13 0) ↔ ((ys : List Item) (n : ℕ) → ChannelIn f.items e chip c ys → SampleIn ys t n → ⊥)
  sample_word_absent = word.sample_absent s bytes f v

  -- what stands at that word is a spot of kind 1, under that chip and channel, of the value that the samples question leaves at that time
  pub sample_word_left : (e chip c t w : ℕ) → sample_word_at s e chip c t ≡ accepted w → (found : List ℕ) → 512 ≤ length found
      → (n : ℕ) × (spot s w ≡ some (record { kind = 1; value = n; header = record { card = f.card; chip = chip; channel = c } }))
      × (get_or (samples_left (samples_at s e chip c (length found)) found) t 0 ≡ n)
  sample_word_left = word.sample_left s bytes f v

  -- of a channel that stands, 13 exactly where that question leaves 0xFFFF; no sample is after 511
  pub sample_word_blank : (e chip c : ℕ) (ys : List Item) → ChannelIn f.items e chip c ys → (found : List ℕ) → 512 ≤ length found → (t : ℕ) → t < 512
      → (sample_word_at s e chip c t ≡ refused 13 0) ↔ (get_or (samples_left (samples_at s e chip c (length found)) found) t 0 ≡ 0xFFFF)
  sample_word_blank = word.sample_blank s bytes f v

  pub sample_word_late : (e chip c t : ℕ) → 512 ≤ t → sample_word_at s e chip c t ≡ refused 13 0
  sample_word_late = word.sample_late s bytes f v

  -- the word of a bin: the first word of the Bin of that number in the histogram, and 13 where none stands: no such histogram or bin
  pub bin_word_exactly : (chip c b w : ℕ) → (bin_word_at s chip c b ≡ accepted w) ↔ ((n : ℕ) × BinAt f.items chip c b w n)
  bin_word_exactly = word.bin_exactly s bytes f v

  pub bin_word_absent : (chip c b : ℕ) → (bin_word_at s chip c b ≡ refused 13 0) ↔ ((ys : List Item) (n : ℕ) → HistogramIn f.items chip c ys → BinIn ys b n → ⊥)
  bin_word_absent = word.bin_absent s bytes f v

  -- what stands at that word is a spot of kind 2, under that chip and channel, of the count that the counts question leaves at that number
  pub bin_word_left : (chip c b w : ℕ) → bin_word_at s chip c b ≡ accepted w → (found : List ℕ) → 4096 ≤ length found
      → (n : ℕ) × (spot s w ≡ some (record { kind = 2; value = n; header = record { card = f.card; chip = chip; channel = c } }))
      × (get_or (counts_left (counts_at s chip c (length found)) found) b 0 ≡ n)
  bin_word_left = word.bin_left s bytes f v

  -- of a histogram that stands, 13 exactly where that question leaves 0
  pub bin_word_blank : (chip c : ℕ) (ys : List Item) → HistogramIn f.items chip c ys → (found : List ℕ) → 4096 ≤ length found → (b : ℕ) → b < 4096
      → (bin_word_at s chip c b ≡ refused 13 0) ↔ (get_or (counts_left (counts_at s chip c (length found)) found) b 0 ≡ 0)
  bin_word_blank = word.bin_blank s bytes f v

  pub bin_word_far : (chip c b : ℕ) → 4096 ≤ b → bin_word_at s chip c b ≡ refused 13 0
  bin_word_far = word.bin_far s bytes f v
