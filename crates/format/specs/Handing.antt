-- Copying a frame by the calls: what the questions tell a caller of each item, and what the caller hands to the writer for it (document 01,
-- "Reading and writing items").
-- Assumes nothing.
use Rattle.std.specs.Prelude.{ℕ, suc, ◌+◌, ◌*◌, ◌^◌, ◌≡◌, List, [], ◌∷◌, ◌++◌, map, length, take}
use Rattle.format.specs.Words.{pick, words, long_words, time_words}
use Rattle.format.specs.Answers.{accepted}
use Rattle.format.specs.Book.{text, page_range}
use Rattle.format.specs.Items.{ItemOf, Item, Channel, Histogram, HitCount, Sample, Bin, LastCell, TimeBin, Text, StartEvent, ContinueEvent, EndEvent, class_for, Token, whole}
use Rattle.format.specs.Rules.{Kind, same}
use Rattle.format.specs.Frames.{Frame, start_word, encode, Legal}
use Rattle.format.specs.Questions.{IndexedShown, shown, shown_at, text_in, text_at}
use Rattle.format.specs.Steps.{Overview, overview, read_of}
use Rattle.format.specs.Writing.{given}
use Rattle.format.specs.WriterCalls.{CallsDone, write_all}
use Rattle.format.specs.WriterCases.{Holds}

-- ---- what a caller is told

-- of a frame: these bytes are a legal frame's, and o is its kind, card, sequence word and count of items
pub record StandsFor (s : List ℕ) (o : Overview) : Type 0 where
  pub frame : Frame
  pub legal : Legal frame
  pub written : s ≡ encode frame
  pub overview_is : o ≡ overview frame

-- of an item: what `item` answers, and the bytes that `text` answers
pub record ItemAnswer : Type 0 where
  pub answer : IndexedShown
  pub text : List ℕ

-- what is told of the item x that stands at word `index` and ends before word `next`
abbrev pub item_answer_of : ℕ → Item → ℕ → ItemAnswer
item_answer_of index x next = record { answer = record { index = index; item = shown x; next = next }; text = text_in x }

-- the answers as they come, from ordinal n on: the one question asked and then the other, as often as the caller likes
pub data Answers (s : List ℕ) : ℕ → List ItemAnswer → Type 0 where
  no_more : {n : ℕ} → Answers s n []
  then : {n : ℕ} {x : ItemAnswer} {xs : List ItemAnswer} → shown_at s n ≡ accepted x.answer → text_at s n ≡ x.text → Answers s (suc n) xs → Answers s n (x ∷ xs)

-- document 01's column "Content, high bits first", of an item as it is answered: each field at the bit where it begins. A text's is its n; a
-- Continue event's content and an End event's low four bits are zero
abbrev pub content_of : ItemOf ℕ → ℕ
content_of (Channel card chip c) = card * 2 ^ 9 + chip * 2 ^ 7 + c
content_of (Histogram card chip c) = card * 2 ^ 9 + chip * 2 ^ 7 + c
content_of (HitCount card chip hits) = card * 2 ^ 9 + chip * 2 ^ 7 + hits
content_of (Sample v) = v
content_of (Bin b hits) = b
content_of (LastCell chip cell) = chip * 2 ^ 9 + cell
content_of (TimeBin t) = t
content_of (Text n) = n
content_of (StartEvent type stamp number) = type
content_of (ContinueEvent number) = 0
content_of (EndEvent size) = 0

-- and its column "Words after it": "count, low word first"; a text's bytes, which the other question answers, and the final zero; "timestamp in
-- 3, number in 2, low words first"; "size, low word first"; a Continue event's number likewise
abbrev pub words_after : ItemOf ℕ → List ℕ → List ℕ
words_after (Channel card chip c) s = []
words_after (Histogram card chip c) s = []
words_after (HitCount card chip hits) s = []
words_after (Sample v) s = []
words_after (Bin b hits) s = long_words hits
words_after (LastCell chip cell) s = []
words_after (TimeBin t) s = []
words_after (Text n) s = words (s ++ (0 ∷ []))
words_after (StartEvent type stamp number) s = time_words stamp ++ long_words number
words_after (ContinueEvent number) s = long_words number
words_after (EndEvent size) s = long_words size

-- the words that an item has by what is told of it: the first of its class's words with the content, and those after it
abbrev pub answer_words : ItemAnswer → List ℕ
answer_words x = ((page_range (class_for x.answer.item)).from + content_of x.answer.item) ∷ words_after x.answer.item x.text

unfoldable pub all_answer_words : List ItemAnswer → List ℕ
all_answer_words [] = []
all_answer_words (x ∷ xs) = answer_words x ++ all_answer_words xs

-- a frame's words by what `read`, `item` and `text` tell of it
abbrev pub frame_told : ℕ → Overview → List ItemAnswer → List ℕ
frame_told size o xs = start_word o.kind o.card ∷ size ∷ o.sequence ∷ (all_answer_words xs ++ (0x000F ∷ []))

-- ---- what a caller hands over

-- an item to `add`, or a text's bytes to `add_text`
pub data Call : Type 0 where
  by_add : ItemOf ℕ → Call
  by_text : List ℕ → Call

abbrev pub token_of_call : Call → Token
token_of_call (by_add x) = given x
token_of_call (by_text s) = whole (Text s)

-- the item as `item` answered it; where it is a text, the bytes that `text` answered
abbrev pub call_for : ItemOf ℕ → List ℕ → Call
call_for x s = pick (same text (class_for x)) (by_text s) (by_add x)

abbrev pub call_of : ItemAnswer → Call
call_of x = call_for x.answer.item x.text

-- an item as a caller who has it would hand it over
abbrev pub hand_over : Item → Call
hand_over x = call_for (shown x) (text_in x)

-- begin, these calls, close
abbrev pub write_calls : List ℕ → Kind → ℕ → ℕ → List Call → CallsDone
write_calls buf kind card sequence cs = write_all buf kind card sequence (map token_of_call cs)

-- an accepted run of calls: what it wrote is a legal frame of the items handed over, and the questions answer of it what was handed over, in that
-- order and no more
pub record CallsWrote (buf : List ℕ) (kind : Kind) (card sequence : ℕ) (cs : List Call) (m : ℕ) (left : List ℕ) : Type 0 where
  pub items : List Item
  pub handed : cs ≡ map hand_over items
  pub holds : Holds buf left (record { kind = kind; card = card; sequence = sequence; items = items }) m
  pub read : read_of (take m left) ≡ accepted (overview (record { kind = kind; card = card; sequence = sequence; items = items }))
  pub answers : List ItemAnswer
  pub answered : Answers (take m left) 0 answers
  pub counted : length answers ≡ length cs
  pub same : map call_of answers ≡ cs
