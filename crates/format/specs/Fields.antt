-- The fields of a word, by their widths: cut out by position, high bits first, and put in the same way; and an item's first word by its content
-- (document 01, "The word book").
-- Assumes nothing.
use Rattle.std.specs.Prelude.{ℕ, ◌+◌, ◌-◌, ◌*◌, ◌/◌, ◌%◌, ◌^◌, ◌<◌, ◌≡◌, List, [], ◌∷◌, ◌++◌, true, length}
use Rattle.format.specs.Words.{words, long_words, time_words}
use Rattle.format.specs.Book.{Class, channel, histogram, hit_count, sample, bin, last_cell, time_bin, data_frame, monitor_frame, command_frame, text, start_event, continue_event, end_event, frame_end, unassigned, class_of, row_of, nth}
use Rattle.format.specs.Items.{ItemOf, Item, Channel, Histogram, HitCount, Sample, Bin, LastCell, TimeBin, Text, StartEvent, ContinueEvent, EndEvent, class_for, words_of, fits}

-- how many bits fields of these widths take
abbrev pub total : List ℕ → ℕ
total [] = 0
total (n ∷ ns) = n + total ns

-- the fields of these widths in the low bits of a word: each at the place that the widths behind it leave
abbrev pub cut : List ℕ → ℕ → List ℕ
cut [] w = []
cut (n ∷ ns) w = (w / 2 ^ total ns % 2 ^ n) ∷ cut ns w

-- the word with these fields below a head
abbrev pub pack : List ℕ → ℕ → List ℕ → ℕ
pack [] h xs = h
pack (n ∷ ns) h [] = pack ns (h * 2 ^ n) []
pack (n ∷ ns) h (x ∷ xs) = pack ns (h * 2 ^ n + x) xs

-- one value for each width, and none too wide
abbrev pub Fit : List ℕ → List ℕ → Type 0
Fit [] [] = Unit {0}
Fit [] (x ∷ xs) = ⊥
Fit (n ∷ ns) [] = ⊥
Fit (n ∷ ns) (x ∷ xs) = (x < 2 ^ n) × Fit ns xs

-- document 01's column "Content, high bits first", of each class
abbrev pub widths : Class → List ℕ
widths channel = 5 ∷ 2 ∷ 7 ∷ []
widths histogram = 5 ∷ 2 ∷ 7 ∷ []
widths hit_count = 5 ∷ 2 ∷ 7 ∷ []
widths sample = 12 ∷ []
widths bin = 12 ∷ []
widths last_cell = 2 ∷ 9 ∷ []
widths time_bin = 9 ∷ []
widths data_frame = 4 ∷ 5 ∷ []
widths monitor_frame = 4 ∷ 5 ∷ []
widths command_frame = 4 ∷ 5 ∷ []
widths text = 8 ∷ []
widths start_event = 4 ∷ []
widths continue_event = 9 ∷ []
widths end_event = 4 ∷ []
widths frame_end = []
widths unassigned = []

-- CONTENT: the fields of an item's first word, in the book's order. A text's is its n, the final zero counted; a Continue
-- event's and an End event's are zero.
abbrev pub content : Item → List ℕ
content (Channel a b c) = a ∷ b ∷ c ∷ []
content (Histogram a b c) = a ∷ b ∷ c ∷ []
content (HitCount a b c) = a ∷ b ∷ c ∷ []
content (Sample v) = v ∷ []
content (Bin b n) = b ∷ []
content (LastCell a b) = a ∷ b ∷ []
content (TimeBin t) = t ∷ []
content (Text s) = (length s + 1) ∷ []
content (StartEvent t ts n) = t ∷ []
content (ContinueEvent n) = 0 ∷ []
content (EndEvent n) = 0 ∷ []

-- the item's row of the book
abbrev pub row_for : {T : Type 0} → ItemOf T → ℕ
row_for x = row_of (class_for x) - 1

-- the words after the first
abbrev pub later_words : Item → List ℕ
later_words (Channel a b c) = []
later_words (Histogram a b c) = []
later_words (HitCount a b c) = []
later_words (Sample v) = []
later_words (Bin b n) = long_words n
later_words (LastCell a b) = []
later_words (TimeBin t) = []
later_words (Text s) = words (s ++ (0 ∷ []))
later_words (StartEvent t ts n) = time_words ts ++ long_words n
later_words (ContinueEvent n) = long_words n
later_words (EndEvent n) = long_words n

-- an item's first word
abbrev pub first_word : Item → ℕ
first_word x = pack (widths (class_for x)) (nth (row_for x)).prefix (content x)

-- T3, back: a word of a class, with its words after it, is what its content is written as
pub record Read (w : ℕ) (ws : List ℕ) (x : Item) : Type 0 where
  pub words : w ∷ ws ≡ words_of x
  pub fits : fits x ≡ true
  pub class : class_for x ≡ class_of w
