-- The house book: the rows of document 01, "The word book", shortest prefix first, and behind them those of document 02 in the order in which they
-- came; the class of a word, and how many words come after it.
-- Assumes nothing.
use Rattle.std.specs.Prelude.{Bool, true, false, List, [], ◌∷◌, map, ℕ, zero, suc, ◌+◌, ◌/◌, ◌%◌, ◌≤◌, get_or}
use Rattle.std.proofs.Math.Option.{Option, none, some}
use Rattle.format.specs.Words.{pick}
use Rattle.format.specs.Prefix.{Row, find}

pub data Class : Type 0 where
  channel histogram hit_count sample bin last_cell time_bin data_frame monitor_frame command_frame text start_event continue_event end_event frame_end unassigned : Class

abbrev pub row : ℕ → ℕ → Class → Row Class
row p n c = record { prefix = p; bits = n; class = c }

abbrev pub book : List (Row Class)
book =
    row 0b11 2 channel
    ∷ row 0b10 2 histogram
    ∷ row 0b01 2 hit_count
    ∷ row 0b0011 4 sample
    ∷ row 0b0010 4 bin
    ∷ row 0b00011 5 last_cell
    ∷ row 0b0000111 7 time_bin
    ∷ row 0b0000100 7 data_frame
    ∷ row 0b0000011 7 monitor_frame
    ∷ row 0b0000010 7 command_frame
    ∷ row 0x01 8 text
    ∷ row 0x00F 12 start_event
    ∷ row 0x00E 12 end_event
    ∷ row 0x000F 16 frame_end
    ∷ row 0b0000101 7 continue_event
    ∷ []

-- a word that no row matches is unassigned
abbrev pub or_unassigned : Option Class → Class
or_unassigned none = unassigned
or_unassigned (some c) = c

unfoldable pub class_of : ℕ → Class
class_of w = or_unassigned (find book w)

-- the number of a class's row in document 01's table, from 1 on, those of document 02 behind them; 0 for a word that has none
abbrev pub row_of : Class → ℕ
row_of channel = 1
row_of histogram = 2
row_of hit_count = 3
row_of sample = 4
row_of bin = 5
row_of last_cell = 6
row_of time_bin = 7
row_of data_frame = 8
row_of monitor_frame = 9
row_of command_frame = 10
row_of text = 11
row_of start_event = 12
row_of end_event = 13
row_of frame_end = 14
row_of continue_event = 15
row_of unassigned = 0

-- and the class of a row
abbrev pub class_at : ℕ → Class
class_at k = get_or (unassigned ∷ map (λ (r : Row Class). r.class) book) k unassigned

-- a text's n bytes, n in the low byte, take "n/2 rounded up" words
abbrev pub text_words : ℕ → ℕ
text_words w = (w % 256 + 1) / 2

-- the words after a word w of the class
abbrev pub after : Class → ℕ → ℕ
after channel w = 0
after histogram w = 0
after hit_count w = 0
after sample w = 0
after bin w = 2
after last_cell w = 0
after time_bin w = 0
after data_frame w = 0
after monitor_frame w = 0
after command_frame w = 0
after text w = text_words w
after start_event w = 5
after continue_event w = 2
after end_event w = 2
after frame_end w = 0
after unassigned w = 0

abbrev pub assigned : Class → Bool
assigned channel = true
assigned histogram = true
assigned hit_count = true
assigned sample = true
assigned bin = true
assigned last_cell = true
assigned time_bin = true
assigned data_frame = true
assigned monitor_frame = true
assigned command_frame = true
assigned text = true
assigned start_event = true
assigned continue_event = true
assigned end_event = true
assigned frame_end = true
assigned unassigned = false

-- document 01's table, and document 02's words: the words of each class, from the first to the last
pub record Range : Type 0 where
  pub from : ℕ
  pub to : ℕ

abbrev pub range : ℕ → ℕ → Range
range a b = record { from = a; to = b }

-- an unassigned word has no range
abbrev pub page_range : Class → Range
page_range channel = range 0xC000 0xFFFF
page_range histogram = range 0x8000 0xBFFF
page_range hit_count = range 0x4000 0x7FFF
page_range sample = range 0x3000 0x3FFF
page_range bin = range 0x2000 0x2FFF
page_range last_cell = range 0x1800 0x1FFF
page_range time_bin = range 0x0E00 0x0FFF
page_range data_frame = range 0x0800 0x09FF
page_range monitor_frame = range 0x0600 0x07FF
page_range command_frame = range 0x0400 0x05FF
page_range text = range 0x0100 0x01FF
page_range start_event = range 0x00F0 0x00FF
page_range continue_event = range 0x0A00 0x0BFF
page_range end_event = range 0x00E0 0x00EF
page_range frame_end = range 0x000F 0x000F
page_range unassigned = range 1 0

-- the word lies in the range
abbrev pub Within : ℕ → Range → Type 0
Within w g = (g.from ≤ w) × (w ≤ g.to)

-- the book's row k, from 0
abbrev pub nth : ℕ → Row Class
nth k = get_or book k (row 0 0 unassigned)

-- the sum of f over the n numbers from a
unfoldable pub sum : (ℕ → ℕ) → ℕ → ℕ → ℕ
sum f a zero = 0
sum f a (suc n) = f a + sum f (suc a) n

-- 1 for an unassigned word, 0 for any other
abbrev pub unread : ℕ → ℕ
unread w = pick (assigned (class_of w)) 0 1
