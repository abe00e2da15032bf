-- The front page of the word book: what a word is, what an item is written as and read as. Each statement in full, proved by one law. Quoted:
-- document 01.
-- Assumes nothing.
use Prim.Native.Nat.{ℕ, ◌+◌, ◌-◌, ◌<◌}
use mathlib.Core.Path.{◌≡◌}
use mathlib.Core.Logic.{◌↔◌}
use mathlib.Core.Bool.{true, false}
use mathlib.Core.Option.{none, some}
use mathlib.Core.List.{List, [], ◌∷◌, ◌++◌, map, flatten, Memᴰ}
use lib.ListN.{length, get_or, take, drop}
use Rattle.format.specs.Prefix.{Row, matches, find, prefix_free, Matched}
use Rattle.format.specs.Book.{Class, unassigned, book, class_of, row_of, class_at, after, assigned, page_range, Within, nth, sum, unread}
use Rattle.format.specs.Items.{Item, class_for, header_bits, words_of, fits, in_range, whole, token_of, tokens, key}
use Rattle.format.specs.Tree.{Limits}
use Rattle.format.specs.Fields.{cut, pack, Fit, widths, content, row_for, first_word, later_words, Read, total}
use Rattle.format.specs.Figures.{tabled, figures, figure_words}
use Rattle.format.proofs.book.BookFigures as figure
use Rattle.format.proofs.book.PrefixLaws as prefix
use Rattle.format.proofs.book.BookLaws as ranges
use Rattle.format.proofs.book.TableLaws as table
use Rattle.format.proofs.book.Unassigned as count
use Rattle.format.proofs.book.FieldLaws as field
use Rattle.format.proofs.items.ItemLaws as item
use Rattle.format.proofs.items.WrittenLaws as written
use Rattle.format.proofs.rules.LimitLaws as limit
use Rattle.format.proofs.rules.KeyLaws as keys

-- T1. "a word's type is a prefix of varying length, tried shortest first": for ANY table in which no prefix begins another, and any kind of class.

module _ {A : Type 0} (t : List (Row A)) (free : prefix_free t ≡ true) where
  -- The answer is the class of a row that the word matches, and the class of every such row is the answer.
  pub search_answers : (w : ℕ) (c : A) → (find t w ≡ some c) ↔ Matched t w c
  search_answers = table.answers t free

  -- No word matches two rows.
  pub search_once : (w : ℕ) (r s : Row A) → Memᴰ r t → Memᴰ s t → matches r w ≡ true → matches s w ≡ true → r ≡ s
  search_once = prefix.unique t free

  -- Nothing is found exactly where no row matches.
  pub search_nothing : (w : ℕ) → (find t w ≡ none) ↔ ((r : Row A) → Memᴰ r t → matches r w ≡ false)
  search_nothing = prefix.missed t

  -- The order of the search is of no account: "shortest first" or any other answers every word alike.
  pub search_order : (u : List (Row A)) → ((r : Row A) → Memᴰ r t → Memᴰ r u) → ((r : Row A) → Memᴰ r u → Memᴰ r t)
      → (w : ℕ) → find u w ≡ find t w
  search_order u = prefix.order_free t u free

-- T2. "The words below are our house book".

-- The book is such a table.
pub book_prefix_free : prefix_free book ≡ true
book_prefix_free = ranges.book_free

-- Each class has exactly the words of its printed range (specs/Book, `page_range`), for every word,
pub book_ranges : (w : ℕ) (c : Class) → assigned c ≡ true → (class_of w ≡ c) ↔ Within w (page_range c)
book_ranges = table.class_range

-- "All other words" are unassigned, and only they:
pub book_unassigned : (w : ℕ) → (class_of w ≡ unassigned) ↔ ((c : Class) → assigned c ≡ true → Within w (page_range c) → ⊥)
book_unassigned = table.class_none

-- "3,807 of them", of the 65,536 words from 0 on, less the 512 that document 02 makes Continue event.
pub book_unassigned_count : sum unread 0 65536 ≡ 3295
book_unassigned_count = count.unassigned_count

-- The rows are numbered from 1 in the table's order (specs/Figures, `tabled`), 0 is no row's, and the book has its rows in that order.
pub book_rows : map row_of tabled ≡ 1 ∷ 2 ∷ 3 ∷ 4 ∷ 5 ∷ 6 ∷ 7 ∷ 8 ∷ 9 ∷ 10 ∷ 11 ∷ 12 ∷ 13 ∷ 14 ∷ 15 ∷ 0 ∷ []
book_rows = figure.rows_numbered

pub book_row_stands : (c : Class) → class_at (row_of c) ≡ c
book_row_stands = figure.row_stands

-- T3. "The fields are cut from the word by position", "high bits first" (specs/Fields, `widths`: the printed widths), and go in the same way.

-- In every row, prefix and fields fill the word;
pub fields_fill : (r : Row Class) → Memᴰ r book → 16 - r.bits ≡ total (widths r.class)
fields_fill = field.fills

-- a word of a row is the row's prefix and the fields cut from it;
pub fields_back : (r : Row Class) → Memᴰ r book → (w : ℕ) → matches r w ≡ true
    → pack (widths r.class) r.prefix (cut (widths r.class) w) ≡ w
fields_back = field.word_of_fields

-- fields that fit, put below a head, are cut out again as they were, of whatever widths;
pub fields_there : (ns : List ℕ) (head : ℕ) (xs : List ℕ) → Fit ns xs → cut ns (pack ns head xs) ≡ xs
fields_there = field.cut_packed

-- and an item's first word is the prefix of its class with its content: card, chip and channel, or whatever the table names.
pub item_first : (x : Item) → words_of x ≡ pack (widths (class_for x)) (nth (row_for x)).prefix (content x) ∷ later_words x
item_first = written.first_word_lem

pub item_content : (x : Item) → fits x ≡ true → cut (widths (class_for x)) (first_word x) ≡ content x
item_content = written.content_cut

-- the same of an item that is read at a word, whatever the words behind it
pub item_fields : (w : ℕ) (ws : List ℕ) (x : Item) → ((i : ℕ) → get_or ws i 0 < 65536) → token_of w ws ≡ whole x → cut (widths (class_for x)) w ≡ content x
item_fields = written.read_content

-- and that first word is of the item's class
pub item_class : (x : Item) → fits x ≡ true → class_of (first_word x) ≡ class_for x
item_class x f = (written.written x f).class

-- "Words after it": an item is one word and as many as its class and that word say.
pub item_count : (x : Item) → fits x ≡ true → length (words_of x) ≡ 1 + after (class_for x) (first_word x)
item_count = written.words_count

-- T4. There: an item that fits, read from its words, is itself, whatever stands behind it; that is then read as if the item were not there.
pub item_there : (x : Item) (rest : List ℕ) → fits x ≡ true → tokens 0 (words_of x ++ rest) ≡ whole x ∷ tokens 0 rest
item_there = item.read_written

-- Back: a word w and as many of the words behind it as it asks for, read as an item, are that item's words (and the item fits, and is of w's
-- class). So no two lists of words are read as one item.
pub item_back : (w : ℕ) (ws : List ℕ) (x : Item) → ((i : ℕ) → get_or ws i 0 < 65536) → token_of w ws ≡ whole x → Read w (take (after (class_of w) w) ws) x
item_back = item.written_read

-- No two items have the same words, and none has words that begin another's.
pub item_injective : (x y : Item) → fits x ≡ true → fits y ≡ true → words_of x ≡ words_of y → x ≡ y
item_injective = written.words_injective

pub item_prefix_free : (x y : Item) (a b : List ℕ) → fits x ≡ true → fits y ≡ true → words_of x ++ a ≡ words_of y ++ b → (x ≡ y) × (a ≡ b)
item_prefix_free = written.words_prefix_free

-- The value rules that look at an item and the frame's card alone: "Card equals the frame's card; channel at most 78; hit count at most 79; bin count
-- at least 1", and no content too wide for its field. The test and the tree's limits, each with numerals of its own, say the same.
pub item_limits : (card : ℕ) (x : Item) → (in_range card x ≡ true) ↔ Limits card x
item_limits = limit.limits

-- An item that the value rules let pass fits its fields: all of this holds of it.
pub item_in_range : (card : ℕ) (x : Item) → in_range card x ≡ true → fits x ≡ true
item_in_range = limit.range_fits

-- "The words after an item are data": those that an item has taken are not read again.
pub item_data : (k : ℕ) (ws : List ℕ) → tokens k ws ≡ tokens 0 (drop k ws)
item_data = item.tokens_skip

-- "Channel headers in one event rise by their 14-bit content, so do Histogram headers": the key by which they are compared rises with it.
pub key_rises : (a b c a' b' c' : ℕ) → b < 4 → c < 128 → b' < 4 → c' < 128 → (key a b c < key a' b' c') ↔ (header_bits a b c < header_bits a' b' c')
key_rises = keys.key_rises

-- FIGURES: the words that document 01 prints for the items of its cases 3 and 7, and a few more (proofs/book/BookFigures has words that are no
-- item's as well), are what these items are written as, and are read as these items.
pub figures_written : flatten (map words_of figures) ≡ figure_words
figures_written = figure.figures_written

pub figures_read : tokens 0 figure_words ≡ map (λ (x : Item). whole x) figures
figures_read = figure.figures_read

-- T36. "The ranges of card, chip, channel and the rest belong to their item classes and are named there once." The crate `book` has each limit
-- as a constant of its item; the numeral here is the one of `fits` or `obeys` (specs/Items), written apart from it, and once more in `Limits` (specs/Tree).
-- The promise of the item's `valid` says that constant and numeral agree; a text's bytes are judged by the function that adds them.
--
--   limit                          constant of the code                                            numeral of `fits`, `obeys`
--   card                           LAST_CARD, that of Channel, Histogram, HitCount                 31
--   chip                           Channel, Histogram, HitCount, LastCell ::LAST_CHIP              3
--   channel                        Channel, Histogram ::LAST                                       78
--   hit count                      HitCount::MOST                                                  79
--   sample value                   Sample::LAST                                                    4095
--   bin number                     Bin::LAST                                                       4095
--   bin count, at least            Bin::LEAST_COUNT                                                1
--   cell                           LastCell::LAST                                                  511
--   time                           TimeBin::LAST                                                   511
--   text, bytes without the zero   Text::MOST                                                      254
--   event type                     StartEvent::LAST_TYPE                                           15
--   timestamp                      StartEvent::LAST_TIMESTAMP                                      281474976710655
--   count, number, size            the type u32                                                    below 4294967296
