-- The book as a page, document 02: "a table of 256 rows, one for each high byte, with the low byte deciding only in row 00".
-- Assumes nothing.
use Rattle.std.specs.Prelude.{ℕ, zero, suc, ◌*◌, ◌/◌, ◌%◌, List, [], ◌∷◌, map, eqb, ltb, length, get_or}
use Rattle.format.specs.Words.{pick}
use Rattle.format.specs.Book.{Class, book, class_of, row_of, class_at}

-- the numbers that name a class: 0 for none, and one for each row of the documents' table
abbrev pub named : ℕ
named = suc (length book)

-- a row holds such a number, or this one, which names none: the low byte decides
abbrev pub low_byte : ℕ
low_byte = 255

-- what a row says of a word with this low byte; where it names no class, the word is told as if its high byte were 0
abbrev pub on_row : ℕ → ℕ → Class
on_row row low = pick (ltb row named) (class_at row) (class_of low)

-- what a page says of a word: the row is that of its high byte
unfoldable pub on_page : List ℕ → ℕ → Class
on_page page w = on_row (get_or page (w / 256) 0) (w % 256)

-- the row of a high byte: it holds what the search finds for its first word, and in row 00 the low byte decides
abbrev pub row_at : ℕ → ℕ
row_at high = pick (eqb high 0) low_byte (row_of (class_of (256 * high)))

-- the n numbers from a
unfoldable pub numbers : ℕ → ℕ → List ℕ
numbers a zero = []
numbers a (suc n) = a ∷ numbers (suc a) n

-- the book's page
unfoldable pub book_page : List ℕ
book_page = map row_at (numbers 0 256)
