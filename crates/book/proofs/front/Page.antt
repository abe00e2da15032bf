-- The front page of the book's page: each statement in full, proved by one law. Quoted: document 02, request 4. The code's promise is that its page is
-- `book_page` and that it answers a word by `on_page` (specs/Page); here is what they say. That `classify` answers as the search does is its own promise,
-- as before.
-- Assumes nothing.
use Prim.Native.Nat.{ℕ, ◌/◌, ◌<◌}
use mathlib.Core.Path.{◌≡◌, refl}
use mathlib.Core.Logic.{◌↔◌}
use mathlib.Core.Bool.{true}
use mathlib.Core.List.{◌++◌}
use lib.ListN.{length, get_or, replicate}
use Rattle.format.specs.Book.{Class, class_of, row_of, assigned, page_range, Within}
use Rattle.book.specs.Page.{low_byte, on_page, numbers, book_page}
use Rattle.book.proofs.PageLaws as page

-- "a table of 256 rows, one for each high byte"
pub page_rows : length book_page ≡ 256
unfolding book_page numbers
page_rows = refl

-- "What callers are told stays as it is": on this page every word has the class that the search for its prefix finds.
pub page_agrees : (w : ℕ) → w < 65536 → on_page book_page w ≡ class_of w
page_agrees = page.page_agrees

-- "with the low byte deciding only in row 00"
pub page_low_byte : (high : ℕ) → high < 256 → (get_or book_page high 0 ≡ low_byte) ↔ (high ≡ 0)
page_low_byte = page.low_byte_alone

-- In every other row it decides nothing: two words with one high byte, not 0, are of one class.
pub page_high_byte : (v w : ℕ) → v / 256 ≡ w / 256 → (w / 256 ≡ 0 → ⊥) → class_of v ≡ class_of w
page_high_byte = page.high_alone

-- A row is that of the printed range (document 01) in which a word of its high byte lies.
pub page_printed : (w : ℕ) (c : Class) → w < 65536 → assigned c ≡ true → Within w (page_range c) → (w / 256 ≡ 0 → ⊥) → get_or book_page (w / 256) 0 ≡ row_of c
page_printed = page.as_printed

-- FIGURE: the page in runs, written from the printed ranges: from 00 on so many high bytes, and the number that their rows hold.
pub page_figure : book_page ≡ replicate 1 255 ++ replicate 1 11 ++ replicate 2 0 ++ replicate 2 10 ++ replicate 2 9 ++ replicate 2 8 ++ replicate 2 15 ++ replicate 2 0
    ++ replicate 2 7 ++ replicate 8 0 ++ replicate 8 6 ++ replicate 16 5 ++ replicate 16 4 ++ replicate 64 3 ++ replicate 64 2 ++ replicate 64 1
page_figure = page.in_runs
