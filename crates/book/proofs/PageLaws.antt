-- The book's page and the search say the same of every word: where the high byte is not 0 it decides alone, since every prefix that is longer begins
-- with eight zeros; where it is 0, the row asks the low byte, which is the word.
-- Assumes nothing.
use mathlib.Core.Path.{◌≡◌, refl, sym, ap, ◌∙◌}
use mathlib.Core.Bool.{Bool, true, false}
use mathlib.Core.Logic.{◌↔◌}
use mathlib.Core.List.{List, ◌++◌, map}
use Prim.Native.Nat.{ℕ, zero, suc, ◌+◌, ◌*◌, ◌/◌, ◌%◌, ◌<◌}
use native.Mathlib.Nat.{add-zero, add-suc, suc-add, zero-add, le_of_suc-le-suc, not-suc-le-zero}
use native.Mathlib.Omega.{arith}
use lib.Dec.{eqb, ltb}
use lib.ListN.{get_or, replicate}
use borrow.Author.Tests.{eqb-true, eqb-false, ne_eqb, ltb-true}
use Rattle.format.specs.Words.{pick}
use Rattle.format.specs.Book.{Class, channel, histogram, hit_count, sample, bin, last_cell, time_bin, data_frame, monitor_frame, command_frame, text, start_event, continue_event, end_event, frame_end, unassigned, book, or_unassigned, class_of, row_of, class_at, assigned, page_range, Within}
use Rattle.format.specs.Prefix.{find}
use Rattle.format.proofs.book.TableLaws.{class_range}
use Rattle.format.proofs.book.PageLaws.{by_page}
use Rattle.format.proofs.book.Unassigned.{book_paged}
use Rattle.format.proofs.book.BookFigures.{row_stands}
use Rattle.book.specs.Page.{named, low_byte, on_row, on_page, row_at, numbers, book_page}

-- ---- what a row says

-- each class is named
row_below : (c : Class) → ltb (row_of c) named ≡ true
row_below channel = refl
row_below histogram = refl
row_below hit_count = refl
row_below sample = refl
row_below bin = refl
row_below last_cell = refl
row_below time_bin = refl
row_below data_frame = refl
row_below monitor_frame = refl
row_below command_frame = refl
row_below text = refl
row_below start_event = refl
row_below continue_event = refl
row_below end_event = refl
row_below frame_end = refl
row_below unassigned = refl

-- and a row that holds it names the class
pub class_row : (c : Class) (low : ℕ) → on_row (row_of c) low ≡ c
class_row c low = ap (λ (b : Bool). pick b (class_at (row_of c)) (class_of low)) (row_below c) ∙ row_stands c

-- ---- the page of the book

at_number : (f : ℕ → ℕ) (n a k : ℕ) → k < n → get_or (map f (numbers a n)) k 0 ≡ f (a + k)
unfolding numbers
at_number f zero a k h = absurd (not-suc-le-zero h)
at_number f (suc n) a zero h = ap f (sym (add-zero a))
at_number f (suc n) a (suc k) h = at_number f n (suc a) k (le_of_suc-le-suc h) ∙ ap f (suc-add a k ∙ sym (add-suc a k))

-- it has a row for each high byte
pub row_for : (high : ℕ) → high < 256 → get_or book_page high 0 ≡ row_at high
unfolding book_page
row_for high h = at_number row_at 256 0 high h ∙ ap row_at (zero-add high)

row_not_zero : (high : ℕ) → (high ≡ 0 → ⊥) → row_at high ≡ row_of (class_of (256 * high))
row_not_zero high n = ap (λ (b : Bool). pick b low_byte (row_of (class_of (256 * high)))) (ne_eqb _ _ n)

-- the low byte decides in row 00 alone
pub low_byte_alone : (high : ℕ) → high < 256 → (get_or book_page high 0 ≡ low_byte) ↔ (high ≡ 0)
low_byte_alone high h = (λ e. there e (eqb high 0) refl, λ z. row_for high h ∙ ap row_at z)
  where
    there : get_or book_page high 0 ≡ low_byte → (b : Bool) → eqb high 0 ≡ b → high ≡ 0
    there e true t = eqb-true _ _ t
    there e false t =
        let c = class_of (256 * high) in
        let r : row_of c ≡ 255 = sym (row_not_zero high (eqb-false _ _ t)) ∙ sym (row_for high h) ∙ e in
        let l : row_of c < 16 = ltb-true _ _ (row_below c) in
        absurd (omega (arith, r, l))

-- words with one high byte, not 0, are of one class
pub high_alone : (v w : ℕ) → v / 256 ≡ w / 256 → (w / 256 ≡ 0 → ⊥) → class_of v ≡ class_of w
unfolding class_of
high_alone v w e n = ap or_unassigned (by_page book book_paged v w e n)

-- the row is that of the printed range in which a word of its high byte lies
pub as_printed : (w : ℕ) (c : Class) → w < 65536 → assigned c ≡ true → Within w (page_range c) → (w / 256 ≡ 0 → ⊥) → get_or book_page (w / 256) 0 ≡ row_of c
as_printed w c h a r n =
    row_for (w / 256) (omega arith) ∙ row_not_zero (w / 256) n
    ∙ ap row_of (high_alone (256 * (w / 256)) w (omega arith) n ∙ (class_range w c a).1 r)

-- the page in runs, by the printed ranges: from 00 on so many high bytes, and what their rows hold
pub in_runs : book_page ≡ replicate 1 255 ++ replicate 1 11 ++ replicate 2 0 ++ replicate 2 10 ++ replicate 2 9 ++ replicate 2 8 ++ replicate 2 15 ++ replicate 2 0
    ++ replicate 2 7 ++ replicate 8 0 ++ replicate 8 6 ++ replicate 16 5 ++ replicate 16 4 ++ replicate 64 3 ++ replicate 64 2 ++ replicate 64 1
unfolding book_page numbers class_of find
in_runs = refl

-- THE LAW: on the book's page every word has the class that the search finds
pub page_agrees : (w : ℕ) → w < 65536 → on_page book_page w ≡ class_of w
unfolding on_page
page_agrees w h = ap (λ (row : ℕ). on_row row (w % 256)) (row_for (w / 256) (omega arith)) ∙ go (eqb (w / 256) 0) refl
  where
    go : (b : Bool) → eqb (w / 256) 0 ≡ b → on_row (pick b low_byte (row_of (class_of (256 * (w / 256))))) (w % 256) ≡ class_of w
    go true e =
        let z : w / 256 ≡ 0 = eqb-true _ _ e in
        ap class_of (omega (arith, z))
    go false e = class_row _ _ ∙ high_alone _ w (omega arith) (eqb-false _ _ e)

-- as a caller has it, who was handed the page
pub page_tells : (rows : List ℕ) (w : ℕ) → rows ≡ book_page → w < 65536 → on_page rows w ≡ class_of w
page_tells rows w e h = ap (λ (p : List ℕ). on_page p w) e ∙ page_agrees w h
