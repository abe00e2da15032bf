-- T1 and T2 as a reader asks: what the search answers, as one equivalence for any table; and of the house book, each class by its name.
-- Assumes nothing.
use Prim.Native.Nat.{ℕ}
use mathlib.Core.Path.{◌≡◌, refl, sym, ap, ◌∙◌}
use mathlib.Core.Logic.{◌↔◌}
use mathlib.Core.Bool.{Bool, true, false, true≢false}
use mathlib.Core.Option.{Option, none, some}
use mathlib.Core.List.{List}
use native.Mathlib.Omega.{arith}
use lib.Dec.{lit<}
use Rattle.format.specs.Prefix.{Row, find, prefix_free, Matched}
use Rattle.format.specs.Book.{Class, channel, histogram, hit_count, sample, bin, last_cell, time_bin, data_frame, monitor_frame, command_frame, text, start_event, continue_event, end_event, frame_end, unassigned, class_of, assigned, page_range, Within}
use Rattle.format.proofs.book.PrefixLaws.{Searched, hit, miss, searched, found}
use Rattle.format.proofs.book.BookLaws.{ranged, in_range}

module _ {A : Type 0} where
  same_class : (c d : A) → some c ≡ some d → c ≡ d
  same_class c d e = cc

  no_class : (c : A) → ◌≡◌ {A = Option A} none (some c) → ⊥
  no_class c e = let z : ◌≡◌ {A = ℕ} 0 1 = cc in omega arith

  -- the search answers c exactly where a row that matches is of class c
  pub answers : (t : List (Row A)) → prefix_free t ≡ true → (w : ℕ) (c : A) → (find t w ≡ some c) ↔ Matched t w c
  answers t free w c = (λ e. there e (searched t w), back)
    where
      there : find t w ≡ some c → Searched t w → Matched t w c
      there e (hit r m h i) = record { row = r; member = m; fits = h; class = same_class r.class c (sym i ∙ e) }
      there e (miss n i) = absurd (no_class c (sym i ∙ e))

      back : Matched t w c → find t w ≡ some c
      back m = found t free w m.row m.member m.fits ∙ ap some m.class

-- every word of a printed range is of its class
in_printed : (w : ℕ) (c : Class) → assigned c ≡ true → Within w (page_range c) → class_of w ≡ c
in_printed w channel a h = in_range w 0 (lit< tt) h
in_printed w histogram a h = in_range w 1 (lit< tt) h
in_printed w hit_count a h = in_range w 2 (lit< tt) h
in_printed w sample a h = in_range w 3 (lit< tt) h
in_printed w bin a h = in_range w 4 (lit< tt) h
in_printed w last_cell a h = in_range w 5 (lit< tt) h
in_printed w time_bin a h = in_range w 6 (lit< tt) h
in_printed w data_frame a h = in_range w 7 (lit< tt) h
in_printed w monitor_frame a h = in_range w 8 (lit< tt) h
in_printed w command_frame a h = in_range w 9 (lit< tt) h
in_printed w text a h = in_range w 10 (lit< tt) h
in_printed w start_event a h = in_range w 11 (lit< tt) h
in_printed w continue_event a h = in_range w 14 (lit< tt) h
in_printed w end_event a h = in_range w 12 (lit< tt) h
in_printed w frame_end a h = in_range w 13 (lit< tt) h
in_printed w unassigned a h = absurd (true≢false (sym a))

-- of each class exactly the words of its printed range
pub class_range : (w : ℕ) (c : Class) → assigned c ≡ true → (class_of w ≡ c) ↔ Within w (page_range c)
class_range w c a = (λ e. ranged w c e a, in_printed w c a)

-- and a word is unassigned exactly where it is in none of them
pub class_none : (w : ℕ) → (class_of w ≡ unassigned) ↔ ((c : Class) → assigned c ≡ true → Within w (page_range c) → ⊥)
class_none w = (λ e c a h. true≢false (sym a ∙ ap assigned (sym (in_printed w c a h) ∙ e)), λ n. go n (assigned (class_of w)) refl)
  where
    only : (c : Class) → assigned c ≡ false → c ≡ unassigned
    only channel a = absurd (true≢false a)
    only histogram a = absurd (true≢false a)
    only hit_count a = absurd (true≢false a)
    only sample a = absurd (true≢false a)
    only bin a = absurd (true≢false a)
    only last_cell a = absurd (true≢false a)
    only time_bin a = absurd (true≢false a)
    only data_frame a = absurd (true≢false a)
    only monitor_frame a = absurd (true≢false a)
    only command_frame a = absurd (true≢false a)
    only text a = absurd (true≢false a)
    only start_event a = absurd (true≢false a)
    only continue_event a = absurd (true≢false a)
    only end_event a = absurd (true≢false a)
    only frame_end a = absurd (true≢false a)
    only unassigned a = refl

    go : ((c : Class) → assigned c ≡ true → Within w (page_range c) → ⊥) → (b : Bool) → assigned (class_of w) ≡ b → class_of w ≡ unassigned
    go n true e = absurd (n (class_of w) e (ranged w (class_of w) refl e))
    go n false e = only (class_of w) e
