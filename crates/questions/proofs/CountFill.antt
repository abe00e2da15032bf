-- The counts of a histogram, put in their places.
-- Assumes nothing.
use Prim.Native.Nat.{ℕ, ◌+◌, ◌/◌, ◌%◌, ◌<◌, ◌≤◌}
use mathlib.Core.Path.{◌≡◌, refl, sym, ap, ap₂, ◌∙◌}
use mathlib.Core.List.{List, ◌∷◌}
use native.Mathlib.Omega.{arith}
use lib.Dec.{lit<}
use lib.ListN.{length, set, length-set}
use Rattle.format.specs.Words.{word_at, long_at}
use Rattle.format.specs.Book.{bin}
use Rattle.format.specs.Items.{Item, Channel, Histogram, HitCount, Sample, Bin, LastCell, TimeBin, Text, StartEvent, ContinueEvent, EndEvent}
use Rattle.format.specs.Frames.{last_of}
use Rattle.format.specs.Cursor.{items_from, On}
use Rattle.format.specs.Questions.{fill_counts}
use Rattle.format.proofs.book.BookLaws.{ranged, in_range}
use Rattle.format.proofs.reader.CursorLaws.{Turn, turn, bin_turn, run_out}

pub record Counting (s : List ℕ) (from : ℕ) (l₀ : List ℕ) (at : ℕ) (l : List ℕ) : Type 0 where
  pub on : On s at
  pub long : length l ≡ length l₀
  pub still : fill_counts (items_from s at) l ≡ fill_counts (items_from s from) l₀

pub counting_start : (s : List ℕ) (from : ℕ) (l : List ℕ) → On s from → Counting s from l from l
counting_start s from l g = record { on = g; long = refl; still = refl }

fill_bin : (b n : ℕ) (xs : List Item) (l : List ℕ) → fill_counts (Bin b n ∷ xs) l ≡ fill_counts xs (set l b n)
unfolding fill_counts
fill_bin b n xs l = refl

module _ (s : List ℕ) (from : ℕ) (l₀ : List ℕ) (at : ℕ) (l : List ℕ) (k : Counting s from l₀ at l) where
  module _ (h : at < last_of s) (w : ℕ) (i : w ≡ word_at s at) where
    module _ (a : w / 4096 ≡ 2) where
      bin_here : Turn s at k.on (Bin (word_at s at % 4096) (long_at s (at + 1))) (at + 3)
      bin_here = bin_turn s at k.on h (sym (in_range (word_at s at) 4 (lit< tt) (omega arith, omega arith)))

      pub bin_room : at + 3 ≤ last_of s
      bin_room = bin_here.within

      pub counting_bin : (b n : ℕ) → b ≡ w % 4096 → n ≡ long_at s (at + 1) → Counting s from l₀ (at + 3) (set l b n)
      counting_bin b n e f = record {
        on = bin_here.next;
        long = length-set l b n ∙ k.long;
        still =
            ap₂ (λ (b n : ℕ). fill_counts (items_from s (at + 3)) (set l b n)) (e ∙ ap (λ (w : ℕ). w % 4096) i) f
            ∙ sym (ap (λ (xs : List Item). fill_counts xs l) bin_here.split ∙ fill_bin _ _ _ l) ∙ k.still;
      }

    -- at an item that is no Bin
    pub counting_other : (w / 4096 ≡ 2 → ⊥) → l ≡ fill_counts (items_from s from) l₀
    unfolding fill_counts
    counting_other a = let (x, y) = turn s at k.on h in sym (ap (λ (xs : List Item). fill_counts xs l) y.split ∙ go x _ y) ∙ k.still
      where
        go : (x : Item) (n : ℕ) → Turn s at k.on x n → fill_counts (x ∷ items_from s n) l ≡ l
        go (Channel d e f) n y = refl
        go (Histogram d e f) n y = refl
        go (HitCount d e f) n y = refl
        go (Sample v) n y = refl
        go (Bin d e) n y = let (p, q) = ranged (word_at s at) bin (sym y.class) refl in absurd (a (omega arith))
        go (LastCell d e) n y = refl
        go (TimeBin u) n y = refl
        go (Text d) n y = refl
        go (StartEvent d e f) n y = refl
        go (ContinueEvent d) n y = refl
        go (EndEvent d) n y = refl

  pub counting_end : last_of s ≤ at → l ≡ fill_counts (items_from s from) l₀
  unfolding fill_counts
  counting_end h = sym (ap (λ (xs : List Item). fill_counts xs l) (run_out s at k.on h).0) ∙ k.still
