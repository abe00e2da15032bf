-- The search for the word of a sample among those behind a header, and for the word of a bin.
-- Assumes nothing.
use Prim.Native.Nat.{ℕ, suc, ◌+◌, ◌/◌, ◌%◌, ◌<◌, ◌≤◌}
use mathlib.Core.Path.{◌≡◌, refl, sym, ap, subst, ◌∙◌}
use mathlib.Core.List.{List, ◌∷◌}
use mathlib.Core.Option.{none, some}
use native.Mathlib.Numerals.{add-one}
use native.Mathlib.Omega.{arith}
use lib.Dec.{lit<}
use borrow.Author.Tests.{eq-eqb, ne_eqb}
use Rattle.format.specs.Words.{word_at, long_at}
use Rattle.format.specs.Book.{sample, time_bin, bin}
use Rattle.format.specs.Items.{Item, Channel, Histogram, HitCount, Sample, Bin, LastCell, TimeBin, Text, StartEvent, ContinueEvent, EndEvent}
use Rattle.format.specs.Frames.{last_of}
use Rattle.format.specs.Cursor.{items_from, On}
use Rattle.format.specs.Questions.{sample_word, bin_word}
use Rattle.format.proofs.book.BookLaws.{ranged, in_range}
use Rattle.format.proofs.reader.CursorLaws.{Turn, turn, sample_turn, time_turn, bin_turn, run_out}

-- ---- one item further

sample_hit : (t u at v : ℕ) (xs : List Item) → u ≡ t → sample_word t u at (Sample v ∷ xs) ≡ some at
unfolding sample_word
sample_hit t u at v xs e = rw (eq-eqb u t e)

sample_miss : (t u at v : ℕ) (xs : List Item) → (u ≡ t → ⊥) → sample_word t u at (Sample v ∷ xs) ≡ sample_word t (suc u) (at + 1) xs
unfolding sample_word
sample_miss t u at v xs d = rw (ne_eqb u t d)

sample_time : (t u at w : ℕ) (xs : List Item) → sample_word t u at (TimeBin w ∷ xs) ≡ sample_word t w (at + 1) xs
unfolding sample_word
sample_time t u at w xs = refl

bin_hit : (b at d n : ℕ) (xs : List Item) → d ≡ b → bin_word b at (Bin d n ∷ xs) ≡ some at
unfolding bin_word
bin_hit b at d n xs e = rw (eq-eqb d b e)

bin_miss : (b at d n : ℕ) (xs : List Item) → (d ≡ b → ⊥) → bin_word b at (Bin d n ∷ xs) ≡ bin_word b (at + 3) xs
unfolding bin_word
bin_miss b at d n xs f = rw (ne_eqb d b f)

-- ---- a sample

pub record SampleSeeking (s : List ℕ) (from t at u : ℕ) : Type 0 where
  pub on : On s at
  -- a Time bin's time has nine bits, and each Sample has a word
  pub early : u ≤ at + 511
  pub still : sample_word t u at (items_from s at) ≡ sample_word t 0 from (items_from s from)

pub sample_start : (s : List ℕ) (from t : ℕ) → On s from → SampleSeeking s from t from 0
sample_start s from t g = record { on = g; early = omega arith; still = refl }

module _ (s : List ℕ) (from t at u : ℕ) (k : SampleSeeking s from t at u) where
  module _ (h : at < last_of s) (w : ℕ) (i : w ≡ word_at s at) where
    -- at a Sample
    module _ (a : w / 4096 ≡ 3) where
      sample_here : Turn s at k.on (Sample (word_at s at % 4096)) (at + 1)
      sample_here = sample_turn s at k.on h (sym (in_range (word_at s at) 3 (lit< tt) (omega arith, omega arith)))

      pub sample_found : u ≡ t → some at ≡ sample_word t 0 from (items_from s from)
      sample_found e = sym (ap (sample_word t u at) sample_here.split ∙ sample_hit t u at _ _ e) ∙ k.still

      pub sample_next : (u ≡ t → ⊥) → SampleSeeking s from t (at + 1) (u + 1)
      sample_next d =
          let l = k.early in
          subst (λ (u : ℕ). SampleSeeking s from t (at + 1) u) (sym (add-one u))
          (record {
            on = sample_here.next;
            early = omega arith;
            still = sym (ap (sample_word t u at) sample_here.split ∙ sample_miss t u at _ _ d) ∙ k.still;
          })

    -- at a Time bin
    pub sample_later : w / 512 ≡ 7 → (n : ℕ) → n ≡ w % 512 → SampleSeeking s from t (at + 1) n
    sample_later a n f =
        let t' = time_turn s at k.on h (sym (in_range (word_at s at) 6 (lit< tt) (omega arith, omega arith))) in
        let e : word_at s at % 512 ≡ n = ap (λ (w : ℕ). w % 512) (sym i) ∙ sym f in
        subst (λ (n : ℕ). SampleSeeking s from t (at + 1) n) e
        (record {
          on = t'.next;
          early = omega arith;
          still = sym (ap (sample_word t u at) t'.split ∙ sample_time t u at _ _) ∙ k.still;
        })

    -- at an item that is neither
    pub sample_other : (w / 4096 ≡ 3 → ⊥) → (w / 512 ≡ 7 → ⊥) → none ≡ sample_word t 0 from (items_from s from)
    unfolding sample_word
    sample_other a b = let (x, y) = turn s at k.on h in sym (ap (sample_word t u at) y.split ∙ go x _ y) ∙ k.still
      where
        go : (x : Item) (n : ℕ) → Turn s at k.on x n → sample_word t u at (x ∷ items_from s n) ≡ none
        go (Channel d e f) n y = refl
        go (Histogram d e f) n y = refl
        go (HitCount d e f) n y = refl
        go (Sample v) n y = let (p, q) = ranged (word_at s at) sample (sym y.class) refl in absurd (a (omega arith))
        go (Bin d e) n y = refl
        go (LastCell d e) n y = refl
        go (TimeBin v) n y = let (p, q) = ranged (word_at s at) time_bin (sym y.class) refl in absurd (b (omega arith))
        go (Text d) n y = refl
        go (StartEvent d e f) n y = refl
        go (ContinueEvent d) n y = refl
        go (EndEvent d) n y = refl

  pub sample_end : last_of s ≤ at → none ≡ sample_word t 0 from (items_from s from)
  unfolding sample_word
  sample_end h = sym (ap (sample_word t u at) (run_out s at k.on h).0) ∙ k.still

-- ---- a bin

pub record BinSeeking (s : List ℕ) (from b at : ℕ) : Type 0 where
  pub on : On s at
  pub still : bin_word b at (items_from s at) ≡ bin_word b from (items_from s from)

pub bin_start : (s : List ℕ) (from b : ℕ) → On s from → BinSeeking s from b from
bin_start s from b g = record { on = g; still = refl }

module _ (s : List ℕ) (from b at : ℕ) (k : BinSeeking s from b at) where
  module _ (h : at < last_of s) (w : ℕ) (i : w ≡ word_at s at) where
    module _ (a : w / 4096 ≡ 2) where
      bin_here : Turn s at k.on (Bin (word_at s at % 4096) (long_at s (at + 1))) (at + 3)
      bin_here = bin_turn s at k.on h (sym (in_range (word_at s at) 4 (lit< tt) (omega arith, omega arith)))

      pub bin_room : at + 3 ≤ last_of s
      bin_room = bin_here.within

      module _ (n : ℕ) (e : n ≡ w % 4096) where
        number_is : word_at s at % 4096 ≡ n
        number_is = ap (λ (w : ℕ). w % 4096) (sym i) ∙ sym e

        pub bin_found : n ≡ b → some at ≡ bin_word b from (items_from s from)
        bin_found f = sym (ap (bin_word b at) bin_here.split ∙ bin_hit b at _ _ _ (number_is ∙ f)) ∙ k.still

        pub bin_next : (n ≡ b → ⊥) → BinSeeking s from b (at + 3)
        bin_next d = record {
          on = bin_here.next;
          still = sym (ap (bin_word b at) bin_here.split ∙ bin_miss b at _ _ _ (λ f. d (sym number_is ∙ f))) ∙ k.still;
        }

    -- at an item that is no Bin
    pub bin_other : (w / 4096 ≡ 2 → ⊥) → none ≡ bin_word b from (items_from s from)
    unfolding bin_word
    bin_other a = let (x, y) = turn s at k.on h in sym (ap (bin_word b at) y.split ∙ go x _ y) ∙ k.still
      where
        go : (x : Item) (n : ℕ) → Turn s at k.on x n → bin_word b at (x ∷ items_from s n) ≡ none
        go (Channel d e f) n y = refl
        go (Histogram d e f) n y = refl
        go (HitCount d e f) n y = refl
        go (Sample v) n y = refl
        go (Bin d e) n y = let (p, q) = ranged (word_at s at) bin (sym y.class) refl in absurd (a (omega arith))
        go (LastCell d e) n y = refl
        go (TimeBin v) n y = refl
        go (Text d) n y = refl
        go (StartEvent d e f) n y = refl
        go (ContinueEvent d) n y = refl
        go (EndEvent d) n y = refl

  pub bin_end : last_of s ≤ at → none ≡ bin_word b from (items_from s from)
  unfolding bin_word
  bin_end h = sym (ap (bin_word b at) (run_out s at k.on h).0) ∙ k.still
