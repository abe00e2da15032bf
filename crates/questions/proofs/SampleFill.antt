-- The samples of a channel, put in their places.
-- Assumes nothing.
use Prim.Native.Nat.{ℕ, suc, ◌+◌, ◌/◌, ◌%◌, ◌<◌, ◌≤◌}
use mathlib.Core.Path.{◌≡◌, refl, sym, ap, subst, ◌∙◌}
use mathlib.Core.List.{List, ◌∷◌}
use native.Mathlib.Numerals.{add-one}
use native.Mathlib.Omega.{arith}
use lib.Dec.{lit<}
use lib.ListN.{length, set, length-set}
use Rattle.format.specs.Words.{word_at}
use Rattle.format.specs.Book.{sample, time_bin}
use Rattle.format.specs.Items.{Item, Channel, Histogram, HitCount, Sample, Bin, LastCell, TimeBin, Text, StartEvent, ContinueEvent, EndEvent}
use Rattle.format.specs.Frames.{Sound, last_of}
use Rattle.format.specs.Cursor.{items_from, On}
use Rattle.format.specs.Questions.{fill_samples}
use Rattle.format.proofs.book.BookLaws.{ranged, in_range}
use Rattle.format.proofs.questions.MarkLaws.{Rise}
use Rattle.format.proofs.questions.FillLaws.{sample_marks, samples_rise}
use Rattle.format.proofs.reader.CursorLaws.{Turn, turn, sample_turn, time_turn, run_out, on_sound}
use Rattle.questions.specs.Sought.{Headed}

pub record Sampling (s : List ℕ) (from : ℕ) (l₀ : List ℕ) (at t : ℕ) (l : List ℕ) : Type 0 where
  pub on : On s at
  -- "none after 511"
  pub least : ℕ
  pub rise : Rise least 512 0xFFFF (sample_marks t (items_from s at))
  pub long : length l ≡ length l₀
  pub still : fill_samples t (items_from s at) l ≡ fill_samples 0 (items_from s from) l₀

pub sampling_start : (s : List ℕ) (from : ℕ) (l : List ℕ) → Headed s from → Sampling s from l from 0 l
sampling_start s from l h =
    let g : On s from = h.on in
    record {
      on = g;
      least = 0;
      rise =
          samples_rise g.frame.kind g.frame.card h.before (items_from s from) h.card h.chip h.channel
          (subst (λ (p : List Item). Sound g.frame.kind g.frame.card p (items_from s from)) h.header (on_sound s from g));
      long = refl;
      still = refl;
    }

rise_sample : (lo t v : ℕ) (xs : List Item) → Rise lo 512 0xFFFF (sample_marks t (Sample v ∷ xs)) → (t < 512) × Rise (suc t) 512 0xFFFF (sample_marks (suc t) xs)
unfolding Rise sample_marks
rise_sample lo t v xs r = (r.1, r.3)

rise_time : (lo t u : ℕ) (xs : List Item) → Rise lo 512 0xFFFF (sample_marks t (TimeBin u ∷ xs)) → Rise lo 512 0xFFFF (sample_marks u xs)
unfolding sample_marks
rise_time lo t u xs r = r

fill_sample : (t v : ℕ) (xs : List Item) (l : List ℕ) → fill_samples t (Sample v ∷ xs) l ≡ fill_samples (suc t) xs (set l t v)
unfolding fill_samples
fill_sample t v xs l = refl

fill_time : (t u : ℕ) (xs : List Item) (l : List ℕ) → fill_samples t (TimeBin u ∷ xs) l ≡ fill_samples u xs l
unfolding fill_samples
fill_time t u xs l = refl

module _ (s : List ℕ) (from : ℕ) (l₀ : List ℕ) (at t : ℕ) (l : List ℕ) (k : Sampling s from l₀ at t l) where
  module _ (h : at < last_of s) (w : ℕ) (i : w ≡ word_at s at) where
    -- at a Sample
    module _ (a : w / 4096 ≡ 3) where
      sample_here : Turn s at k.on (Sample (word_at s at % 4096)) (at + 1)
      sample_here = sample_turn s at k.on h (sym (in_range (word_at s at) 3 (lit< tt) (omega arith, omega arith)))

      risen : (t < 512) × Rise (suc t) 512 0xFFFF (sample_marks (suc t) (items_from s (at + 1)))
      risen = rise_sample k.least t _ _ (subst (λ (xs : List Item). Rise k.least 512 0xFFFF (sample_marks t xs)) sample_here.split k.rise)

      pub sample_room : t < 512
      sample_room = risen.0

      pub sampling_sample : (v : ℕ) → v ≡ w % 4096 → Sampling s from l₀ (at + 1) (t + 1) (set l t v)
      sampling_sample v f =
          let e : v ≡ word_at s at % 4096 = f ∙ ap (λ (w : ℕ). w % 4096) i in
          subst (λ (u : ℕ). Sampling s from l₀ (at + 1) u (set l t v)) (sym (add-one t))
          (record {
            on = sample_here.next;
            least = suc t;
            rise = risen.1;
            long = length-set l t v ∙ k.long;
            still =
                ap (λ (v : ℕ). fill_samples (suc t) (items_from s (at + 1)) (set l t v)) e
                ∙ sym (ap (λ (xs : List Item). fill_samples t xs l) sample_here.split ∙ fill_sample t _ _ l) ∙ k.still;
          })

    -- at a Time bin
    pub sampling_time : w / 512 ≡ 7 → (u : ℕ) → u ≡ w % 512 → Sampling s from l₀ (at + 1) u l
    sampling_time a u f =
        let t' = time_turn s at k.on h (sym (in_range (word_at s at) 6 (lit< tt) (omega arith, omega arith))) in
        let e : word_at s at % 512 ≡ u = ap (λ (w : ℕ). w % 512) (sym i) ∙ sym f in
        subst (λ (u : ℕ). Sampling s from l₀ (at + 1) u l) e
        (record {
          on = t'.next;
          least = k.least;
          rise = rise_time k.least t _ _ (subst (λ (xs : List Item). Rise k.least 512 0xFFFF (sample_marks t xs)) t'.split k.rise);
          long = k.long;
          still = sym (ap (λ (xs : List Item). fill_samples t xs l) t'.split ∙ fill_time t _ _ l) ∙ k.still;
        })

    -- at an item that is neither
    pub sampling_other : (w / 4096 ≡ 3 → ⊥) → (w / 512 ≡ 7 → ⊥) → l ≡ fill_samples 0 (items_from s from) l₀
    unfolding fill_samples
    sampling_other a b = let (x, y) = turn s at k.on h in sym (ap (λ (xs : List Item). fill_samples t xs l) y.split ∙ go x _ y) ∙ k.still
      where
        go : (x : Item) (n : ℕ) → Turn s at k.on x n → fill_samples t (x ∷ items_from s n) l ≡ l
        go (Channel d e f) n y = refl
        go (Histogram d e f) n y = refl
        go (HitCount d e f) n y = refl
        go (Sample v) n y = let (p, q) = ranged (word_at s at) sample (sym y.class) refl in absurd (a (omega arith))
        go (Bin d e) n y = refl
        go (LastCell d e) n y = refl
        go (TimeBin u) n y = let (p, q) = ranged (word_at s at) time_bin (sym y.class) refl in absurd (b (omega arith))
        go (Text d) n y = refl
        go (StartEvent d e f) n y = refl
        go (ContinueEvent d) n y = refl
        go (EndEvent d) n y = refl

  pub sampling_end : last_of s ≤ at → l ≡ fill_samples 0 (items_from s from) l₀
  unfolding fill_samples
  sampling_end h = sym (ap (λ (xs : List Item). fill_samples t xs l) (run_out s at k.on h).0) ∙ k.still
