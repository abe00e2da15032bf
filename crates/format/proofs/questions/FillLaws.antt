-- What the samples and counts questions fill: the Samples of a channel and the Bins of a histogram, each a mark at its time or number. In a
-- sound list these rise, so that no two have one place.
-- Assumes nothing.
use Prim.Native.Nat.{ℕ, suc, ◌+◌, ◌<◌, ◌≤◌}
use mathlib.Core.Path.{◌≡◌, refl, sym, ap, ◌∙◌}
use mathlib.Core.List.{List, [], ◌∷◌}
use mathlib.Core.Bool.{Bool, true, false, ◌||◌, true≢false}
use native.Mathlib.Omega.{arith}
use lib.Dec.{ltb}
use lib.ListN.{set}
use borrow.Author.Tests.{leb-true, le-leb, ltb-true}
use Rattle.format.specs.Words.{pick}
use Rattle.format.specs.Book.{Class, channel, histogram, sample, bin, time_bin, text, start_event, continue_event}
use Rattle.format.specs.Items.{Item, Channel, Histogram, HitCount, Sample, Bin, LastCell, TimeBin, Text, StartEvent, ContinueEvent, EndEvent}
use Rattle.format.specs.Rules.{Kind, data_kind, monitor_kind, command_kind, same, since, before, count, has, latest, gather, bin_number, above, time, last_time, inside_after, between_events, allowed, among, place, in_event}
use Rattle.format.specs.Frames.{Allowed, Sound}
use Rattle.format.specs.Questions.{fill_samples, fill_counts}
use Rattle.format.proofs.rules.LimitLaws.{allowed_limits}
use Rattle.format.proofs.book.PrefixLaws.{and_left}
use Rattle.format.proofs.rules.SoundLaws.{monitor_place}
use Rattle.format.proofs.questions.MarkLaws.{Mark, set_all, Rise, rise_lower}

-- ---- the marks

-- of the Samples that come first, the next one at time u
unfoldable pub sample_marks : ℕ → List Item → List Mark
sample_marks u [] = []
sample_marks u (Channel a b c ∷ xs) = []
sample_marks u (Histogram a b c ∷ xs) = []
sample_marks u (HitCount a b c ∷ xs) = []
sample_marks u (Sample v ∷ xs) = (u, v) ∷ sample_marks (suc u) xs
sample_marks u (Bin b n ∷ xs) = []
sample_marks u (LastCell a b ∷ xs) = []
sample_marks u (TimeBin t ∷ xs) = sample_marks t xs
sample_marks u (Text s ∷ xs) = []
sample_marks u (StartEvent k ts n ∷ xs) = []
sample_marks u (ContinueEvent n ∷ xs) = []
sample_marks u (EndEvent n ∷ xs) = []

pub samples_filled : (u : ℕ) (xs : List Item) (l : List ℕ) → fill_samples u xs l ≡ set_all (sample_marks u xs) l
unfolding fill_samples sample_marks set_all
samples_filled u [] l = refl
samples_filled u (Channel a b c ∷ xs) l = refl
samples_filled u (Histogram a b c ∷ xs) l = refl
samples_filled u (HitCount a b c ∷ xs) l = refl
samples_filled u (Sample v ∷ xs) l = samples_filled (suc u) xs (set l u v)
samples_filled u (Bin b n ∷ xs) l = refl
samples_filled u (LastCell a b ∷ xs) l = refl
samples_filled u (TimeBin t ∷ xs) l = samples_filled t xs l
samples_filled u (Text s ∷ xs) l = refl
samples_filled u (StartEvent k ts n ∷ xs) l = refl
samples_filled u (ContinueEvent n ∷ xs) l = refl
samples_filled u (EndEvent n ∷ xs) l = refl

-- of the Bins that come first
unfoldable pub bin_marks : List Item → List Mark
bin_marks [] = []
bin_marks (Channel a b c ∷ xs) = []
bin_marks (Histogram a b c ∷ xs) = []
bin_marks (HitCount a b c ∷ xs) = []
bin_marks (Sample v ∷ xs) = []
bin_marks (Bin b n ∷ xs) = (b, n) ∷ bin_marks xs
bin_marks (LastCell a b ∷ xs) = []
bin_marks (TimeBin t ∷ xs) = []
bin_marks (Text s ∷ xs) = []
bin_marks (StartEvent k ts n ∷ xs) = []
bin_marks (ContinueEvent n ∷ xs) = []
bin_marks (EndEvent n ∷ xs) = []

pub counts_filled : (xs : List Item) (l : List ℕ) → fill_counts xs l ≡ set_all (bin_marks xs) l
unfolding fill_counts bin_marks set_all
counts_filled [] l = refl
counts_filled (Channel a b c ∷ xs) l = refl
counts_filled (Histogram a b c ∷ xs) l = refl
counts_filled (HitCount a b c ∷ xs) l = refl
counts_filled (Sample v ∷ xs) l = refl
counts_filled (Bin b n ∷ xs) l = counts_filled xs (set l b n)
counts_filled (LastCell a b ∷ xs) l = refl
counts_filled (TimeBin t ∷ xs) l = refl
counts_filled (Text s ∷ xs) l = refl
counts_filled (StartEvent k ts n ∷ xs) l = refl
counts_filled (ContinueEvent n ∷ xs) l = refl
counts_filled (EndEvent n ∷ xs) l = refl

-- ---- they rise

-- a class that has no place behind another, in any kind of frame
pub no_place : (kind : Kind) (p : List Item) (c d : Class) → latest p ≡ c
    → among d (allowed (inside_after c)) ≡ false → among d (start_event ∷ continue_event ∷ []) ≡ false → same d histogram || same d bin ≡ false → among d (text ∷ []) ≡ false
    → place kind p d ≡ true → ⊥
no_place data_kind p c d e f g h t i = go (in_event p) p i
  where
    first : (a b : Bool) → a || (b || false) ≡ false → a || false ≡ false
    first false b i = refl
    first true b i = i

    go : (b : Bool) (q : List Item) → among d (allowed (pick b (inside_after (latest p)) (between_events q))) ≡ true → ⊥
    go true q j = true≢false (sym j ∙ ap (λ (c : Class). among d (allowed (inside_after c))) e ∙ f)
    go false [] j = true≢false (sym j ∙ g)
    go false (x ∷ q) j = true≢false (sym j ∙ first (same d start_event) (same d continue_event) g)
no_place monitor_kind p c d e f g h t i = true≢false (sym (monitor_place p d i) ∙ h)
no_place command_kind p c d e f g h t i = true≢false (sym i ∙ t)

-- where a channel's next Sample is at time u
data Clock (p : List Item) (u : ℕ) : Type 0 where
  at_header : latest p ≡ channel → u ≡ 0 → Clock p u
  at_time : latest p ≡ time_bin → u ≡ time p → Clock p u
  at_sample : latest p ≡ sample → has sample (since channel p) ≡ true → u ≡ time p → u ≡ last_time p + 1 → Clock p u

tick : (p : List Item) (v u : ℕ) → u ≡ time p → Clock (Sample v ∷ p) (suc u)
unfolding gather count since before
tick p v u e = at_sample refl (le-leb 1 (1 + count sample (since channel p)) (omega arith)) (omega arith) (omega arith)

begin : (p : List Item) (t : ℕ) → Clock (TimeBin t ∷ p) t
unfolding gather count since
begin p t = at_time refl (omega arith)

blank_sample : (v : ℕ) → v ≤ 4095 → v ≡ 0xFFFF → ⊥
blank_sample v h e = omega arith

module _ (kind : Kind) (card : ℕ) where
  -- a Sample is at the time that the clock shows, and the clock is at most 511 then
  at_clock : (p : List Item) (v u : ℕ) → Clock p u → Allowed kind card p (Sample v) → (u ≡ time p) × (u < 512) × (v ≡ 0xFFFF → ⊥)
  at_clock p v u k a =
      let e = clock k in
      let o : time p ≤ 511 = leb-true (time p) 511 a.ordered in
      (e, omega arith, blank_sample v (allowed_limits kind card p (Sample v) a))
    where
      clock : Clock p u → u ≡ time p
      clock (at_header l z) = absurd (no_place kind p channel sample l refl refl refl refl a.placed)
      clock (at_time l e) = e
      clock (at_sample l h e f) = e

  -- a Time bin is not before the clock
  not_before : (p : List Item) (t u : ℕ) → Clock p u → Allowed kind card p (TimeBin t) → u ≤ t
  not_before p t u (at_header l z) a = omega arith
  not_before p t u (at_time l e) a = absurd (no_place kind p time_bin time_bin l refl refl refl refl a.placed)
  not_before p t u (at_sample l h e f) a = omega (arith, leb-true _ t (rw h at a.ordered))

  -- "each further sample one later, none after 511. A later Time bin in a channel is at least 2 above the last sample's time"
  times_rise : (xs p : List Item) (u : ℕ) → Clock p u → Sound kind card p xs → Rise u 512 0xFFFF (sample_marks u xs)
  unfolding Sound sample_marks Rise
  times_rise [] p u k s = tt
  times_rise (Channel a b c ∷ xs) p u k s = tt
  times_rise (Histogram a b c ∷ xs) p u k s = tt
  times_rise (HitCount a b c ∷ xs) p u k s = tt
  times_rise (Sample v ∷ xs) p u k s =
      let (e, l, n) = at_clock p v u k s.0 in
      (omega arith, l, n, times_rise xs (Sample v ∷ p) (suc u) (tick p v u e) s.1)
  times_rise (Bin b n ∷ xs) p u k s = tt
  times_rise (LastCell a b ∷ xs) p u k s = tt
  times_rise (TimeBin t ∷ xs) p u k s =
      rise_lower t u 512 0xFFFF (sample_marks t xs) (not_before p t u k s.0) (times_rise xs (TimeBin t ∷ p) t (begin p t) s.1)
  times_rise (Text t ∷ xs) p u k s = tt
  times_rise (StartEvent t ts n ∷ xs) p u k s = tt
  times_rise (ContinueEvent n ∷ xs) p u k s = tt
  times_rise (EndEvent n ∷ xs) p u k s = tt

  pub samples_rise : (p xs : List Item) (a b c : ℕ) → Sound kind card (Channel a b c ∷ p) xs → Rise 0 512 0xFFFF (sample_marks 0 xs)
  samples_rise p xs a b c s = times_rise xs (Channel a b c ∷ p) 0 (at_header refl refl) s

  -- ".. and bin numbers in a histogram": those behind p are lo at least
  bins_from : (xs p : List Item) (lo : ℕ) → ((b : ℕ) → above b (gather bin_number (since histogram p)) ≡ true → lo ≤ b)
      → Sound kind card p xs → Rise lo 4096 0 (bin_marks xs)
  unfolding Sound bin_marks Rise gather since above
  bins_from [] p lo h s = tt
  bins_from (Channel a b c ∷ xs) p lo h s = tt
  bins_from (Histogram a b c ∷ xs) p lo h s = tt
  bins_from (HitCount a b c ∷ xs) p lo h s = tt
  bins_from (Sample v ∷ xs) p lo h s = tt
  bins_from (Bin b n ∷ xs) p lo h s =
      let (l, m, _) = allowed_limits kind card p (Bin b n) s.0 in (
        h b s.0.ordered,
        omega arith,
        λ z. omega arith,
        bins_from xs (Bin b n ∷ p) (suc b) (λ d e. ltb-true b d (and_left (ltb b d) (above d (gather bin_number (since histogram p))) e)) s.1,
      )
  bins_from (LastCell a b ∷ xs) p lo h s = tt
  bins_from (TimeBin t ∷ xs) p lo h s = tt
  bins_from (Text t ∷ xs) p lo h s = tt
  bins_from (StartEvent t ts n ∷ xs) p lo h s = tt
  bins_from (ContinueEvent n ∷ xs) p lo h s = tt
  bins_from (EndEvent n ∷ xs) p lo h s = tt

  pub bins_rise : (p xs : List Item) → Sound kind card p xs → Rise 0 4096 0 (bin_marks xs)
  bins_rise p xs s = bins_from xs p 0 (λ b e. omega arith) s
