-- A Sample stands at a time of a channel, and a Bin in a histogram, exactly where its mark is.
-- Assumes nothing.
use Prim.Native.Nat.{ℕ, zero, suc, ◌+◌}
use mathlib.Core.Path.{◌≡◌, refl, sym, ap, ap₂, subst, ◌∙◌}
use mathlib.Core.List.{List, [], ◌∷◌, ◌++◌}
use mathlib.Core.Logic.{◌⊎◌, inl, inr}
use mathlib.Core.Bool.{true, false, true≢false}
use mathlib.Core.Option.{some}
use native.Mathlib.Omega.{arith}
use lib.ListN.{length}
use Rattle.format.specs.Book.{channel, sample, bin, time_bin}
use Rattle.format.specs.Items.{Item, Channel, Histogram, HitCount, Sample, Bin, LastCell, TimeBin, Text, StartEvent, ContinueEvent, EndEvent, class_for}
use Rattle.format.specs.Rules.{Kind, count, among}
use Rattle.format.specs.Frames.{Sound}
use Rattle.format.specs.Questions.{pick_nth}
use Rattle.format.specs.Stands.{only, SampleIn, BinIn, sample_ordinal, bin_ordinal}
use Rattle.format.proofs.book.PrefixLaws.{and_left, and_right, and_both}
use Rattle.format.proofs.rules.SoundLaws.{sound_head}
use Rattle.format.proofs.questions.ItemQuestions.{no_some}
use Rattle.format.proofs.questions.MarkLaws.{MarkIs, mark_place}
use Rattle.format.proofs.questions.FillLaws.{sample_marks, bin_marks, no_place}

-- ---- an item as a channel sees it

pub data Timed (x : Item) : Type 0 where
  sampled : (v : ℕ) → x ≡ Sample v → Timed x
  timed : (t : ℕ) → x ≡ TimeBin t → Timed x

no_class : {A : Type 0} → false ≡ true → A
no_class e = absurd (true≢false (sym e))

pub as_timed : (x : Item) → among (class_for x) (time_bin ∷ sample ∷ []) ≡ true → Timed x
as_timed (Channel a b c) e = no_class e
as_timed (Histogram a b c) e = no_class e
as_timed (HitCount a b c) e = no_class e
as_timed (Sample v) e = sampled v refl
as_timed (Bin b n) e = no_class e
as_timed (LastCell a b) e = no_class e
as_timed (TimeBin t) e = timed t refl
as_timed (Text s) e = no_class e
as_timed (StartEvent t ts n) e = no_class e
as_timed (ContinueEvent n) e = no_class e
as_timed (EndEvent n) e = no_class e

pub as_sample : (x : Item) → among (class_for x) (sample ∷ []) ≡ true → (v : ℕ) × (x ≡ Sample v)
as_sample (Channel a b c) e = no_class e
as_sample (Histogram a b c) e = no_class e
as_sample (HitCount a b c) e = no_class e
as_sample (Sample v) e = (v, refl)
as_sample (Bin b n) e = no_class e
as_sample (LastCell a b) e = no_class e
as_sample (TimeBin t) e = no_class e
as_sample (Text s) e = no_class e
as_sample (StartEvent t ts n) e = no_class e
as_sample (ContinueEvent n) e = no_class e
as_sample (EndEvent n) e = no_class e

pub as_bin : (x : Item) → among (class_for x) (bin ∷ []) ≡ true → (b n : ℕ) × (x ≡ Bin b n)
as_bin (Channel a b c) e = no_class e
as_bin (Histogram a b c) e = no_class e
as_bin (HitCount a b c) e = no_class e
as_bin (Sample v) e = no_class e
as_bin (Bin b n) e = (b, n, refl)
as_bin (LastCell a b) e = no_class e
as_bin (TimeBin t) e = no_class e
as_bin (Text s) e = no_class e
as_bin (StartEvent t ts n) e = no_class e
as_bin (ContinueEvent n) e = no_class e
as_bin (EndEvent n) e = no_class e

-- ---- samples

run_marks : (u t v : ℕ) (run after : List Item) → only (sample ∷ []) run ≡ true → t ≡ u + length run
    → MarkIs (sample_marks u (run ++ (Sample v ∷ after))) (length run) t v
unfolding only sample_marks pick_nth
run_marks u t v [] after o e = ap (λ (i : ℕ). some (i, v)) (omega arith)
run_marks u t v (x ∷ run) after o e =
    let (w, i) = as_sample x (and_left (among (class_for x) (sample ∷ [])) (only (sample ∷ []) run) o) in
    ap (λ (y : Item). pick_nth (suc (length run)) (sample_marks u (y ∷ (run ++ (Sample v ∷ after))))) i
    ∙ run_marks (suc u) t v run after (and_right (among (class_for x) (sample ∷ [])) (only (sample ∷ []) run) o) (omega arith)

before_marks : (u t v time : ℕ) (before run after : List Item) → only (time_bin ∷ sample ∷ []) before ≡ true → only (sample ∷ []) run ≡ true → t ≡ time + length run
    → MarkIs (sample_marks u (before ++ (TimeBin time ∷ (run ++ (Sample v ∷ after))))) (count sample before + length run) t v
unfolding only sample_marks pick_nth count
before_marks u t v time [] run after o r e =
    let z : 0 + length run ≡ length run = omega arith in
    ap (λ (k : ℕ). pick_nth k (sample_marks time (run ++ (Sample v ∷ after)))) z ∙ run_marks time t v run after r e
before_marks u t v time (x ∷ before) run after o r e =
    go (as_timed x (and_left (among (class_for x) (time_bin ∷ sample ∷ [])) (only (time_bin ∷ sample ∷ []) before) o))
    (λ w. before_marks w t v time before run after (and_right (among (class_for x) (time_bin ∷ sample ∷ [])) (only (time_bin ∷ sample ∷ []) before) o) r e)
  where
    rest : List Item
    rest = before ++ (TimeBin time ∷ (run ++ (Sample v ∷ after)))

    go : Timed x → ((w : ℕ) → MarkIs (sample_marks w rest) (count sample before + length run) t v)
        → MarkIs (sample_marks u (x ∷ rest)) (count sample (x ∷ before) + length run) t v
    go (sampled w i) h =
        let k : count sample (Sample w ∷ before) + length run ≡ suc (count sample before + length run) = omega arith in
        ap (λ (y : Item). pick_nth (count sample (y ∷ before) + length run) (sample_marks u (y ∷ rest))) i
        ∙ ap (λ (j : ℕ). pick_nth j (sample_marks u (Sample w ∷ rest))) k ∙ h (suc u)
    go (timed w i) h =
        let k : count sample (TimeBin w ∷ before) + length run ≡ count sample before + length run = omega arith in
        ap (λ (y : Item). pick_nth (count sample (y ∷ before) + length run) (sample_marks u (y ∷ rest))) i
        ∙ ap (λ (j : ℕ). pick_nth j (sample_marks u (TimeBin w ∷ rest))) k ∙ h w

pub sample_mark : (ys : List Item) (t v : ℕ) (h : SampleIn ys t v) → MarkIs (sample_marks 0 ys) (sample_ordinal h) t v
sample_mark ys t v h =
    ap (λ (l : List Item). pick_nth (sample_ordinal h) (sample_marks 0 l)) h.items
    ∙ before_marks 0 t v h.time h.before h.run h.after h.same_channel h.samples h.at

-- a mark is of a Sample behind a Time bin, or of one before any, the first of which would be at time u
pub record StretchIn (u : ℕ) (ys : List Item) (t v : ℕ) : Type 0 where
  pub run : List Item
  pub after : List Item
  pub items : ys ≡ run ++ (Sample v ∷ after)
  pub samples : only (sample ∷ []) run ≡ true
  pub at : t ≡ u + length run

one_more : (x : Item) (ys : List Item) (t v : ℕ) → among (class_for x) (time_bin ∷ sample ∷ []) ≡ true → SampleIn ys t v → SampleIn (x ∷ ys) t v
unfolding only
one_more x ys t v e h =
    record {
      before = x ∷ h.before;
      time = h.time;
      run = h.run;
      after = h.after;
      items = ap (λ (l : List Item). x ∷ l) h.items;
      same_channel = and_both _ _ e h.same_channel;
      samples = h.samples;
      at = h.at;
    }

mark_in : (u k t v : ℕ) (ys : List Item) → MarkIs (sample_marks u ys) k t v → StretchIn u ys t v ⊎ SampleIn ys t v
unfolding sample_marks pick_nth only
mark_in u k t v [] e = no_some (t, v) e
mark_in u k t v (Channel a b c ∷ ys) e = no_some (t, v) e
mark_in u k t v (Histogram a b c ∷ ys) e = no_some (t, v) e
mark_in u k t v (HitCount a b c ∷ ys) e = no_some (t, v) e
mark_in u zero t v (Sample w ∷ ys) e =
    let (p, q) = mark_place (u, w) t v e in
    inl (record { run = []; after = ys; items = ap (λ (n : ℕ). Sample n ∷ ys) q; samples = refl; at = omega arith })
mark_in u (suc k) t v (Sample w ∷ ys) e = go (mark_in (suc u) k t v ys e)
  where
    later : (n : ℕ) → t ≡ suc u + n → t ≡ u + suc n
    later n h = omega arith

    go : StretchIn (suc u) ys t v ⊎ SampleIn ys t v → StretchIn u (Sample w ∷ ys) t v ⊎ SampleIn (Sample w ∷ ys) t v
    go (inl r) = inl (record { run = Sample w ∷ r.run; after = r.after; items = ap (λ (l : List Item). Sample w ∷ l) r.items; samples = r.samples; at = later (length r.run) r.at })
    go (inr h) = inr (one_more (Sample w) ys t v refl h)
mark_in u k t v (Bin b n ∷ ys) e = no_some (t, v) e
mark_in u k t v (LastCell a b ∷ ys) e = no_some (t, v) e
mark_in u k t v (TimeBin w ∷ ys) e = go (mark_in w k t v ys e)
  where
    go : StretchIn w ys t v ⊎ SampleIn ys t v → StretchIn u (TimeBin w ∷ ys) t v ⊎ SampleIn (TimeBin w ∷ ys) t v
    go (inl r) = inr (record { before = []; time = w; run = r.run; after = r.after; items = ap (λ (l : List Item). TimeBin w ∷ l) r.items; same_channel = refl; samples = r.samples; at = r.at })
    go (inr h) = inr (one_more (TimeBin w) ys t v refl h)
mark_in u k t v (Text s ∷ ys) e = no_some (t, v) e
mark_in u k t v (StartEvent a ts n ∷ ys) e = no_some (t, v) e
mark_in u k t v (ContinueEvent n ∷ ys) e = no_some (t, v) e
mark_in u k t v (EndEvent n ∷ ys) e = no_some (t, v) e

-- behind a Channel header comes no Sample at once
pub no_run : (kind : Kind) (card a b c u t v : ℕ) (p ys : List Item) → Sound kind card (Channel a b c ∷ p) ys → StretchIn u ys t v → ⊥
unfolding only
no_run kind card a b c u t v p ys s r = go r.run r.after r.items r.samples
  where
    not_first : (w : ℕ) (r : List Item) → ys ≡ Sample w ∷ r → ⊥
    not_first w r i =
        no_place kind (Channel a b c ∷ p) channel sample refl refl refl refl refl
        (sound_head kind card _ _ _ (subst (Sound kind card (Channel a b c ∷ p)) i s)).placed

    go : (run after : List Item) → ys ≡ run ++ (Sample v ∷ after) → only (sample ∷ []) run ≡ true → ⊥
    go [] after i o = not_first v after i
    go (x ∷ run) after i o =
        let (w, j) = as_sample x (and_left (among (class_for x) (sample ∷ [])) (only (sample ∷ []) run) o) in
        not_first w (run ++ (Sample v ∷ after)) (i ∙ ap (λ (y : Item). y ∷ (run ++ (Sample v ∷ after))) j)

pub sample_in : (kind : Kind) (card a b c k t v : ℕ) (p ys : List Item) → Sound kind card (Channel a b c ∷ p) ys → MarkIs (sample_marks 0 ys) k t v → SampleIn ys t v
sample_in kind card a b c k t v p ys s e = go (mark_in 0 k t v ys e)
  where
    go : StretchIn 0 ys t v ⊎ SampleIn ys t v → SampleIn ys t v
    go (inl r) = absurd (no_run kind card a b c 0 t v p ys s r)
    go (inr h) = h

-- ---- bins

bins_mark : (b n : ℕ) (before after : List Item) → only (bin ∷ []) before ≡ true → MarkIs (bin_marks (before ++ (Bin b n ∷ after))) (length before) b n
unfolding only bin_marks pick_nth
bins_mark b n [] after o = refl
bins_mark b n (x ∷ before) after o =
    let (d, m, i) = as_bin x (and_left (among (class_for x) (bin ∷ [])) (only (bin ∷ []) before) o) in
    ap (λ (y : Item). pick_nth (suc (length before)) (bin_marks (y ∷ (before ++ (Bin b n ∷ after))))) i
    ∙ bins_mark b n before after (and_right (among (class_for x) (bin ∷ [])) (only (bin ∷ []) before) o)

pub bin_mark : (ys : List Item) (b n : ℕ) (h : BinIn ys b n) → MarkIs (bin_marks ys) (bin_ordinal h) b n
bin_mark ys b n h =
    ap (λ (l : List Item). pick_nth (bin_ordinal h) (bin_marks l)) h.items ∙ bins_mark b n h.before h.after h.same_histogram

pub bin_in : (k b n : ℕ) (ys : List Item) → MarkIs (bin_marks ys) k b n → BinIn ys b n
unfolding bin_marks pick_nth only
bin_in k b n [] e = no_some (b, n) e
bin_in k b n (Channel x y z ∷ ys) e = no_some (b, n) e
bin_in k b n (Histogram x y z ∷ ys) e = no_some (b, n) e
bin_in k b n (HitCount x y z ∷ ys) e = no_some (b, n) e
bin_in k b n (Sample v ∷ ys) e = no_some (b, n) e
bin_in zero b n (Bin d m ∷ ys) e =
    let (p, q) = mark_place (d, m) b n e in
    record { before = []; after = ys; items = ap₂ (λ (i j : ℕ). Bin i j ∷ ys) p q; same_histogram = refl }
bin_in (suc k) b n (Bin d m ∷ ys) e =
    let h = bin_in k b n ys e in
    record { before = Bin d m ∷ h.before; after = h.after; items = ap (λ (l : List Item). Bin d m ∷ l) h.items; same_histogram = h.same_histogram }
bin_in k b n (LastCell x y ∷ ys) e = no_some (b, n) e
bin_in k b n (TimeBin t ∷ ys) e = no_some (b, n) e
bin_in k b n (Text s ∷ ys) e = no_some (b, n) e
bin_in k b n (StartEvent x ts y ∷ ys) e = no_some (b, n) e
bin_in k b n (ContinueEvent m ∷ ys) e = no_some (b, n) e
bin_in k b n (EndEvent m ∷ ys) e = no_some (b, n) e
