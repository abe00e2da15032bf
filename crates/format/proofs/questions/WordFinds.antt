-- The word of a Sample and of a Bin, over lists of items: where the search finds a word, the Sample or Bin stands there; where one stands, it finds
-- one.
-- Assumes nothing.
use Prim.Native.Nat.{ℕ, zero, suc, ◌+◌}
use mathlib.Core.Path.{◌≡◌, refl, sym, ap, ap₂, subst, ◌∙◌}
use mathlib.Core.List.{List, [], ◌∷◌, ◌++◌, append_assoc}
use mathlib.Core.Bool.{Bool, true, false}
use mathlib.Core.Option.{Option, none, some}
use native.Mathlib.Omega.{arith}
use lib.Dec.{eqb}
use lib.ListN.{length, length-append}
use borrow.Author.Tests.{eqb-true, eq-eqb}
use Rattle.format.specs.Words.{pick}
use Rattle.format.specs.Answers.{Outcome, accepted, refused, and_then}
use Rattle.format.specs.Book.{Class, channel, histogram, bin, sample, time_bin, end_event}
use Rattle.format.specs.Items.{Item, Channel, Histogram, HitCount, Sample, Bin, LastCell, TimeBin, Text, StartEvent, ContinueEvent, EndEvent, class_for, words_of}
use Rattle.format.specs.Rules.{same, count, among}
use Rattle.format.specs.Frames.{all_words}
use Rattle.format.specs.Questions.{Behind, Opened, events, pick_nth, present, until, past, past_at, is_channel, is_histogram, channel_in, channel_at, sample_word, bin_word}
use Rattle.format.proofs.questions.ItemQuestions.{no_some, some_is, all_words_lem}
use Rattle.format.proofs.questions.EventQuestions.{picked_inside, picked_event, event_picked}
use Rattle.format.proofs.questions.FindLaws.{as_channel, event_items, present_is}
use Rattle.format.proofs.questions.MarkLaws.{MarkIs, mark_place}
use Rattle.format.specs.Stands.{only, ChannelIn, HistogramIn, SampleIn, BinIn, before_sample, before_bin, sample_ordinal, bin_ordinal}
use Rattle.format.proofs.book.PrefixLaws.{and_left, and_right, and_both}
use Rattle.format.proofs.rules.SoundLaws.{count_append}
use Rattle.format.proofs.spots.SpotKeys.{Headless}
use Rattle.format.proofs.questions.FillLaws.{sample_marks, bin_marks}
use Rattle.format.proofs.questions.StandLaws as StandLaws
use Rattle.format.proofs.questions.StandLaws.{StretchIn, Timed, sampled, as_timed, as_sample, as_bin}

-- ---- the items after the first one that passes a test, and where they begin

abbrev pub items_of : Option Behind → Option (List Item)
items_of none = none
items_of (some b) = some b.items

module _ (f : Item → Bool) where
  pub past_of : (at : ℕ) (xs : List Item) → past f xs ≡ items_of (past_at f at xs)
  unfolding past past_at
  past_of at [] = refl
  past_of at (x ∷ xs) = go (f x) refl (past_of (at + length (words_of x)) xs)
    where
      go : (b : Bool) → f x ≡ b → past f xs ≡ items_of (past_at f (at + length (words_of x)) xs)
          → pick (f x) (some xs) (past f xs)
          ≡ items_of (pick (f x) (some (record { index = at + length (words_of x); items = xs })) (past_at f (at + length (words_of x)) xs))
      go true p r = rw p
      go false p r = rw (p, r)

  -- the items before it, and itself
  pub record Passed (at : ℕ) (xs : List Item) (b : Behind) : Type 0 where
    pub before : List Item
    pub item : Item
    pub split : xs ≡ before ++ (item ∷ b.items)
    pub passes : f item ≡ true
    pub index : b.index ≡ at + length (all_words before) + length (words_of item)

  pub passed_at : (at : ℕ) (xs : List Item) (b : Behind) → past_at f at xs ≡ some b → Passed at xs b
  unfolding past_at all_words
  passed_at at [] b e = no_some b e
  passed_at at (x ∷ xs) b e = go (f x) refl (passed_at (at + length (words_of x)) xs b) e
    where
      later : Passed (at + length (words_of x)) xs b → Passed at (x ∷ xs) b
      later r =
          let i = r.index in
          record {
            before = x ∷ r.before;
            item = r.item;
            split = ap (λ (l : List Item). x ∷ l) r.split;
            passes = r.passes;
            index = omega (arith, i, length-append (words_of x) (all_words r.before));
          }

      here : f x ≡ true → record { index = at + length (words_of x); items = xs } ≡ b → Passed at (x ∷ xs) b
      here p q = record {
        before = [];
        item = x;
        split = ap (λ (c : Behind). x ∷ c.items) q;
        passes = p;
        index = sym (ap (λ (c : Behind). c.index) q) ∙ omega arith;
      }

      go : (p : Bool) → f x ≡ p → (past_at f (at + length (words_of x)) xs ≡ some b → Passed (at + length (words_of x)) xs b)
          → pick p (some (record { index = at + length (words_of x); items = xs })) (past_at f (at + length (words_of x)) xs) ≡ some b → Passed at (x ∷ xs) b
      go true p r i = here p (some_is _ _ i)
      go false p r i = later (r i)

-- one of two, by a test
either_way : {R : Type 0} (b : Bool) (x y : Option ℕ) (w : ℕ) → pick b x y ≡ some w → (b ≡ true → x ≡ some w → R) → (b ≡ false → y ≡ some w → R) → R
either_way true x y w e f g = f refl e
either_way false x y w e f g = g refl e

-- ---- the word of a Sample among those that come first

-- it stands behind a Time bin, or before any, the first of which would be at time u; the first item stands at word `at`
pub data SampleFound (u at : ℕ) (xs : List Item) (t w : ℕ) : Type 0 where
  first : (v : ℕ) (h : StretchIn u xs t v) → w ≡ at + length (all_words h.run) → SampleFound u at xs t w
  timed : (v : ℕ) (h : SampleIn xs t v) → w ≡ at + length (all_words (h.before ++ (TimeBin h.time ∷ h.run))) → SampleFound u at xs t w

pub sample_found : (t u at w : ℕ) (xs : List Item) → sample_word t u at xs ≡ some w → SampleFound u at xs t w
unfolding sample_word all_words words_of only
sample_found t u at w [] e = no_some w e
sample_found t u at w (Channel a b c ∷ xs) e = no_some w e
sample_found t u at w (Histogram a b c ∷ xs) e = no_some w e
sample_found t u at w (HitCount a b c ∷ xs) e = no_some w e
sample_found t u at w (Sample n ∷ xs) e =
    either_way (eqb u t) _ _ w e
    (λ p i. here (eqb-true u t p) _ (some_is _ w i) (omega arith))
    (λ p i. later _ _ (sample_found t (suc u) (at + 1) w xs i) (omega arith) (omega arith))
  where
    here : u ≡ t → (k : ℕ) → k ≡ w → k ≡ at → SampleFound u at (Sample n ∷ xs) t w
    here q k i j = first n (record { run = []; after = xs; items = refl; samples = refl; at = omega arith }) (omega arith)

    later : (v k : ℕ) → SampleFound v k xs t w → v ≡ suc u → k ≡ at + 1 → SampleFound u at (Sample n ∷ xs) t w
    later v k (first m h i) p q =
        let j = h.at in
        first m (record { run = Sample n ∷ h.run; after = h.after; items = ap (λ (l : List Item). Sample n ∷ l) h.items; samples = h.samples; at = omega (arith, j) }) (omega (arith, i))
    later v k (timed m h i) p q =
        timed m (record { before = Sample n ∷ h.before; time = h.time; run = h.run; after = h.after; items = ap (λ (l : List Item). Sample n ∷ l) h.items; same_channel = h.same_channel; samples = h.samples; at = h.at })
        (omega (arith, i))
sample_found t u at w (Bin b n ∷ xs) e = no_some w e
sample_found t u at w (LastCell a b ∷ xs) e = no_some w e
sample_found t u at w (TimeBin n ∷ xs) e = later _ _ (sample_found t n (at + 1) w xs e) (omega arith) (omega arith)
  where
    later : (v k : ℕ) → SampleFound v k xs t w → v ≡ n → k ≡ at + 1 → SampleFound u at (TimeBin n ∷ xs) t w
    later v k (first m h i) p q =
        let j = h.at in
        timed m (record { before = []; time = n; run = h.run; after = h.after; items = ap (λ (l : List Item). TimeBin n ∷ l) h.items; same_channel = refl; samples = h.samples; at = omega (arith, j) })
        (omega (arith, i))
    later v k (timed m h i) p q =
        timed m (record { before = TimeBin n ∷ h.before; time = h.time; run = h.run; after = h.after; items = ap (λ (l : List Item). TimeBin n ∷ l) h.items; same_channel = h.same_channel; samples = h.samples; at = h.at })
        (omega (arith, i))
sample_found t u at w (Text s ∷ xs) e = no_some w e
sample_found t u at w (StartEvent k ts n ∷ xs) e = no_some w e
sample_found t u at w (ContinueEvent n ∷ xs) e = no_some w e
sample_found t u at w (EndEvent n ∷ xs) e = no_some w e

-- and where one stands, a word is found
pub sample_there : (t u at k v : ℕ) (xs : List Item) → MarkIs (sample_marks u xs) k t v → (w : ℕ) × (sample_word t u at xs ≡ some w)
unfolding sample_word sample_marks pick_nth
sample_there t u at k v [] e = no_some (t, v) e
sample_there t u at k v (Channel a b c ∷ xs) e = no_some (t, v) e
sample_there t u at k v (Histogram a b c ∷ xs) e = no_some (t, v) e
sample_there t u at k v (HitCount a b c ∷ xs) e = no_some (t, v) e
sample_there t u at zero v (Sample n ∷ xs) e = (at, rw (eq-eqb u t (mark_place (u, n) t v e).0))
sample_there t u at (suc k) v (Sample n ∷ xs) e = go (eqb u t) refl (sample_there t (suc u) (at + 1) k v xs e)
  where
    go : (b : Bool) → eqb u t ≡ b → (w : ℕ) × (sample_word t (suc u) (at + 1) xs ≡ some w) → (w : ℕ) × (pick (eqb u t) (some at) (sample_word t (suc u) (at + 1) xs) ≡ some w)
    go true p r = (at, rw p)
    go false p (w, q) = (w, rw (p, q))
sample_there t u at k v (Bin b n ∷ xs) e = no_some (t, v) e
sample_there t u at k v (LastCell a b ∷ xs) e = no_some (t, v) e
sample_there t u at k v (TimeBin n ∷ xs) e = sample_there t n (at + 1) k v xs e
sample_there t u at k v (Text s ∷ xs) e = no_some (t, v) e
sample_there t u at k v (StartEvent a ts n ∷ xs) e = no_some (t, v) e
sample_there t u at k v (ContinueEvent n ∷ xs) e = no_some (t, v) e
sample_there t u at k v (EndEvent n ∷ xs) e = no_some (t, v) e

-- ---- the word of a Bin among those that come first

pub record BinFound (at : ℕ) (xs : List Item) (b w : ℕ) : Type 0 where
  pub count_is : ℕ
  pub is : BinIn xs b count_is
  pub index : w ≡ at + length (all_words is.before)

pub bin_found : (b at w : ℕ) (xs : List Item) → bin_word b at xs ≡ some w → BinFound at xs b w
unfolding bin_word all_words words_of only
bin_found b at w [] e = no_some w e
bin_found b at w (Channel x y c ∷ xs) e = no_some w e
bin_found b at w (Histogram x y c ∷ xs) e = no_some w e
bin_found b at w (HitCount x y c ∷ xs) e = no_some w e
bin_found b at w (Sample v ∷ xs) e = no_some w e
bin_found b at w (Bin d n ∷ xs) e =
    either_way (eqb d b) _ _ w e
    (λ p i. here (eqb-true d b p) _ (some_is _ w i) (omega arith))
    (λ p i. later _ (bin_found b (at + 3) w xs i) (omega arith))
  where
    here : d ≡ b → (k : ℕ) → k ≡ w → k ≡ at → BinFound at (Bin d n ∷ xs) b w
    here q k i j = record {
      count_is = n;
      is = record { before = []; after = xs; items = ap (λ (j : ℕ). Bin j n ∷ xs) q; same_histogram = refl };
      index = omega arith;
    }

    later : (k : ℕ) → BinFound k xs b w → k ≡ at + 3 → BinFound at (Bin d n ∷ xs) b w
    later k h q =
        let i = h.index in
        record {
          count_is = h.count_is;
          is = record { before = Bin d n ∷ h.is.before; after = h.is.after; items = ap (λ (l : List Item). Bin d n ∷ l) h.is.items; same_histogram = h.is.same_histogram };
          index = omega (arith, i);
        }
bin_found b at w (LastCell x y ∷ xs) e = no_some w e
bin_found b at w (TimeBin t ∷ xs) e = no_some w e
bin_found b at w (Text s ∷ xs) e = no_some w e
bin_found b at w (StartEvent k ts n ∷ xs) e = no_some w e
bin_found b at w (ContinueEvent n ∷ xs) e = no_some w e
bin_found b at w (EndEvent n ∷ xs) e = no_some w e

pub bin_there : (b at k n : ℕ) (xs : List Item) → MarkIs (bin_marks xs) k b n → (w : ℕ) × (bin_word b at xs ≡ some w)
unfolding bin_word bin_marks pick_nth
bin_there b at k n [] e = no_some (b, n) e
bin_there b at k n (Channel x y c ∷ xs) e = no_some (b, n) e
bin_there b at k n (Histogram x y c ∷ xs) e = no_some (b, n) e
bin_there b at k n (HitCount x y c ∷ xs) e = no_some (b, n) e
bin_there b at k n (Sample v ∷ xs) e = no_some (b, n) e
bin_there b at zero n (Bin d m ∷ xs) e = (at, rw (eq-eqb d b (mark_place (d, m) b n e).0))
bin_there b at (suc k) n (Bin d m ∷ xs) e = go (eqb d b) refl (bin_there b (at + 3) k n xs e)
  where
    go : (p : Bool) → eqb d b ≡ p → (w : ℕ) × (bin_word b (at + 3) xs ≡ some w) → (w : ℕ) × (pick (eqb d b) (some at) (bin_word b (at + 3) xs) ≡ some w)
    go true p r = (at, rw p)
    go false p (w, q) = (w, rw (p, q))
bin_there b at k n (LastCell x y ∷ xs) e = no_some (b, n) e
bin_there b at k n (TimeBin t ∷ xs) e = no_some (b, n) e
bin_there b at k n (Text s ∷ xs) e = no_some (b, n) e
bin_there b at k n (StartEvent x ts y ∷ xs) e = no_some (b, n) e
bin_there b at k n (ContinueEvent m ∷ xs) e = no_some (b, n) e
bin_there b at k n (EndEvent m ∷ xs) e = no_some (b, n) e

-- ---- behind the header

then_items : (o : Option Behind) → present (items_of o) ≡ and_then (present o) (λ b. accepted b.items)
then_items none = refl
then_items (some b) = refl

pub histogram_items : (chip c : ℕ) (xs : List Item) → present (past (is_histogram chip c) xs) ≡ and_then (present (past_at (is_histogram chip c) 3 xs)) (λ b. accepted b.items)
histogram_items chip c xs = ap present (past_of (is_histogram chip c) 3 xs) ∙ then_items (past_at (is_histogram chip c) 3 xs)

pub channel_items : (e chip c : ℕ) (xs : List Item) → channel_in e chip c xs ≡ and_then (channel_at e chip c xs) (λ b. accepted b.items)
unfolding channel_in channel_at
channel_items e chip c xs = go (pick_nth e (events 3 xs))
  where
    go : (o : Option Opened)
        → and_then (present o) (λ o. present (past (is_channel chip c) (until end_event o.items)))
        ≡ and_then (and_then (present o) (λ o. present (past_at (is_channel chip c) o.inside (until end_event o.items)))) (λ b. accepted b.items)
    go none = refl
    go (some o) =
        let at : ℕ = o.inside in
        ap present (past_of (is_channel chip c) at (until end_event o.items)) ∙ then_items (past_at (is_channel chip c) at (until end_event o.items))

-- the items before it, and the word behind it
pub record Headed (xs : List Item) (e chip c : ℕ) (b : Behind) : Type 0 where
  pub channel : ChannelIn xs e chip c b.items
  pub index : b.index ≡ 3 + length (all_words channel.within.before) + length (words_of channel.within.opener) + length (all_words channel.left) + 1

pub headed_at : (xs : List Item) (e chip c : ℕ) (b : Behind) → channel_at e chip c xs ≡ accepted b → Headed xs e chip c b
unfolding channel_at words_of
headed_at xs e chip c b i = go (pick_nth e (events 3 xs)) refl i
  where
    within : (o : Opened) → pick_nth e (events 3 xs) ≡ some o → past_at (is_channel chip c) o.inside (until end_event o.items) ≡ some b → Headed xs e chip c b
    within o p q =
        let h = picked_event xs e o p in
        let is = some_is _ _ (sym p ∙ event_picked xs e o.event h) in
        let l : until end_event o.items ≡ h.between = ap (λ (o : Opened). until end_event o.items) is ∙ event_items xs e o.event h in
        let m : o.inside ≡ 3 + length (all_words h.before) + length (words_of h.opener) = picked_inside xs e o.event h o p in
        let r = passed_at (is_channel chip c) o.inside (until end_event o.items) b q in
        let (a, j) = as_channel chip c r.item r.passes in
        let n : length (words_of r.item) ≡ 1 = ap (λ (x : Item). length (words_of x)) j in
        record {
          channel = record { event = o.event; within = h; left = r.before; card = a; header = sym l ∙ r.split ∙ ap (λ (x : Item). r.before ++ (x ∷ b.items)) j };
          index = omega (arith, r.index);
        }

    go : (o : Option Opened) → pick_nth e (events 3 xs) ≡ o
        → and_then (present o) (λ o. present (past_at (is_channel chip c) o.inside (until end_event o.items))) ≡ accepted b → Headed xs e chip c b
    go none p j = let z : ◌≡◌ {A = ℕ} 0 1 = cc in absurd (omega arith)
    go (some o) p j = within o p (present_is _ b j)

pub words_long : (xs ys : List Item) → length (all_words (xs ++ ys)) ≡ length (all_words xs) + length (all_words ys)
words_long xs ys = ap length (all_words_lem xs ys) ∙ length-append (all_words xs) (all_words ys)

-- ---- a header is found or 13 is answered, and so is a word behind it

pub data Sought (o : Outcome Behind) : Type 0 where
  behind_it : (b : Behind) → o ≡ accepted b → Sought o
  missing : o ≡ refused 13 0 → Sought o

pub one_sought : (o : Option Behind) → Sought (present o)
one_sought none = missing refl
one_sought (some b) = behind_it b refl

pub channel_sought : (e chip c : ℕ) (xs : List Item) → Sought (channel_at e chip c xs)
unfolding channel_at
channel_sought e chip c xs = go (pick_nth e (events 3 xs))
  where
    go : (o : Option Opened) → Sought (and_then (present o) (λ o. present (past_at (is_channel chip c) o.inside (until end_event o.items))))
    go none = missing refl
    go (some o) = one_sought (past_at (is_channel chip c) o.inside (until end_event o.items))

pub same_behind : (o : Outcome Behind) (ys : List Item) → and_then o (λ b. accepted b.items) ≡ accepted ys → (b : Behind) × (o ≡ accepted b) × (b.items ≡ ys)
same_behind (accepted b) ys e = (b, refl, inner b.items ys e)
  where
    inner : (a b : List Item) → ◌≡◌ {A = Outcome (List Item)} (accepted a) (accepted b) → a ≡ b
    inner a b i = cc
same_behind (refused n p) ys e = let z : ◌≡◌ {A = ℕ} 0 1 = cc in absurd (omega arith)

-- a word behind a header
pub record Worded (o : Outcome Behind) (word_in : Behind → Option ℕ) : Type 0 where
  pub behind : Behind
  pub word : ℕ
  pub header : o ≡ accepted behind
  pub is : word_in behind ≡ some word

pub worded : (o : Outcome Behind) (word_in : Behind → Option ℕ) (a : Worded o word_in) → and_then o (λ b. present (word_in b)) ≡ accepted a.word
worded o word_in a = ap (λ (o : Outcome Behind). and_then o (λ b. present (word_in b))) a.header ∙ ap present a.is

pub no_word : (o : Outcome Behind) (word_in : Behind → Option ℕ) → Worded o word_in → and_then o (λ b. present (word_in b)) ≡ refused 13 0 → ⊥
no_word o word_in a e = neither a.word (sym (worded o word_in a) ∙ e)
  where
    neither : (w : ℕ) → ◌≡◌ {A = Outcome ℕ} (accepted w) (refused 13 0) → ⊥
    neither w i = let z : ◌≡◌ {A = ℕ} 0 1 = cc in omega arith

pub no_words : (o : Outcome Behind) (word_in : Behind → Option ℕ) → Sought o → ((w : ℕ) → and_then o (λ b. present (word_in b)) ≡ accepted w → ⊥)
    → and_then o (λ b. present (word_in b)) ≡ refused 13 0
no_words o word_in (missing e) never = ap (λ (o : Outcome Behind). and_then o (λ b. present (word_in b))) e
no_words o word_in (behind_it b e) never = ap (λ (o : Outcome Behind). and_then o (λ b. present (word_in b))) e ∙ go (word_in b) refl
  where
    go : (q : Option ℕ) → word_in b ≡ q → present q ≡ refused 13 0
    go none i = refl
    go (some w) i = absurd (never w (ap (λ (o : Outcome Behind). and_then o (λ b. present (word_in b))) e ∙ ap present i))

-- ---- under the header stands no other

timed_headless : (xs : List Item) → only (time_bin ∷ sample ∷ []) xs ≡ true → Headless xs
unfolding only count
timed_headless [] o = record { channels = refl; histograms = refl }
timed_headless (x ∷ xs) o =
    go (as_timed x (and_left (among (class_for x) (time_bin ∷ sample ∷ [])) (only (time_bin ∷ sample ∷ []) xs) o))
    (timed_headless xs (and_right (among (class_for x) (time_bin ∷ sample ∷ [])) (only (time_bin ∷ sample ∷ []) xs) o))
  where
    go : Timed x → Headless xs → Headless (x ∷ xs)
    go (sampled v i) h = subst (λ (y : Item). Headless (y ∷ xs)) (sym i) (record { channels = omega (arith, h.channels); histograms = omega (arith, h.histograms) })
    go (StandLaws.timed u i) h = subst (λ (y : Item). Headless (y ∷ xs)) (sym i) (record { channels = omega (arith, h.channels); histograms = omega (arith, h.histograms) })

samples_timed : (xs : List Item) → only (sample ∷ []) xs ≡ true → only (time_bin ∷ sample ∷ []) xs ≡ true
unfolding only
samples_timed [] o = refl
samples_timed (x ∷ xs) o =
    let (v, i) = as_sample x (and_left (among (class_for x) (sample ∷ [])) (only (sample ∷ []) xs) o) in
    and_both _ _ (ap (λ (y : Item). among (class_for y) (time_bin ∷ sample ∷ [])) i)
    (samples_timed xs (and_right (among (class_for x) (sample ∷ [])) (only (sample ∷ []) xs) o))

pub bins_headless : (xs : List Item) → only (bin ∷ []) xs ≡ true → Headless xs
unfolding only count
bins_headless [] o = record { channels = refl; histograms = refl }
bins_headless (x ∷ xs) o =
    let (b, n, i) = as_bin x (and_left (among (class_for x) (bin ∷ [])) (only (bin ∷ []) xs) o) in
    let h = bins_headless xs (and_right (among (class_for x) (bin ∷ [])) (only (bin ∷ []) xs) o) in
    subst (λ (y : Item). Headless (y ∷ xs)) (sym i) (record { channels = omega (arith, h.channels); histograms = omega (arith, h.histograms) })

pub run_headless : (ys : List Item) (t v : ℕ) (k : SampleIn ys t v) → Headless (k.before ++ (TimeBin k.time ∷ k.run))
unfolding count
run_headless ys t v k =
    let a = timed_headless k.before k.same_channel in
    let b = timed_headless k.run (samples_timed k.run k.samples) in
    record {
      channels = omega (arith, count_append channel k.before (TimeBin k.time ∷ k.run), a.channels, b.channels);
      histograms = omega (arith, count_append histogram k.before (TimeBin k.time ∷ k.run), a.histograms, b.histograms);
    }

-- a Sample, and a Bin, behind as many of its class as another stands where that one does
module _ (d : Class) where
  later_class : (x : Item) (before after : List Item) (y z : Item) (rest : List Item) → same d (class_for y) ≡ true
      → ◌≡◌ {A = List Item} (y ∷ rest) ((x ∷ before) ++ (z ∷ after)) → count d (x ∷ before) ≡ 0 → ⊥
  unfolding count
  later_class x before after y z rest k e h =
      let i : y ≡ x = cc in
      let j : same d (class_for x) ≡ true = ap (λ (u : Item). same d (class_for u)) (sym i) ∙ k in
      let n : ◌≡◌ {A = ℕ} (pick (same d (class_for x)) 1 0) 1 = ap (λ (b : Bool). pick {A = ℕ} b 1 0) j in
      omega arith

  same_before : (p q after rest : List Item) (y z : Item) → same d (class_for y) ≡ true → same d (class_for z) ≡ true → p ++ (y ∷ after) ≡ q ++ (z ∷ rest) → count d p ≡ count d q → p ≡ q
  unfolding count
  same_before [] [] after rest y z k l e h = refl
  same_before [] (x ∷ q) after rest y z k l e h = absurd (later_class x q rest y z after k e (sym h))
  same_before (x ∷ p) [] after rest y z k l e h = absurd (later_class x p after z y rest l (sym e) h)
  same_before (x ∷ p) (u ∷ q) after rest y z k l e h =
      let i : x ≡ u = cc in
      let j : p ++ (y ∷ after) ≡ q ++ (z ∷ rest) = cc in
      let n : ◌≡◌ {A = ℕ} (pick (same d (class_for x)) 1 0) (pick (same d (class_for u)) 1 0) = ap (λ (w : Item). pick {A = ℕ} (same d (class_for w)) 1 0) i in
      ap₂ ◌∷◌ i (same_before p q after rest y z k l j (omega arith))

samples_counted : (xs : List Item) → only (sample ∷ []) xs ≡ true → count sample xs ≡ length xs
unfolding only count
samples_counted [] o = refl
samples_counted (x ∷ xs) o =
    let (v, i) = as_sample x (and_left (among (class_for x) (sample ∷ [])) (only (sample ∷ []) xs) o) in
    let n : ◌≡◌ {A = ℕ} (pick (same sample (class_for x)) 1 0) 1 = ap (λ (y : Item). pick {A = ℕ} (same sample (class_for y)) 1 0) i in
    omega (arith, samples_counted xs (and_right (among (class_for x) (sample ∷ [])) (only (sample ∷ []) xs) o))

bins_counted : (xs : List Item) → only (bin ∷ []) xs ≡ true → count bin xs ≡ length xs
unfolding only count
bins_counted [] o = refl
bins_counted (x ∷ xs) o =
    let (b, m, i) = as_bin x (and_left (among (class_for x) (bin ∷ [])) (only (bin ∷ []) xs) o) in
    let n : ◌≡◌ {A = ℕ} (pick (same bin (class_for x)) 1 0) 1 = ap (λ (y : Item). pick {A = ℕ} (same bin (class_for y)) 1 0) i in
    omega (arith, bins_counted xs (and_right (among (class_for x) (bin ∷ [])) (only (bin ∷ []) xs) o))

-- the items before a Sample of a channel, and before a Bin
pub same_run : (ys zs : List Item) (t n m : ℕ) (a : SampleIn ys t n) (b : SampleIn zs t m) → ys ≡ zs → sample_ordinal a ≡ sample_ordinal b
    → a.before ++ (TimeBin a.time ∷ a.run) ≡ b.before ++ (TimeBin b.time ∷ b.run)
unfolding count
same_run ys zs t n m a b q h =
    let i = count_append sample a.before (TimeBin a.time ∷ a.run) in
    let j = count_append sample b.before (TimeBin b.time ∷ b.run) in
    same_before sample (a.before ++ (TimeBin a.time ∷ a.run)) (b.before ++ (TimeBin b.time ∷ b.run)) a.after b.after (Sample n) (Sample m) refl refl
    (append_assoc a.before (TimeBin a.time ∷ a.run) (Sample n ∷ a.after) ∙ sym a.items ∙ q ∙ b.items
    ∙ sym (append_assoc b.before (TimeBin b.time ∷ b.run) (Sample m ∷ b.after)))
    (omega (arith, i, j, samples_counted a.run a.samples, samples_counted b.run b.samples))

pub same_bins : (ys zs : List Item) (b n m : ℕ) (x : BinIn ys b n) (y : BinIn zs b m) → ys ≡ zs → bin_ordinal x ≡ bin_ordinal y → x.before ≡ y.before
same_bins ys zs b n m x y q h =
    same_before bin x.before y.before x.after y.after (Bin b n) (Bin b m) refl refl (sym x.items ∙ q ∙ y.items)
    (omega (arith, bins_counted x.before x.same_histogram, bins_counted y.before y.same_histogram))

pub sample_long : (xs ys : List Item) (e chip c t n : ℕ) (h : ChannelIn xs e chip c ys) (k : SampleIn ys t n)
    → length (all_words (before_sample h k)) ≡ length (all_words h.within.before) + length (words_of h.within.opener) + length (all_words h.left) + 1 + length (all_words (k.before ++ (TimeBin k.time ∷ k.run)))
unfolding all_words words_of
sample_long xs ys e chip c t n h k =
    let run : List Item = k.before ++ (TimeBin k.time ∷ k.run) in
    omega (arith, words_long h.within.before (h.within.opener ∷ (h.left ++ (Channel h.card chip c ∷ run))), length-append (words_of h.within.opener) (all_words (h.left ++ (Channel h.card chip c ∷ run))), words_long h.left (Channel h.card chip c ∷ run))

pub bin_long : (xs ys : List Item) (chip c b n : ℕ) (h : HistogramIn xs chip c ys) (k : BinIn ys b n) → length (all_words (before_bin h k)) ≡ length (all_words h.left) + 1 + length (all_words k.before)
unfolding all_words words_of
bin_long xs ys chip c b n h k = omega (arith, words_long h.left (Histogram h.card chip c ∷ k.before))
