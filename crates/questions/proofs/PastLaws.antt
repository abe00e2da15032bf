-- The items after a header, and the headers that no item of a frame has.
-- Assumes nothing.
use Prim.Native.Nat.{ℕ, ◌+◌}
use mathlib.Core.Path.{◌≡◌, refl, sym, ◌∙◌}
use mathlib.Core.List.{List, [], ◌∷◌}
use mathlib.Core.Bool.{Bool, true, false, true≢false}
use mathlib.Core.Option.{none, some}
use lib.ListN.{length}
use Rattle.format.specs.Book.{histogram, end_event}
use Rattle.format.specs.Items.{Item, Channel, Histogram, HitCount, Sample, Bin, LastCell, TimeBin, Text, StartEvent, ContinueEvent, EndEvent, class_for, words_of}
use Rattle.format.specs.Rules.{Kind, data_kind, monitor_kind, command_kind, same, place}
use Rattle.format.specs.Frames.{Allowed, Sound}
use Rattle.format.specs.Questions.{until, past_at, is_histogram}
use Rattle.format.proofs.rules.SoundLaws.{sound_head, sound_tail}
use Rattle.questions.proofs.Turns.{never_in_data}

-- ---- one item further

-- the next one begins at word n
pub past_hit : (f : Item → Bool) (at n : ℕ) (x : Item) (xs : List Item) → n ≡ at + length (words_of x) → f x ≡ true → past_at f at (x ∷ xs) ≡ some (record { index = n; items = xs })
unfolding past_at
past_hit f at n x xs k e = rw (e, k)

pub past_miss : (f : Item → Bool) (at n : ℕ) (x : Item) (xs : List Item) → n ≡ at + length (words_of x) → f x ≡ false → past_at f at (x ∷ xs) ≡ past_at f n xs
unfolding past_at
past_miss f at n x xs k e = rw (e, k)

pub until_other : (x : Item) (xs : List Item) → same end_event (class_for x) ≡ false → until end_event (x ∷ xs) ≡ x ∷ until end_event xs
unfolding until
until_other x xs e = rw e

pub until_end : (x : Item) (xs : List Item) → same end_event (class_for x) ≡ true → until end_event (x ∷ xs) ≡ []
unfolding until
until_end x xs e = rw e

-- ---- where no item passes the test

module _ (f : Item → Bool) (kind : Kind) (card : ℕ) (never : (p : List Item) (x : Item) → Allowed kind card p x → f x ≡ false) where
  pub none_past : (at : ℕ) (p xs : List Item) → Sound kind card p xs → past_at f at xs ≡ none
  unfolding past_at
  none_past at p [] h = refl
  none_past at p (x ∷ xs) h =
      past_miss f at _ x xs refl (never p x (sound_head kind card p x xs h)) ∙ none_past (at + length (words_of x)) (x ∷ p) xs (sound_tail kind card p x xs h)

-- ---- a class that has no place

-- only a monitor frame has histograms
histogram_place : (kind : Kind) (p : List Item) → (kind ≡ monitor_kind → ⊥) → place kind p histogram ≡ true → ⊥
histogram_place data_kind p n e = never_in_data histogram refl refl refl refl refl refl p e
histogram_place monitor_kind p n e = n refl
histogram_place command_kind p n e = true≢false (sym e)

pub no_histogram : (kind : Kind) → (kind ≡ monitor_kind → ⊥) → (card chip c : ℕ) (p : List Item) (x : Item) → Allowed kind card p x → is_histogram chip c x ≡ false
no_histogram kind n card chip c p (Channel a b d) h = refl
no_histogram kind n card chip c p (Histogram a b d) h = absurd (histogram_place kind p n h.placed)
no_histogram kind n card chip c p (HitCount a b d) h = refl
no_histogram kind n card chip c p (Sample v) h = refl
no_histogram kind n card chip c p (Bin b m) h = refl
no_histogram kind n card chip c p (LastCell a b) h = refl
no_histogram kind n card chip c p (TimeBin t) h = refl
no_histogram kind n card chip c p (Text t) h = refl
no_histogram kind n card chip c p (StartEvent t ts m) h = refl
no_histogram kind n card chip c p (ContinueEvent m) h = refl
no_histogram kind n card chip c p (EndEvent m) h = refl
