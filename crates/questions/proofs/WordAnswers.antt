-- The questions on a word, by their ways out.
-- Assumes nothing.
use Prim.Native.Nat.{ℕ, suc, ◌+◌}
use mathlib.Core.Path.{◌≡◌, refl, sym, ap, ◌∙◌}
use mathlib.Core.List.{List, [], ◌∷◌}
use mathlib.Core.Option.{Option, none, some}
use lib.Dec.{eqb}
use Rattle.std.specs.Prelude as found
use Rattle.std.specs.Prelude.{Result}
use Rattle.std.specs.Option.{ok_or}
use Rattle.format.specs.Words.{pick, Bytes}
use Rattle.format.specs.Answers.{Outcome, refused, and_then}
use Rattle.format.specs.Book.{end_event}
use Rattle.format.specs.Items.{Item, Channel, Histogram, HitCount, Sample, Bin, LastCell, TimeBin, Text, StartEvent, ContinueEvent, EndEvent}
use Rattle.format.specs.Rules.{Kind}
use Rattle.format.specs.Frames.{verdict}
use Rattle.format.specs.Cursor.{items_from}
use Rattle.format.specs.Questions.{Behind, present, until, past_at, is_histogram, channel_at, sample_word, bin_word, sample_word_at, bin_word_at}
use Rattle.format.proofs.questions.WordQuestions.{sample_word_of, bin_word_of, sample_refused, bin_refused}
use Rattle.book.specs.declared.refusal.Fault.TheVariants.{Absent}
use Rattle.book.specs.declared.refusal.Refusal.{Refusal}
use Rattle.book.specs.Refusals.{AtStart}
use Rattle.questions.specs.Views.{view_word}
use Rattle.questions.specs.Sought.{ChannelFound, HistogramAt, place_of, sample_word_in, bin_word_in}
use Rattle.questions.proofs.Reading.{Accepted, items_first}

-- ---- among the items

-- the samples end before the event does
word_until : (t u at : ℕ) (xs : List Item) → sample_word t u at (until end_event xs) ≡ sample_word t u at xs
unfolding sample_word until
word_until t u at [] = refl
word_until t u at (Channel a b c ∷ xs) = refl
word_until t u at (Histogram a b c ∷ xs) = refl
word_until t u at (HitCount a b c ∷ xs) = refl
word_until t u at (Sample v ∷ xs) = ap (pick (eqb u t) (some at)) (word_until t (suc u) (at + 1) xs)
word_until t u at (Bin b n ∷ xs) = refl
word_until t u at (LastCell a b ∷ xs) = refl
word_until t u at (TimeBin w ∷ xs) = word_until t w (at + 1) xs
word_until t u at (Text s ∷ xs) = refl
word_until t u at (StartEvent k ts n ∷ xs) = refl
word_until t u at (ContinueEvent n ∷ xs) = refl
word_until t u at (EndEvent n ∷ xs) = refl

pub sample_behind : (s : List ℕ) (e chip c t q : ℕ) → ChannelFound s e chip c q → (o : Option ℕ) → o ≡ sample_word t 0 q (items_from s q)
    → present o ≡ sample_word_in (items_from s 3) e chip c t
sample_behind s e chip c t q h o i =
    ap present (i ∙ sym (word_until t 0 q (items_from s q)))
    ∙ sym (ap (λ (o : Outcome Behind). and_then o (λ h. present (sample_word t 0 h.index h.items))) h.found)

pub no_channel : (s : List ℕ) (e chip c t : ℕ) → channel_at e chip c (items_from s 3) ≡ refused 13 0 → refused 13 0 ≡ sample_word_in (items_from s 3) e chip c t
no_channel s e chip c t i = sym (ap (λ (o : Outcome Behind). and_then o (λ h. present (sample_word t 0 h.index h.items))) i)

pub bin_behind : (s : List ℕ) (chip c b q : ℕ) → HistogramAt s chip c q → (o : Option ℕ) → o ≡ bin_word b q (items_from s q) → present o ≡ bin_word_in (items_from s 3) chip c b
bin_behind s chip c b q h o i =
    ap present i ∙ sym (ap (λ (o : Option Behind). and_then (present o) (λ h. present (bin_word b h.index h.items))) h.passed)

pub no_histogram : (s : List ℕ) (chip c b : ℕ) → past_at (is_histogram chip c) 3 (items_from s 3) ≡ none → refused 13 0 ≡ bin_word_in (items_from s 3) chip c b
no_histogram s chip c b i = sym (ap (λ (o : Option Behind). and_then (present o) (λ h. present (bin_word b h.index h.items))) i)

-- what was found, or 13
pub told : (o : found.Option ℕ) (f : Refusal) (r : Result ℕ Refusal) → AtStart Absent f → r ≡ ok_or o f → view_word r ≡ present (place_of o)
told o f r a e = ap view_word (e ∙ ap (ok_or o) a) ∙ go o
  where
    go : (o : found.Option ℕ) → view_word (ok_or o (record { fault = Absent; place = 0 })) ≡ present (place_of o)
    go (found.Some q) = refl
    go found.None = refl

-- ---- of a frame

pub sample_stopped : (s : List ℕ) (e chip c t n p : ℕ) → verdict s ≡ refused n p → refused n p ≡ sample_word_at s e chip c t
sample_stopped s e chip c t n p v = sym (sample_refused s n p v e chip c t)

pub bin_stopped : (s : List ℕ) (chip c b n p : ℕ) → verdict s ≡ refused n p → refused n p ≡ bin_word_at s chip c b
bin_stopped s chip c b n p v = sym (bin_refused s n p v chip c b)

module _ (s : List ℕ) (bs : Bytes s) (kind : Kind) (a : Accepted s kind) where
  pub sample_answered : (e chip c t : ℕ) (o : Outcome ℕ) → o ≡ sample_word_in (items_from s 3) e chip c t → o ≡ sample_word_at s e chip c t
  sample_answered e chip c t o h =
      h ∙ ap (λ (xs : List Item). sample_word_in xs e chip c t) (items_first s bs kind a) ∙ sym (sample_word_of s a.frame a.judged e chip c t)

  pub bin_answered : (chip c b : ℕ) (o : Outcome ℕ) → o ≡ bin_word_in (items_from s 3) chip c b → o ≡ bin_word_at s chip c b
  bin_answered chip c b o h =
      h ∙ ap (λ (xs : List Item). bin_word_in xs chip c b) (items_first s bs kind a) ∙ sym (bin_word_of s a.frame a.judged chip c b)
