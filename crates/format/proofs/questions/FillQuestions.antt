-- T13 and T14. The samples of a channel and the counts of a histogram, of an accepted frame.
-- Assumes nothing.
use Prim.Native.Nat.{ℕ, ◌<◌, ◌≤◌}
use mathlib.Core.Path.{◌≡◌, sym, ap, subst, ◌∙◌}
use mathlib.Core.List.{List, []}
use mathlib.Core.Logic.{◌↔◌}
use native.Mathlib.Omega.{arith}
use lib.ListN.{length, get_or}
use borrow.Author.Tests.{le-leb, lt-leb}
use Rattle.format.specs.Words.{Bytes}
use Rattle.format.specs.Answers.{Outcome, accepted, refused}
use Rattle.format.specs.Items.{Item}
use Rattle.format.specs.Frames.{Frame, Sound, verdict}
use Rattle.format.specs.Questions.{present, past, is_histogram, channel_in, cleared, samples_at, counts_at, samples_left, counts_left}
use Rattle.format.specs.Stands.{ChannelIn, HistogramIn, SampleIn, BinIn, Fill, sample_ordinal, bin_ordinal}
use Rattle.format.proofs.questions.MarkLaws.{Mark, MarkIs, Rise, in_bounds, one_mark, one_value, set_all, filled}
use Rattle.format.proofs.questions.FillLaws.{sample_marks, samples_filled, samples_rise, bin_marks, counts_filled, bins_rise}
use Rattle.format.proofs.questions.StandLaws.{sample_mark, sample_in, bin_mark, bin_in}
use Rattle.format.proofs.questions.FindLaws.{channel_there, channel_in_lem, channel_absent, channel_sound, one_place, histogram_there, histogram_in, histogram_absent, histogram_sound, one_histogram_place}
use Rattle.format.proofs.questions.EventQuestions.{sounds}

-- ---- what the answers are

module _ (s : List ℕ) (f : Frame) (v : verdict s ≡ accepted f) where
  pub samples_of : (e chip c room : ℕ) → 512 ≤ room → samples_at s e chip c room ≡ channel_in e chip c f.items
  unfolding samples_at
  samples_of e chip c room h = rw (v, le-leb 512 room h)

  pub samples_room : (e chip c room : ℕ) → room < 512 → samples_at s e chip c room ≡ refused 12 0
  unfolding samples_at
  samples_room e chip c room h = rw (v, lt-leb 512 room h)

  pub counts_of : (chip c room : ℕ) → 4096 ≤ room → counts_at s chip c room ≡ present (past (is_histogram chip c) f.items)
  unfolding counts_at
  counts_of chip c room h = rw (v, le-leb 4096 room h)

  pub counts_room : (chip c room : ℕ) → room < 4096 → counts_at s chip c room ≡ refused 12 0
  unfolding counts_at
  counts_room chip c room h = rw (v, lt-leb 4096 room h)

pub samples_refused : (s : List ℕ) (k p : ℕ) → verdict s ≡ refused k p → (e chip c room : ℕ) → samples_at s e chip c room ≡ refused k p
unfolding samples_at
samples_refused s k p v e chip c room = rw v

pub counts_refused : (s : List ℕ) (k p : ℕ) → verdict s ≡ refused k p → (chip c room : ℕ) → counts_at s chip c room ≡ refused k p
unfolding counts_at
counts_refused s k p v chip c room = rw v

-- ---- what they fill

-- a refusal leaves the lent words as found
pub samples_kept : (s : List ℕ) (e chip c k p : ℕ) (found : List ℕ) → samples_at s e chip c (length found) ≡ refused k p
    → samples_left (samples_at s e chip c (length found)) found ≡ found
samples_kept s e chip c k p found h = ap (λ (o : Outcome (List Item)). samples_left o found) h

pub counts_kept : (s : List ℕ) (chip c k p : ℕ) (found : List ℕ) → counts_at s chip c (length found) ≡ refused k p
    → counts_left (counts_at s chip c (length found)) found ≡ found
counts_kept s chip c k p found h = ap (λ (o : Outcome (List Item)). counts_left o found) h

-- marks that say what stands fill it
fill_of : (ms : List Mark) (n blank : ℕ) (Standing : ℕ → ℕ → Type 0) (found : List ℕ) → Rise 0 n blank ms
    → ((i v : ℕ) → Standing i v → (k : ℕ) × MarkIs ms k i v) → ((k i v : ℕ) → MarkIs ms k i v → Standing i v)
    → n ≤ length found → Fill n blank Standing found (set_all ms (cleared n blank found))
fill_of ms n blank Standing found r there back h =
    let m = filled ms n blank found r h in
    record {
      stands = λ i v b. (
        λ e. (let (k, j) = m.only i v b e.0 e.1 in back k i v j),
        λ e. (let (k, j) = there i v e in (m.there k i v j, (in_bounds 0 n blank k i v ms r j).2)),
      );
      blanks = λ i b n. m.blanks i b (λ k v j. n v (back k i v j));
      beyond = m.beyond;
      kept = m.kept;
    }

-- and one place has one of them
one_of : (ms : List Mark) (n blank i v v' k k' : ℕ) → Rise 0 n blank ms → MarkIs ms k i v → MarkIs ms k' i v' → (k ≡ k') × (v ≡ v')
one_of ms n blank i v v' k k' r a b =
    let h = one_mark 0 n blank k k' i v v' ms r a b in
    (h, one_value k k' i v v' ms h a b)

module _ (f : Frame) (h : Sound f.kind f.card [] f.items) (e chip c : ℕ) (ys : List Item) (i : ChannelIn f.items e chip c ys) where
  pub sample_rise : Rise 0 512 0xFFFF (sample_marks 0 ys)
  sample_rise =
      samples_rise f.kind f.card _ ys i.card chip c
      (channel_sound f.kind f.card f.items h e chip c ys i)

  -- no two Samples have one time, and none has one after 511
  pub one_sample : (t v v' : ℕ) (a : SampleIn ys t v) (b : SampleIn ys t v') → (sample_ordinal a ≡ sample_ordinal b) × (v ≡ v')
  one_sample t v v' a b = one_of (sample_marks 0 ys) 512 0xFFFF t v v' (sample_ordinal a) (sample_ordinal b) sample_rise (sample_mark ys t v a) (sample_mark ys t v' b)

  pub sample_time : (t v : ℕ) → SampleIn ys t v → t ≤ 511
  sample_time t v a =
      let b : t < 512 = (in_bounds 0 512 0xFFFF (sample_ordinal a) t v (sample_marks 0 ys) sample_rise (sample_mark ys t v a)).1 in
      omega arith

  pub samples_fill : (found : List ℕ) → 512 ≤ length found → Fill 512 0xFFFF (SampleIn ys) found (samples_left (accepted ys) found)
  samples_fill found room =
      subst (Fill 512 0xFFFF (SampleIn ys) found) (sym (samples_filled 0 ys (cleared 512 0xFFFF found)))
      (fill_of (sample_marks 0 ys) 512 0xFFFF (SampleIn ys) found sample_rise
      (λ t v a. (sample_ordinal a, sample_mark ys t v a))
      (λ k t v m. sample_in f.kind f.card i.card chip c k t v _ ys
      (channel_sound f.kind f.card f.items h e chip c ys i) m)
      room)

module _ (f : Frame) (h : Sound f.kind f.card [] f.items) (chip c : ℕ) (ys : List Item) (i : HistogramIn f.items chip c ys) where
  pub bin_rise : Rise 0 4096 0 (bin_marks ys)
  bin_rise = bins_rise f.kind f.card _ ys (histogram_sound f.kind f.card f.items h chip c ys i)

  -- no two Bins have one number
  pub one_bin : (b n n' : ℕ) (x : BinIn ys b n) (y : BinIn ys b n') → (bin_ordinal x ≡ bin_ordinal y) × (n ≡ n')
  one_bin b n n' x y = one_of (bin_marks ys) 4096 0 b n n' (bin_ordinal x) (bin_ordinal y) bin_rise (bin_mark ys b n x) (bin_mark ys b n' y)

  pub bin_number : (b n : ℕ) → BinIn ys b n → b < 4096
  bin_number b n x = (in_bounds 0 4096 0 (bin_ordinal x) b n (bin_marks ys) bin_rise (bin_mark ys b n x)).1

  pub counts_fill : (found : List ℕ) → 4096 ≤ length found → Fill 4096 0 (BinIn ys) found (counts_left (accepted ys) found)
  counts_fill found room =
      subst (Fill 4096 0 (BinIn ys) found) (sym (counts_filled ys (cleared 4096 0 found)))
      (fill_of (bin_marks ys) 4096 0 (BinIn ys) found bin_rise
      (λ b n x. (bin_ordinal x, bin_mark ys b n x))
      (λ k b n m. bin_in k b n ys m)
      room)

-- ---- of an accepted frame

module _ (s : List ℕ) (bs : Bytes s) (f : Frame) (v : verdict s ≡ accepted f) where
  abbrev good : Sound f.kind f.card [] f.items
  good = sounds s bs f v

  pub samples_answer : (e chip c room : ℕ) → 512 ≤ room → (ys : List Item) → (samples_at s e chip c room ≡ accepted ys) ↔ ChannelIn f.items e chip c ys
  samples_answer e chip c room h ys =
      let q = samples_of s f v e chip c room h in (
        λ i. channel_in_lem f.kind f.card f.items good e chip c ys (sym q ∙ i),
        λ i. q ∙ channel_there f.kind f.card f.items good e chip c ys i,
      )

  pub samples_none : (e chip c room : ℕ) → 512 ≤ room → (samples_at s e chip c room ≡ refused 13 0) ↔ ((ys : List Item) → ChannelIn f.items e chip c ys → ⊥)
  samples_none e chip c room h =
      subst (λ (o : Outcome (List Item)). (o ≡ refused 13 0) ↔ ((ys : List Item) → ChannelIn f.items e chip c ys → ⊥)) (sym (samples_of s f v e chip c room h))
      (channel_absent f.kind f.card f.items good e chip c)

  pub one_channel_header : (e chip c : ℕ) (ys ys' : List Item) (a : ChannelIn f.items e chip c ys) (b : ChannelIn f.items e chip c ys')
      → (a.left ≡ b.left) × (ys ≡ ys')
  one_channel_header = one_place f.kind f.card f.items good

  pub samples_lent : (e chip c : ℕ) (ys : List Item) → ChannelIn f.items e chip c ys → (found : List ℕ) → 512 ≤ length found
      → Fill 512 0xFFFF (SampleIn ys) found (samples_left (samples_at s e chip c (length found)) found)
  samples_lent e chip c ys h found room =
      subst (λ (o : Outcome (List Item)). Fill 512 0xFFFF (SampleIn ys) found (samples_left o found))
      (sym ((samples_answer e chip c (length found) room ys).1 h)) (samples_fill f good e chip c ys h found room)

  pub counts_answer : (chip c room : ℕ) → 4096 ≤ room → (ys : List Item) → (counts_at s chip c room ≡ accepted ys) ↔ HistogramIn f.items chip c ys
  counts_answer chip c room h ys =
      let q = counts_of s f v chip c room h in (
        λ i. histogram_in f.kind f.card f.items good chip c ys (sym q ∙ i),
        λ i. q ∙ histogram_there f.kind f.card f.items good chip c ys i,
      )

  pub counts_none : (chip c room : ℕ) → 4096 ≤ room → (counts_at s chip c room ≡ refused 13 0) ↔ ((ys : List Item) → HistogramIn f.items chip c ys → ⊥)
  counts_none chip c room h =
      subst (λ (o : Outcome (List Item)). (o ≡ refused 13 0) ↔ ((ys : List Item) → HistogramIn f.items chip c ys → ⊥)) (sym (counts_of s f v chip c room h))
      (histogram_absent f.kind f.card f.items good chip c)

  pub one_histogram_header : (chip c : ℕ) (ys ys' : List Item) (a : HistogramIn f.items chip c ys) (b : HistogramIn f.items chip c ys') → (a.left ≡ b.left) × (ys ≡ ys')
  one_histogram_header = one_histogram_place f.kind f.card f.items good

  pub counts_lent : (chip c : ℕ) (ys : List Item) → HistogramIn f.items chip c ys → (found : List ℕ) → 4096 ≤ length found
      → Fill 4096 0 (BinIn ys) found (counts_left (counts_at s chip c (length found)) found)
  counts_lent chip c ys h found room =
      subst (λ (o : Outcome (List Item)). Fill 4096 0 (BinIn ys) found (counts_left o found))
      (sym ((counts_answer chip c (length found) room ys).1 h)) (counts_fill f good chip c ys h found room)

  -- a histogram without bins
  pub empty_counts : (chip c : ℕ) (ys : List Item) → HistogramIn f.items chip c ys → ((b n : ℕ) → BinIn ys b n → ⊥) → (found : List ℕ) → 4096 ≤ length found
      → (counts_at s chip c (length found) ≡ accepted ys) × ((b : ℕ) → b < 4096 → get_or (counts_left (counts_at s chip c (length found)) found) b 0 ≡ 0)
  empty_counts chip c ys h n found room =
      ((counts_answer chip c (length found) room ys).1 h, λ b l. (counts_lent chip c ys h found room).blanks b l (n b))
