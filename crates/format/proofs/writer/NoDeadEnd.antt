-- T16. A list of items is sound exactly where some continuation makes it one that may end; the frame's length apart, so that the continuation may
-- pass 8,192 bytes. It is: after Channel a Time bin and a Sample, after Time bin a Sample, else nothing.
-- Assumes nothing.
use Prim.Native.Nat.{ℕ, ◌+◌, ◌≤◌}
use mathlib.Core.Path.{◌≡◌, refl, sym, ap, subst, ◌∙◌}
use mathlib.Core.List.{List, [], ◌∷◌}
use mathlib.Core.Logic.{◌↔◌}
use mathlib.Core.Bool.{true}
use native.Mathlib.Omega.{arith}
use lib.Dec.{leb}
use lib.ListN.{length, length-append}
use borrow.Author.Tests.{leb-true, le-leb}
use Rattle.format.specs.Words.{Bytes}
use Rattle.format.specs.Answers.{accepted}
use Rattle.format.specs.Book.{channel, time_bin}
use Rattle.format.specs.Items.{Item, Channel, Histogram, HitCount, Sample, Bin, LastCell, TimeBin, Text, StartEvent, ContinueEvent, EndEvent, words_of}
use Rattle.format.specs.Rules.{Kind, data_kind, since, count, total, gather, in_event, time, may_end}
use Rattle.format.specs.Frames.{earlier_then, Allowed, Sound, all_words}
use Rattle.format.specs.Writing.{Partial, partial_verdict}
use Rattle.format.specs.WriterCases.{Ends}
use Rattle.format.proofs.book.PrefixLaws.{and_left}
use Rattle.format.proofs.verdict.Acceptance.{in_order}
use Rattle.format.proofs.writer.PartialLaws.{partial_sound}
use Rattle.format.proofs.rules.SoundLaws.{behind_append, sound_left, inside_place, stays_open}
use Rattle.format.proofs.writer.JoinLaws.{sound_join, sound_one, sound_more}

-- ---- what a sound list keeps

module _ (kind : Kind) (card : ℕ) where
  pub sound_keeps : (P : List Item → Type 0) → ((p : List Item) (x : Item) → P p → Allowed kind card p x → P (x ∷ p))
      → (p xs : List Item) → P p → Sound kind card p xs → P (earlier_then p xs)
  unfolding Sound earlier_then
  sound_keeps P step p [] h s = h
  sound_keeps P step p (x ∷ xs) h s = sound_keeps P step (x ∷ p) xs (step p x h s.0) s.1

-- the words of the items behind p
pub total_behind : (p xs : List Item) → total (earlier_then p xs) ≡ total p + length (all_words xs)
unfolding earlier_then total all_words
total_behind p [] = omega arith
total_behind p (x ∷ xs) = omega (arith, total_behind (x ∷ p) xs, length-append (words_of x) (all_words xs))

pub total_nil : total [] ≡ 0
unfolding total
total_nil = refl

-- ---- the continuation

-- the latest item was allowed
Stood : Kind → ℕ → List Item → Type 0
Stood kind card [] = Unit {0}
Stood kind card (x ∷ p) = Allowed kind card p x

module _ (card : ℕ) where
  Continued : Kind → List Item → Type 0
  Continued kind p = (ys : List Item) × Sound kind card p ys × (may_end (earlier_then p ys) ≡ true)

  as_it_stands : (kind : Kind) (p : List Item) → may_end p ≡ true → Continued kind p
  unfolding earlier_then Sound Continued
  as_it_stands kind p e = ([], tt, e)

  first_sample : (t : ℕ) (p : List Item) → t ≤ 511 → in_event (TimeBin t ∷ p) ≡ true → Allowed data_kind card (TimeBin t ∷ p) (Sample 0)
  unfolding since count gather
  first_sample t p h e = record { placed = rw e; valued = refl; ordered = le-leb (time (TimeBin t ∷ p)) 511 (omega arith) }

  first_time : (a b c : ℕ) (p : List Item) → in_event (Channel a b c ∷ p) ≡ true → Allowed data_kind card (Channel a b c ∷ p) (TimeBin 0)
  unfolding since count
  first_time a b c p e = record { placed = rw e; valued = refl; ordered = refl }

  after_time : (t : ℕ) (p : List Item) → t ≤ 511 → in_event (TimeBin t ∷ p) ≡ true → Continued data_kind (TimeBin t ∷ p)
  unfolding earlier_then Continued
  after_time t p h e = (Sample 0 ∷ [], sound_one data_kind card (TimeBin t ∷ p) (Sample 0) (first_sample t p h e), refl)

  after_channel : (a b c : ℕ) (p : List Item) → in_event (Channel a b c ∷ p) ≡ true → Continued data_kind (Channel a b c ∷ p)
  unfolding earlier_then Continued count
  after_channel a b c p e =
      let (ys, s, m) = after_time 0 (Channel a b c ∷ p) (omega arith) (stays_open (Channel a b c ∷ p) (TimeBin 0 ∷ []) e refl) in
      (TimeBin 0 ∷ ys, sound_more data_kind card (Channel a b c ∷ p) (TimeBin 0) ys (first_time a b c p e) s, m)

  -- a Channel or a Time bin stands in an event, which it leaves open
  channel_open : (kind : Kind) (a b c : ℕ) (p : List Item) → Allowed kind card p (Channel a b c) → (kind ≡ data_kind) × (in_event (Channel a b c ∷ p) ≡ true)
  unfolding earlier_then count
  channel_open kind a b c p h =
      let (d, e) = inside_place kind p channel refl refl refl refl h.placed in
      (d, stays_open p (Channel a b c ∷ []) e refl)

  time_open : (kind : Kind) (t : ℕ) (p : List Item) → Allowed kind card p (TimeBin t) → (kind ≡ data_kind) × (in_event (TimeBin t ∷ p) ≡ true)
  unfolding earlier_then count
  time_open kind t p h =
      let (d, e) = inside_place kind p time_bin refl refl refl refl h.placed in
      (d, stays_open p (TimeBin t ∷ []) e refl)

  continued : (kind : Kind) (p : List Item) → Stood kind card p → Continued kind p
  unfolding Stood
  continued kind [] h = as_it_stands kind [] refl
  continued kind (Channel a b c ∷ p) h =
      let (d, e) = channel_open kind a b c p h in
      subst (λ (k : Kind). Continued k (Channel a b c ∷ p)) (sym d) (after_channel a b c p e)
  continued kind (TimeBin t ∷ p) h =
      let (d, e) = time_open kind t p h in
      subst (λ (k : Kind). Continued k (TimeBin t ∷ p)) (sym d) (after_time t p (leb-true t 511 (and_left (leb t 511) true h.valued)) e)
  continued kind (HitCount x y z ∷ p) h = as_it_stands kind (HitCount x y z ∷ p) refl
  continued kind (Histogram x y z ∷ p) h = as_it_stands kind (Histogram x y z ∷ p) refl
  continued kind (Sample v ∷ p) h = as_it_stands kind (Sample v ∷ p) refl
  continued kind (Bin x y ∷ p) h = as_it_stands kind (Bin x y ∷ p) refl
  continued kind (LastCell x y ∷ p) h = as_it_stands kind (LastCell x y ∷ p) refl
  continued kind (Text s ∷ p) h = as_it_stands kind (Text s ∷ p) refl
  continued kind (StartEvent x y z ∷ p) h = as_it_stands kind (StartEvent x y z ∷ p) refl
  continued kind (ContinueEvent n ∷ p) h = as_it_stands kind (ContinueEvent n ∷ p) refl
  continued kind (EndEvent n ∷ p) h = as_it_stands kind (EndEvent n ∷ p) refl

-- ---- T16

ends : (kind : Kind) (card : ℕ) (xs : List Item) → Sound kind card [] xs → Ends kind card xs
unfolding Continued Stood
ends kind card xs s =
    let (ys, t, m) = continued card kind (earlier_then [] xs) (sound_keeps kind card (Stood kind card) (λ p x h a. a) [] xs tt s) in
    record { more = ys; sound = sound_join kind card [] xs ys s t; ended = ap may_end (behind_append [] xs ys) ∙ m }

pub no_dead_end : (kind : Kind) (card : ℕ) (xs : List Item) → Sound kind card [] xs ↔ Ends kind card xs
no_dead_end kind card xs = (ends kind card xs, λ e. sound_left kind card [] xs e.more e.sound)

-- and so an accepted partial frame
pub partial_ends : (buf : List ℕ) → Bytes buf → (n : ℕ) (f : Partial) → partial_verdict buf n ≡ accepted f → Ends f.kind f.card (earlier_then [] f.earlier)
partial_ends buf bs n f e =
    let (xs, b) = partial_sound buf bs n f e in
    subst (Ends f.kind f.card) (sym (ap (earlier_then []) b.earlier ∙ in_order xs)) (ends f.kind f.card xs b.sound)
