-- In a sound list the headers rise: Channel headers in one event, Histogram headers in a frame. So no two headers have one chip and channel.
-- Assumes nothing.
use Prim.Native.Nat.{ℕ, ◌<◌}
use mathlib.Core.Path.{◌≡◌, sym, subst}
use mathlib.Core.List.{List, [], ◌∷◌, ◌++◌}
use mathlib.Core.Bool.{Bool, true}
use native.Mathlib.Omega.{arith}
use lib.Dec.{ltb}
use borrow.Author.Tests.{ltb-true}
use Rattle.format.specs.Words.{pick}
use Rattle.format.specs.Book.{Class, start_event}
use Rattle.format.specs.Items.{Item, Channel, Histogram, class_for, key}
use Rattle.format.specs.Rules.{Kind, same, since, count, gather, channel_key, histogram_key, above}
use Rattle.format.specs.Frames.{Sound, earlier_then}
use Rattle.format.proofs.book.PrefixLaws.{and_left, and_right}
use Rattle.format.proofs.rules.LimitLaws.{allowed_limits}
use Rattle.format.proofs.rules.SoundLaws.{tally, tally_zero, sound_right, sound_head, sound_tail}

-- whatever is above all of these is above k
abbrev Higher : ℕ → List ℕ → Type 0
Higher k l = (m : ℕ) → above m l ≡ true → k < m

higher_here : (k : ℕ) (l : List ℕ) → Higher k (k ∷ l)
unfolding above
higher_here k l m e = ltb-true k m (and_left (ltb k m) (above m l) e)

higher_behind : (k : ℕ) (a l : List ℕ) → Higher k l → Higher k (a ++ l)
unfolding above
higher_behind k [] l h m e = h m e
higher_behind k (n ∷ a) l h m e = higher_behind k a l h m (and_right (ltb n m) (above m (a ++ l)) e)

-- it stays so behind items that do not begin the count anew
module _ (g : Item → List ℕ) where
  pub higher_since : (c : Class) (k : ℕ) (p xs : List Item) → count c xs ≡ 0 → Higher k (gather g (since c p)) → Higher k (gather g (since c (earlier_then p xs)))
  unfolding earlier_then count since gather
  higher_since c k p [] n h = h
  higher_since c k p (x ∷ xs) n h =
      let a : tally (same c (class_for x)) ≡ 0 = omega arith in
      higher_since c k (x ∷ p) xs (omega arith)
      (subst (λ (b : Bool). Higher k (g x ++ gather g (pick b [] (since c p)))) (sym (tally_zero (same c (class_for x)) a)) (higher_behind k (g x) (gather g (since c p)) h))

  pub higher_all : (k : ℕ) (p xs : List Item) → Higher k (gather g p) → Higher k (gather g (earlier_then p xs))
  unfolding earlier_then gather
  higher_all k p [] h = h
  higher_all k p (x ∷ xs) h = higher_all k (x ∷ p) xs (higher_behind k (g x) (gather g p) h)

module _ (kind : Kind) (card : ℕ) where
  -- "Channel headers in one event rise": of two with no Start event between them
  pub channels_rise : (p m r : List Item) (a b c a' b' c' : ℕ) → count start_event m ≡ 0
      → Sound kind card p (Channel a b c ∷ (m ++ (Channel a' b' c' ∷ r))) → key a b c < key a' b' c'
  unfolding since gather
  channels_rise p m r a b c a' b' c' n s =
      let t = sound_tail kind card p (Channel a b c) (m ++ (Channel a' b' c' ∷ r)) s in
      let u = sound_head kind card _ _ _ (sound_right kind card (Channel a b c ∷ p) m (Channel a' b' c' ∷ r) t) in
      higher_since channel_key start_event (key a b c) (Channel a b c ∷ p) m n (higher_here (key a b c) (gather channel_key (since start_event p))) (key a' b' c') u.ordered

  -- "so do Histogram headers in a frame"
  pub histograms_rise : (p m r : List Item) (a b c a' b' c' : ℕ)
      → Sound kind card p (Histogram a b c ∷ (m ++ (Histogram a' b' c' ∷ r))) → key a b c < key a' b' c'
  unfolding gather
  histograms_rise p m r a b c a' b' c' s =
      let t = sound_tail kind card p (Histogram a b c) (m ++ (Histogram a' b' c' ∷ r)) s in
      let u = sound_head kind card _ _ _ (sound_right kind card (Histogram a b c ∷ p) m (Histogram a' b' c' ∷ r) t) in
      higher_all histogram_key (key a b c) (Histogram a b c ∷ p) m (higher_here (key a b c) (gather histogram_key p)) (key a' b' c') u.ordered

  -- so that one chip and channel has one header
  pub one_channel : (p m r : List Item) (a a' chip c : ℕ) → count start_event m ≡ 0
      → Sound kind card p (Channel a chip c ∷ (m ++ (Channel a' chip c ∷ r))) → ⊥
  one_channel p m r a a' chip c n s =
      let h = sound_head kind card _ _ _ s in
      let t = sound_tail kind card p (Channel a chip c) (m ++ (Channel a' chip c ∷ r)) s in
      let u = sound_head kind card _ _ _ (sound_right kind card (Channel a chip c ∷ p) m (Channel a' chip c ∷ r) t) in
      let i : a ≡ card = (allowed_limits kind card _ (Channel a chip c) h).0 in
      let j : a' ≡ card = (allowed_limits kind card _ (Channel a' chip c) u).0 in
      omega (arith, channels_rise p m r a chip c a' chip c n s)

  pub one_histogram : (p m r : List Item) (a a' chip c : ℕ)
      → Sound kind card p (Histogram a chip c ∷ (m ++ (Histogram a' chip c ∷ r))) → ⊥
  one_histogram p m r a a' chip c s =
      let h = sound_head kind card _ _ _ s in
      let t = sound_tail kind card p (Histogram a chip c) (m ++ (Histogram a' chip c ∷ r)) s in
      let u = sound_head kind card _ _ _ (sound_right kind card (Histogram a chip c ∷ p) m (Histogram a' chip c ∷ r) t) in
      let i : a ≡ card = (allowed_limits kind card _ (Histogram a chip c) h).0 in
      let j : a' ≡ card = (allowed_limits kind card _ (Histogram a' chip c) u).0 in
      omega (arith, histograms_rise p m r a chip c a' chip c s)
