-- The rules do not look at a Sample's value or a Bin's count: items that differ in nothing else are allowed, and end a frame, alike.
-- Assumes nothing.
use Prim.Native.Nat.{ℕ, ◌+◌}
use mathlib.Core.Path.{◌≡◌, refl, sym, ap, ap₂, ◌∙◌}
use mathlib.Core.List.{List, [], ◌∷◌, ◌++◌, map}
use mathlib.Core.Bool.{Bool, true, false, ◌&&◌}
use lib.ListN.{length}
use Rattle.format.specs.Words.{pick}
use Rattle.format.specs.Book.{Class}
use Rattle.format.specs.Items.{Item, Channel, Histogram, HitCount, Sample, Bin, LastCell, TimeBin, Text, StartEvent, ContinueEvent, EndEvent, class_for, words_of, in_range}
use Rattle.format.specs.Rules.{Kind, data_kind, monitor_kind, command_kind, same, since, before, count, latest, total, gather, channel_key, histogram_key, bin_number, start_time, between_events, place, may_end, sized, order}
use Rattle.format.specs.Frames.{earlier_then, Allowed, Sound}
use Rattle.format.specs.Spots.{with_value}
use Rattle.format.proofs.book.PrefixLaws.{and_right, and_both}

-- what looks at no Sample's value and no Bin's count says the same of an item with another value
pub blind : {A : Type 0} (g : Item → A) → ((m n : ℕ) → g (Sample m) ≡ g (Sample n)) → ((b m n : ℕ) → g (Bin b m) ≡ g (Bin b n))
    → (x : Item) (v : ℕ) → g (with_value x v) ≡ g x
blind g p q (Channel a b c) v = refl
blind g p q (Histogram a b c) v = refl
blind g p q (HitCount a b c) v = refl
blind g p q (Sample n) v = p v n
blind g p q (Bin b n) v = q b v n
blind g p q (LastCell a b) v = refl
blind g p q (TimeBin t) v = refl
blind g p q (Text s) v = refl
blind g p q (StartEvent t ts n) v = refl
blind g p q (ContinueEvent n) v = refl
blind g p q (EndEvent n) v = refl

-- an item without its value
abbrev pub bare : Item → Item
bare x = with_value x 0

abbrev pub bares : List Item → List Item
bares p = map bare p

pub same_bare : (x : Item) (v : ℕ) → bare (with_value x v) ≡ bare x
same_bare = blind bare (λ m n. refl) (λ b m n. refl)

pub same_class : (x : Item) (v : ℕ) → class_for (with_value x v) ≡ class_for x
same_class = blind class_for (λ m n. refl) (λ b m n. refl)

pub same_width : (x : Item) (v : ℕ) → length (words_of (with_value x v)) ≡ length (words_of x)
unfolding words_of
same_width = blind (λ (x : Item). length (words_of x)) (λ m n. refl) (λ b m n. refl)

-- ---- the earlier items

since_bare : (c : Class) (p : List Item) → since c (bares p) ≡ bares (since c p)
unfolding since
since_bare c [] = refl
since_bare c (x ∷ p) =
    ap (λ (r : List Item). bare x ∷ r)
    (ap₂ (λ (d : Class) (r : List Item). pick (same c d) [] r) (same_class x 0) (since_bare c p) ∙ go (same c (class_for x)))
  where
    go : (b : Bool) → pick b [] (bares (since c p)) ≡ bares (pick b [] (since c p))
    go true = refl
    go false = refl

before_bare : (c : Class) (p : List Item) → before c (bares p) ≡ bares (before c p)
unfolding before
before_bare c [] = refl
before_bare c (x ∷ p) = ap₂ (λ (d : Class) (r : List Item). pick (same c d) (bares p) r) (same_class x 0) (before_bare c p) ∙ go (same c (class_for x))
  where
    go : (b : Bool) → pick b (bares p) (bares (before c p)) ≡ bares (pick b p (before c p))
    go true = refl
    go false = refl

count_bare : (c : Class) (p : List Item) → count c (bares p) ≡ count c p
unfolding count
count_bare c [] = refl
count_bare c (x ∷ p) = ap₂ (λ (d : Class) (n : ℕ). pick (same c d) 1 0 + n) (same_class x 0) (count_bare c p)

total_bare : (p : List Item) → total (bares p) ≡ total p
unfolding total
total_bare [] = refl
total_bare (x ∷ p) = ap₂ ◌+◌ (same_width x 0) (total_bare p)

gather_bare : (g : Item → List ℕ) → ((x : Item) (v : ℕ) → g (with_value x v) ≡ g x) → (p : List Item) → gather g (bares p) ≡ gather g p
unfolding gather
gather_bare g h [] = refl
gather_bare g h (x ∷ p) = ap₂ ◌++◌ (h x 0) (gather_bare g h p)

latest_bare : (p : List Item) → latest (bares p) ≡ latest p
latest_bare [] = refl
latest_bare (x ∷ p) = same_class x 0

behind_bare : (p xs : List Item) → earlier_then (bares p) (bares xs) ≡ bares (earlier_then p xs)
unfolding earlier_then
behind_bare p [] = refl
behind_bare p (x ∷ xs) = behind_bare (x ∷ p) xs

-- what the rules gather
channels_bare : (p : List Item) → gather channel_key (bares p) ≡ gather channel_key p
channels_bare = gather_bare channel_key (blind channel_key (λ m n. refl) (λ b m n. refl))

histograms_bare : (p : List Item) → gather histogram_key (bares p) ≡ gather histogram_key p
histograms_bare = gather_bare histogram_key (blind histogram_key (λ m n. refl) (λ b m n. refl))

bins_bare : (p : List Item) → gather bin_number (bares p) ≡ gather bin_number p
bins_bare = gather_bare bin_number (blind bin_number (λ m n. refl) (λ b m n. refl))

times_bare : (p : List Item) → gather start_time (bares p) ≡ gather start_time p
times_bare = gather_bare start_time (blind start_time (λ m n. refl) (λ b m n. refl))

-- ---- the rules, whatever they make of these

between_bare : (p : List Item) → between_events (bares p) ≡ between_events p
between_bare [] = refl
between_bare (x ∷ p) = refl

ended_bare : (p : List Item) → may_end (bares p) ≡ may_end p
ended_bare p = simp latest_bare

place_bare : (kind : Kind) (c : Class) (p : List Item) → place kind (bares p) c ≡ place kind p c
place_bare data_kind c p = simp (since_bare, count_bare, latest_bare, between_bare)
place_bare monitor_kind c p = simp latest_bare
place_bare command_kind c p = refl

sized_bare : (x : Item) (p : List Item) → sized (bares p) x ≡ sized p x
sized_bare (Channel a b c) p = refl
sized_bare (Histogram a b c) p = refl
sized_bare (HitCount a b c) p = refl
sized_bare (Sample v) p = refl
sized_bare (Bin b n) p = refl
sized_bare (LastCell a b) p = refl
sized_bare (TimeBin t) p = refl
sized_bare (Text s) p = refl
sized_bare (StartEvent t ts n) p = refl
sized_bare (ContinueEvent n) p = refl
sized_bare (EndEvent n) p = simp (since_bare, count_bare, total_bare)

order_bare : (x : Item) (p : List Item) → order (bares p) x ≡ order p x
order_bare (Channel a b c) p = simp (since_bare, channels_bare)
order_bare (Histogram a b c) p = simp histograms_bare
order_bare (HitCount a b c) p = refl
order_bare (Sample v) p = simp (since_bare, count_bare, times_bare)
order_bare (Bin b n) p = simp (since_bare, bins_bare)
order_bare (LastCell a b) p = refl
order_bare (TimeBin t) p = simp (since_bare, before_bare, count_bare, times_bare)
order_bare (Text s) p = refl
order_bare (StartEvent t ts n) p = refl
order_bare (ContinueEvent n) p = refl
order_bare (EndEvent n) p = refl

-- what does not look at values says the same of two lists that differ in nothing else
alike : {A : Type 0} (g : List Item → A) → ((p : List Item) → g (bares p) ≡ g p) → (p q : List Item) → bares p ≡ bares q → g p ≡ g q
alike g h p q e = sym (h p) ∙ ap g e ∙ h q

-- ---- so an item is allowed behind either list, with either value that is in range

module _ (kind : Kind) (card : ℕ) where
  allowed_alike : (p q : List Item) (x : Item) → bares q ≡ bares p → Allowed kind card p x → Allowed kind card q x
  allowed_alike p q x e a =
      record {
        placed = alike (λ (r : List Item). place kind r (class_for x)) (place_bare kind (class_for x)) q p e ∙ a.placed;
        valued = ap (λ (b : Bool). in_range card x && b) (alike (λ (r : List Item). sized r x) (sized_bare x) q p e) ∙ a.valued;
        ordered = alike (λ (r : List Item). order r x) (order_bare x) q p e ∙ a.ordered;
      }

  allowed_with : (p : List Item) (x : Item) (v : ℕ) → in_range card (with_value x v) ≡ true → Allowed kind card p x → Allowed kind card p (with_value x v)
  allowed_with p x v r a =
      record {
        placed = ap (place kind p) (same_class x v) ∙ a.placed;
        valued = and_both _ _ r (blind (sized p) (λ m n. refl) (λ b m n. refl) x v ∙ and_right (in_range card x) (sized p x) a.valued);
        ordered = blind (order p) (λ m n. refl) (λ b m n. refl) x v ∙ a.ordered;
      }

  sound_alike : (xs p q : List Item) → bares q ≡ bares p → Sound kind card p xs → Sound kind card q xs
  unfolding Sound
  sound_alike [] p q e s = tt
  sound_alike (x ∷ xs) p q e s = (allowed_alike p q x e s.0, sound_alike xs (x ∷ p) (x ∷ q) (ap (λ (r : List Item). bare x ∷ r) e) s.1)

  -- a sound list with another value, in range, in one of its items is sound
  pub sound_with : (before : List Item) (x : Item) (after : List Item) (v : ℕ) (p : List Item) → in_range card (with_value x v) ≡ true
      → Sound kind card p (before ++ (x ∷ after)) → Sound kind card p (before ++ (with_value x v ∷ after))
  unfolding Sound
  sound_with [] x after v p r s =
      (allowed_with p x v r s.0, sound_alike after (x ∷ p) (with_value x v ∷ p) (ap (λ (y : Item). y ∷ bares p) (same_bare x v)) s.1)
  sound_with (y ∷ before) x after v p r s = (s.0, sound_with before x after v (y ∷ p) r s.1)

-- and may end where it may end
bares_with : (before : List Item) (x : Item) (after : List Item) (v : ℕ) → bares (before ++ (with_value x v ∷ after)) ≡ bares (before ++ (x ∷ after))
bares_with [] x after v = ap (λ (y : Item). y ∷ bares after) (same_bare x v)
bares_with (y ∷ before) x after v = ap (λ (l : List Item). bare y ∷ l) (bares_with before x after v)

pub ended_with : (before : List Item) (x : Item) (after : List Item) (v : ℕ)
    → may_end (earlier_then [] (before ++ (with_value x v ∷ after))) ≡ may_end (earlier_then [] (before ++ (x ∷ after)))
ended_with before x after v =
    alike may_end ended_bare (earlier_then [] (before ++ (with_value x v ∷ after))) (earlier_then [] (before ++ (x ∷ after)))
    (sym (behind_bare [] (before ++ (with_value x v ∷ after))) ∙ ap (earlier_then []) (bares_with before x after v) ∙ behind_bare [] (before ++ (x ∷ after)))
