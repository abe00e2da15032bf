-- The items q of a frame behind the earlier items p of its run, both latest first: what the rules see of the two together.
-- Assumes nothing.
use Prim.Native.Nat.{ℕ, zero, suc, ◌+◌, ◌≤◌, max}
use mathlib.Core.Path.{◌≡◌, refl, sym, ap, ◌∙◌}
use mathlib.Core.List.{List, [], ◌∷◌, ◌++◌, append_assoc}
use mathlib.Core.Bool.{Bool, true, false, ◌&&◌}
use native.Mathlib.Omega.{arith}
use lib.Dec.{leb, ltb}
use borrow.Author.Tests.{leb-true, le-leb}
use Rattle.format.specs.Words.{pick}
use Rattle.format.specs.Book.{Class, start_event, end_event}
use Rattle.format.specs.Items.{Item, class_for}
use Rattle.format.specs.Rules.{same, since, count, total, gather, above, begun}
use Rattle.format.specs.Frames.{earlier_then}
use Rattle.format.specs.Steps.{above_all}
use Rattle.format.proofs.rules.SoundLaws.{tally, tally_zero, count_append}

pub behind_both : (q p xs : List Item) → earlier_then (q ++ p) xs ≡ earlier_then q xs ++ p
unfolding earlier_then
behind_both q p [] = refl
behind_both q p (x ∷ xs) = behind_both (x ∷ q) p xs

pub behind_front : (p xs : List Item) → earlier_then p xs ≡ earlier_then [] xs ++ p
behind_front p xs = behind_both [] p xs

pub gather_append : (g : Item → List ℕ) (q p : List Item) → gather g (q ++ p) ≡ gather g q ++ gather g p
unfolding gather
gather_append g [] p = refl
gather_append g (x ∷ q) p = ap (λ (l : List ℕ). g x ++ l) (gather_append g q p) ∙ sym (append_assoc (g x) (gather g q) (gather g p))

pub total_append : (q p : List Item) → total (q ++ p) ≡ total q + total p
unfolding total
total_append [] p = omega arith
total_append (x ∷ q) p = omega (arith, total_append q p)

-- ---- since the latest item of a class: where q has none it is of p, else it is of q

pub since_none : (c : Class) (q p : List Item) → count c q ≡ 0 → since c (q ++ p) ≡ q ++ since c p
unfolding since count
since_none c [] p n = refl
since_none c (x ∷ q) p n =
    rw (tally_zero (same c (class_for x)) (omega arith)) (ap (λ (l : List Item). x ∷ l) (since_none c q p (omega arith)))

pub since_all : (c : Class) (q : List Item) → count c q ≡ 0 → since c q ≡ q
unfolding since count
since_all c [] n = refl
since_all c (x ∷ q) n = rw (tally_zero (same c (class_for x)) (omega arith)) (ap (λ (l : List Item). x ∷ l) (since_all c q (omega arith)))

pub since_some : (c : Class) (q p : List Item) → 1 ≤ count c q → since c (q ++ p) ≡ since c q
unfolding since count
since_some c [] p n = absurd (omega arith)
since_some c (x ∷ q) p n = go (same c (class_for x)) refl (since_some c q p)
  where
    go : (b : Bool) → same c (class_for x) ≡ b → (1 ≤ count c q → since c (q ++ p) ≡ since c q)
        → ◌≡◌ {A = List Item} (x ∷ pick (same c (class_for x)) [] (since c (q ++ p))) (x ∷ pick (same c (class_for x)) [] (since c q))
    go true e h = rw e
    go false e h = rw e (ap (λ (l : List Item). x ∷ l) (h (let a : tally (same c (class_for x)) ≡ 0 = rw e in omega arith)))

-- ---- an event that began, and is open

pub begun_none : (q p : List Item) → count start_event q ≡ 0 → count end_event q ≡ 0 → begun (q ++ p) ≡ begun p
begun_none q p s e =
    let n : count start_event (q ++ since end_event p) ≡ count start_event (since end_event p) = count_append start_event q (since end_event p) ∙ omega arith in
    ap (λ (l : List Item). leb 1 (count start_event l)) (since_none end_event q p e) ∙ ap (λ (k : ℕ). leb 1 k) n

pub begun_ended : (q p : List Item) → 1 ≤ count end_event q → begun (q ++ p) ≡ begun q
begun_ended q p e = ap (λ (l : List Item). leb 1 (count start_event l)) (since_some end_event q p e)

pub begun_some : (q p : List Item) → 1 ≤ count start_event q → begun (q ++ p) ≡ begun q
begun_some q p s = go (count end_event q) refl
  where
    go : (n : ℕ) → count end_event q ≡ n → begun (q ++ p) ≡ begun q
    go zero e =
        let a : count start_event (q ++ since end_event p) ≡ count start_event q + count start_event (since end_event p) = count_append start_event q (since end_event p) in
        ap (λ (l : List Item). leb 1 (count start_event l)) (since_none end_event q p e)
        ∙ le-leb 1 (count start_event (q ++ since end_event p)) (omega arith)
        ∙ sym (ap (λ (l : List Item). leb 1 (count start_event l)) (since_all end_event q e) ∙ le-leb 1 (count start_event q) s)
    go (suc n) e = begun_ended q p (omega arith)

pub count_since : (c d : Class) (p : List Item) → count d (since c p) ≤ count d p
unfolding since count
count_since c d [] = omega arith
count_since c d (x ∷ p) = go (same c (class_for x)) (count_since c d p)
  where
    go : (b : Bool) → count d (since c p) ≤ count d p → tally (same d (class_for x)) + count d (pick b [] (since c p)) ≤ tally (same d (class_for x)) + count d p
    go true h = omega arith
    go false h = omega arith

pub begun_count : (p : List Item) → begun p ≡ true → 1 ≤ count start_event p
begun_count p b = let h = leb-true 1 (count start_event (since end_event p)) b in omega (arith, count_since end_event start_event p)

-- ---- numbers above all of some

pub above_append : (k : ℕ) (a b : List ℕ) → above k (a ++ b) ≡ above k a && above k b
unfolding above
above_append k [] b = refl
above_append k (n ∷ a) b = ap (λ (t : Bool). ltb n k && t) (above_append k a b) ∙ and_assoc (ltb n k) (above k a) (above k b)
  where
    and_assoc : (x y z : Bool) → x && (y && z) ≡ x && y && z
    and_assoc true y z = refl
    and_assoc false y z = refl

pub above_all_append : (a b : List ℕ) → above_all (a ++ b) ≡ max (above_all a) (above_all b)
unfolding above_all
above_all_append [] b = omega arith
above_all_append (n ∷ a) b = omega (arith, above_all_append a b)
