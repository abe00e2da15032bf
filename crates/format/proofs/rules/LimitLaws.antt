-- The limits of the tree are those of the value rules, class by class; and an item within them fits its fields.
-- Assumes nothing.
use Prim.Native.Nat.{ℕ, suc, ◌<◌, ◌≤◌}
use mathlib.Core.Path.{◌≡◌, refl, sym, ap, subst}
use mathlib.Core.List.{List, [], ◌∷◌}
use mathlib.Core.Logic.{◌↔◌}
use mathlib.Core.Bool.{Bool, true, false, ◌&&◌}
use native.Mathlib.Omega.{arith}
use lib.Dec.{leb, ltb, eqb}
use lib.Pow.{are_bytes}
use borrow.Author.Tests.{leb-true, le-leb, eqb-true, eq-eqb, ltb-true, lt-ltb}
use Rattle.format.specs.Words.{non_zero}
use Rattle.format.specs.Items.{Item, Channel, Histogram, HitCount, Sample, Bin, LastCell, TimeBin, Text, StartEvent, ContinueEvent, EndEvent, fits, obeys, in_range}
use Rattle.format.specs.Rules.{Kind, sized}
use Rattle.format.specs.Frames.{Allowed}
use Rattle.format.specs.Tree.{Letters, Limits}
use Rattle.format.proofs.book.PrefixLaws.{and_left, and_right, and_both}

-- a test that holds exactly where a proposition does
abbrev Tells : Bool → Type 0 → Type 0
Tells b P = (b ≡ true) ↔ P

equal : (m n : ℕ) → Tells (eqb m n) (m ≡ n)
equal m n = (eqb-true m n, eq-eqb m n)

most : (m n : ℕ) → Tells (leb m n) (m ≤ n)
most m n = (leb-true m n, le-leb m n)

below : (m n : ℕ) → Tells (ltb m n) (m < n)
below m n = (ltb-true m n, lt-ltb m n)

-- below a number is at most the one before it
most_below : (m n : ℕ) → Tells (leb m n) (m < suc n)
most_below m n = (λ e. omega (arith, leb-true m n e), λ h. le-leb m n (omega arith))

two : {a b : Bool} {P Q : Type 0} → Tells a P → Tells b Q → Tells (a && b) (P × Q)
two {a} {b} p q = (λ e. (p.0 (and_left a b e), q.0 (and_right a b e)), λ h. and_both a b (p.1 h.0) (q.1 h.1))

three : {a b c : Bool} {P Q R : Type 0} → Tells a P → Tells b Q → Tells c R → Tells (a && b && c) (P × Q × R)
three {a} {b} {c} p q r =
    let pq = two p q in
    (λ e. let (i, j) = pq.0 (and_left (a && b) c e) in (i, j, r.0 (and_right (a && b) c e)), λ h. and_both (a && b) c (pq.1 (h.0, h.1)) (r.1 h.2))

-- a header's fields, of which the last has a limit below its width
header : {card a b c m k last wide : ℕ} → last ≤ wide
    → Tells (eqb a card && leb c last && (leb a m && leb b k && leb c wide)) ((a ≡ card) × (a ≤ m) × (b ≤ k) × (c ≤ last))
header {card} {a} {b} {c} {m} {k} {last} {wide} h =
    let t = two (two (equal a card) (most c last)) (three (most a m) (most b k) (most c wide)) in
    (λ e. let (r, f) = t.0 e in (r.0, f.0, f.1, r.1), λ l. t.1 ((l.0, l.3), (l.1, l.2, omega (arith, l.3))))

letters : (s : List ℕ) → Tells (non_zero s && are_bytes s) (Letters s)
unfolding non_zero Letters
letters [] = (λ e. tt, λ h. refl)
letters (b ∷ s) = (
  λ e.
      let p = and_left (leb 1 b && non_zero s) (ltb b 256 && are_bytes s) e in
      let q = and_right (leb 1 b && non_zero s) (ltb b 256 && are_bytes s) e in (
        leb-true 1 b (and_left (leb 1 b) (non_zero s) p),
        omega (arith, ltb-true b 256 (and_left (ltb b 256) (are_bytes s) q)),
        (letters s).0 (and_both _ _ (and_right (leb 1 b) (non_zero s) p) (and_right (ltb b 256) (are_bytes s) q)),
      ),
  λ h.
      let r = (letters s).1 h.2 in
      and_both _ _ (and_both _ _ (le-leb 1 b h.0) (and_left (non_zero s) (are_bytes s) r)) (and_both _ _ (lt-ltb b 256 (omega (arith, h.1))) (and_right (non_zero s) (are_bytes s) r)),
)

regrouped : (a b c : Bool) → a && (b && c) ≡ a && b && c
regrouped true b c = refl
regrouped false b c = refl

with_letters : {a : Bool} {P : Type 0} (s : List ℕ) → Tells a P → Tells (a && non_zero s && are_bytes s) (P × Letters s)
with_letters {a} {P} s p = subst (λ (b : Bool). Tells b (P × Letters s)) (regrouped a (non_zero s) (are_bytes s)) (two p (letters s))

-- a bin's number and count: the number fits its field, the count has a limit before its width
counted : {a b c : Bool} {P Q R : Type 0} → Tells a P → Tells b Q → Tells c R → Tells (b && (a && c)) (P × Q × R)
counted p q r = let t = two q (two p r) in (λ e. let (i, f) = t.0 e in (f.0, i, f.1), λ h. t.1 (h.1, (h.0, h.2)))

pub limits : (card : ℕ) (x : Item) → Tells (in_range card x) (Limits card x)
limits card (Channel a b c) = header (omega arith)
limits card (Histogram a b c) = header (omega arith)
limits card (HitCount a b c) = header (omega arith)
limits card (Sample v) = most _ _
limits card (Bin b n) = counted (most _ _) (most _ _) (below _ _)
limits card (LastCell a b) = two (most _ _) (most _ _)
limits card (TimeBin t) = most _ _
limits card (Text s) = with_letters s (most _ _)
limits card (StartEvent t ts n) = three (most _ _) (most_below _ _) (below _ _)
limits card (ContinueEvent n) = below _ _
limits card (EndEvent n) = below _ _

-- so those of an allowed item hold
pub allowed_limits : (kind : Kind) (card : ℕ) (p : List Item) (x : Item) → Allowed kind card p x → Limits card x
allowed_limits kind card p x a = (limits card x).0 (and_left (in_range card x) (sized p x) a.valued)

-- an item within its limits fits its fields
pub range_fits : (card : ℕ) (x : Item) → in_range card x ≡ true → fits x ≡ true
range_fits card x e = and_right (obeys card x) (fits x) e

-- of a last field that has a limit below its width the limit alone need be tested
narrower : (a b : Bool) (c last wide : ℕ) → last ≤ wide → a && b && leb c last ≡ leb c last && (a && b && leb c wide)
narrower a b c last wide h = go (leb c last) refl
  where
    none : (a b : Bool) → a && b && false ≡ false
    none true true = refl
    none true false = refl
    none false b = refl

    go : (t : Bool) → leb c last ≡ t → a && b && t ≡ t && (a && b && leb c wide)
    go true e = ap (λ (t : Bool). a && b && t) (sym (le-leb c wide (omega (arith, leb-true c last e))))
    go false e = none a b

pub header_valid : (card a b c m k last wide : ℕ) → a ≡ card → last ≤ wide
    → leb a m && leb b k && leb c last ≡ eqb a card && leb c last && (leb a m && leb b k && leb c wide)
header_valid card a b c m k last wide e h = rw (eq-eqb a card e) (narrower (leb a m) (leb b k) c last wide h)
