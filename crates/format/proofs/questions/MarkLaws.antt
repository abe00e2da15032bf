-- Marks, a place and a value each, set in a list whose first places were cleared: where the places rise, each stays as it was set.
-- Assumes nothing.
use Prim.Native.Nat.{ℕ, zero, suc, ◌<◌, ◌≤◌}
use mathlib.Core.Path.{◌≡◌, refl, sym, ap, ◌∙◌}
use mathlib.Core.List.{List, [], ◌∷◌}
use mathlib.Core.Bool.{Bool, true, false}
use mathlib.Core.Option.{some}
use native.Mathlib.Omega.{arith}
use lib.Dec.{eqb}
use lib.ListN.{length, get_or, set, length-set}
use lib.Seq.{get_or-set_same, get_or-set_other}
use borrow.Author.Tests.{eqb-true, eqb-false}
use Rattle.format.specs.Questions.{pick_nth, cleared}
use Rattle.format.proofs.questions.ItemQuestions.{no_some, some_is}

abbrev pub Mark : Type 0
Mark = ℕ × ℕ

unfoldable pub set_all : List Mark → List ℕ → List ℕ
set_all [] l = l
set_all (m ∷ ms) l = set_all ms (set l m.0 m.1)

-- the places rise from lo, stay below hi, and no value is the blank one
unfoldable pub Rise : ℕ → ℕ → ℕ → List Mark → Type 0
Rise lo hi blank [] = Unit {0}
Rise lo hi blank (m ∷ ms) = (lo ≤ m.0) × (m.0 < hi) × (m.1 ≡ blank → ⊥) × Rise (suc m.0) hi blank ms

-- mark k is value v at place i
abbrev pub MarkIs : List Mark → ℕ → ℕ → ℕ → Type 0
MarkIs ms k i v = pick_nth k ms ≡ some (i, v)

pub mark_place : (m : Mark) (i v : ℕ) → some m ≡ some (i, v) → (m.0 ≡ i) × (m.1 ≡ v)
mark_place m i v e = (ap (λ (m : Mark). m.0) (some_is m (i, v) e), ap (λ (m : Mark). m.1) (some_is m (i, v) e))

pub rise_lower : (lo lo' hi blank : ℕ) (ms : List Mark) → lo' ≤ lo → Rise lo hi blank ms → Rise lo' hi blank ms
unfolding Rise
rise_lower lo lo' hi blank [] h r = tt
rise_lower lo lo' hi blank (m ∷ ms) h r = let l : lo ≤ m.0 = r.0 in (omega arith, r.1, r.2, r.3)

-- a mark's place is in the bounds, and its value is not blank
pub in_bounds : (lo hi blank k i v : ℕ) (ms : List Mark) → Rise lo hi blank ms → MarkIs ms k i v → (lo ≤ i) × (i < hi) × (v ≡ blank → ⊥)
unfolding Rise pick_nth
in_bounds lo hi blank k i v [] r e = no_some (i, v) e
in_bounds lo hi blank zero i v (m ∷ ms) r e =
    let (p, q) = mark_place m i v e in
    let a : lo ≤ m.0 = r.0 in
    let b : m.0 < hi = r.1 in
    (omega arith, omega arith, λ z. r.2 (q ∙ z))
in_bounds lo hi blank (suc k) i v (m ∷ ms) r e =
    let (a, b, c) = in_bounds (suc m.0) hi blank k i v ms r.3 e in
    let l : lo ≤ m.0 = r.0 in
    (omega arith, b, c)

-- no two marks have one place
pub one_mark : (lo hi blank k k' i v v' : ℕ) (ms : List Mark) → Rise lo hi blank ms → MarkIs ms k i v → MarkIs ms k' i v' → k ≡ k'
unfolding Rise pick_nth
one_mark lo hi blank k k' i v v' [] r e e' = no_some (i, v) e
one_mark lo hi blank zero zero i v v' (m ∷ ms) r e e' = refl
one_mark lo hi blank zero (suc k') i v v' (m ∷ ms) r e e' =
    let (p, q) = mark_place m i v e in
    let (a, b, c) = in_bounds (suc m.0) hi blank k' i v' ms r.3 e' in
    absurd (omega arith)
one_mark lo hi blank (suc k) zero i v v' (m ∷ ms) r e e' =
    let (p, q) = mark_place m i v' e' in
    let (a, b, c) = in_bounds (suc m.0) hi blank k i v ms r.3 e in
    absurd (omega arith)
one_mark lo hi blank (suc k) (suc k') i v v' (m ∷ ms) r e e' = ap suc (one_mark (suc m.0) hi blank k k' i v v' ms r.3 e e')

pub one_value : (k k' i v v' : ℕ) (ms : List Mark) → k ≡ k' → MarkIs ms k i v → MarkIs ms k' i v' → v ≡ v'
one_value k k' i v v' ms h e e' = (mark_place (i, v) i v' (sym e ∙ ap (λ (k : ℕ). pick_nth k ms) h ∙ e')).1

-- a place is marked or not
pub data Marked (ms : List Mark) (i : ℕ) : Type 0 where
  marked : (k v : ℕ) → MarkIs ms k i v → Marked ms i
  unmarked : ((k v : ℕ) → MarkIs ms k i v → ⊥) → Marked ms i

pub is_marked : (ms : List Mark) (i : ℕ) → Marked ms i
unfolding pick_nth
is_marked [] i = unmarked (λ k v e. no_some (i, v) e)
is_marked (m ∷ ms) i = go (eqb m.0 i) refl (is_marked ms i)
  where
    no_mark : (m.0 ≡ i → ⊥) → ((k v : ℕ) → MarkIs ms k i v → ⊥) → (k v : ℕ) → MarkIs (m ∷ ms) k i v → ⊥
    no_mark d n zero v e = d (mark_place m i v e).0
    no_mark d n (suc k) v e = n k v e

    go : (b : Bool) → eqb m.0 i ≡ b → Marked ms i → Marked (m ∷ ms) i
    go true h r = marked 0 m.1 (ap (λ (j : ℕ). some (j, m.1)) (eqb-true _ _ h))
    go false h (marked k v e) = marked (suc k) v e
    go false h (unmarked n) = unmarked (no_mark (eqb-false _ _ h) n)

-- ---- what the list holds

pub length_all : (ms : List Mark) (l : List ℕ) → length (set_all ms l) ≡ length l
unfolding set_all
length_all [] l = refl
length_all (m ∷ ms) l = length_all ms (set l m.0 m.1) ∙ length-set l m.0 m.1

pub other_place : (ms : List Mark) (l : List ℕ) (i : ℕ) → ((k v : ℕ) → MarkIs ms k i v → ⊥) → get_or (set_all ms l) i 0 ≡ get_or l i 0
unfolding set_all pick_nth
other_place [] l i n = refl
other_place (m ∷ ms) l i n =
    other_place ms (set l m.0 m.1) i (λ k v e. n (suc k) v e)
    ∙ get_or-set_other l m.0 i m.1 0 (λ e. n 0 m.1 (ap (λ (j : ℕ). some (j, m.1)) (sym e)))

pub marked_place : (lo hi blank k i v : ℕ) (ms : List Mark) (l : List ℕ) → Rise lo hi blank ms → hi ≤ length l → MarkIs ms k i v → get_or (set_all ms l) i 0 ≡ v
unfolding set_all Rise pick_nth
marked_place lo hi blank k i v [] l r h e = no_some (i, v) e
marked_place lo hi blank zero i v (m ∷ ms) l r h e =
    let (p, q) = mark_place m i v e in
    let b : m.0 < hi = r.1 in
    let alone : (k w : ℕ) → MarkIs ms k i w → ⊥ =
    λ k w f. (let (a, b, c) = in_bounds (suc m.0) hi blank k i w ms r.3 f in omega arith) in
    other_place ms (set l m.0 m.1) i alone
    ∙ ap (λ (j : ℕ). get_or (set l m.0 m.1) j 0) (sym p)
    ∙ get_or-set_same l m.0 m.1 0 (omega arith) ∙ q
marked_place lo hi blank (suc k) i v (m ∷ ms) l r h e =
    marked_place (suc m.0) hi blank k i v ms (set l m.0 m.1) r.3 (omega (arith, length-set l m.0 m.1)) e

-- the first n places cleared
pub length_cleared : (n v : ℕ) (l : List ℕ) → length (cleared n v l) ≡ length l
unfolding cleared
length_cleared zero v l = refl
length_cleared (suc n) v [] = refl
length_cleared (suc n) v (x ∷ l) = ap suc (length_cleared n v l)

pub cleared_place : (n v : ℕ) (l : List ℕ) (i : ℕ) → n ≤ length l → i < n → get_or (cleared n v l) i 0 ≡ v
unfolding cleared
cleared_place zero v l i h b = absurd (omega arith)
cleared_place (suc n) v [] i h b = absurd (omega arith)
cleared_place (suc n) v (x ∷ l) zero h b = refl
cleared_place (suc n) v (x ∷ l) (suc i) h b = cleared_place n v l i (omega arith) (omega arith)

pub beyond_cleared : (n v : ℕ) (l : List ℕ) (i : ℕ) → n ≤ i → get_or (cleared n v l) i 0 ≡ get_or l i 0
unfolding cleared
beyond_cleared zero v l i h = refl
beyond_cleared (suc n) v [] i h = refl
beyond_cleared (suc n) v (x ∷ l) zero h = absurd (omega arith)
beyond_cleared (suc n) v (x ∷ l) (suc i) h = beyond_cleared n v l i (omega arith)

-- all of it together: what stands in a list whose first n places were cleared and then marked
pub record Filled (ms : List Mark) (n blank : ℕ) (found left : List ℕ) : Type 0 where
  pub there : (k i v : ℕ) → MarkIs ms k i v → get_or left i 0 ≡ v
  pub only : (i v : ℕ) → i < n → get_or left i 0 ≡ v → (v ≡ blank → ⊥) → (k : ℕ) × MarkIs ms k i v
  pub blanks : (i : ℕ) → i < n → ((k v : ℕ) → MarkIs ms k i v → ⊥) → get_or left i 0 ≡ blank
  pub beyond : (i : ℕ) → n ≤ i → get_or left i 0 ≡ get_or found i 0
  pub kept : length left ≡ length found

pub filled : (ms : List Mark) (n blank : ℕ) (found : List ℕ) → Rise 0 n blank ms → n ≤ length found → Filled ms n blank found (set_all ms (cleared n blank found))
filled ms n blank found r h =
    let room : n ≤ length (cleared n blank found) = omega (arith, length_cleared n blank found) in
    let there : (k i v : ℕ) → MarkIs ms k i v → get_or (set_all ms (cleared n blank found)) i 0 ≡ v =
    λ k i v e. marked_place 0 n blank k i v ms (cleared n blank found) r room e in
    let blanks : (i : ℕ) → i < n → ((k v : ℕ) → MarkIs ms k i v → ⊥) → get_or (set_all ms (cleared n blank found)) i 0 ≡ blank =
    λ i b f. other_place ms (cleared n blank found) i f ∙ cleared_place n blank found i h b in
    record {
      there = there;
      only = λ i v b e d. chosen i v b e d (is_marked ms i) there blanks;
      blanks = blanks;
      beyond =
          λ i b. other_place ms (cleared n blank found) i (λ k v e. (let (lo, hi, c) = in_bounds 0 n blank k i v ms r e in omega arith))
          ∙ beyond_cleared n blank found i b;
      kept = length_all ms (cleared n blank found) ∙ length_cleared n blank found;
    }
  where
    left : List ℕ
    left = set_all ms (cleared n blank found)

    chosen : (i v : ℕ) → i < n → get_or left i 0 ≡ v → (v ≡ blank → ⊥) → Marked ms i
        → ((k i v : ℕ) → MarkIs ms k i v → get_or left i 0 ≡ v)
        → ((i : ℕ) → i < n → ((k v : ℕ) → MarkIs ms k i v → ⊥) → get_or left i 0 ≡ blank)
        → (k : ℕ) × MarkIs ms k i v
    chosen i v b e d (marked k w m) there blanks = (k, m ∙ ap (λ (u : ℕ). some (i, u)) (sym (there k i w m) ∙ e))
    chosen i v b e d (unmarked f) there blanks = absurd (d (sym e ∙ blanks i b f))
