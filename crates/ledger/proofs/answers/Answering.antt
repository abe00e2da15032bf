-- Lists of tests, and answers in their order: what follows where all hold, and where one is the first to refuse.
-- Assumes nothing.
use Prim.Native.Nat.{ℕ, zero, suc, ◌<◌}
use mathlib.Core.Path.{◌≡◌, refl}
use mathlib.Core.Bool.{Bool, true, false, ◌&&◌}
use mathlib.Core.List.{List, [], ◌∷◌}
use native.Mathlib.Omega.{arith}
use lib.ListN.{get_or}
use Rattle.format.specs.Answers.{Outcome, accepted, refused, Done, need, first_of, leaves}
use Rattle.format.proofs.book.PrefixLaws.{and_left, and_right}
use Rattle.ledger.specs.Tests.{all, all_from, FirstRefusal}

-- ---- tests
all_first : (a : Bool) (ts : List Bool) → all_from a ts ≡ true → a ≡ true
all_first a [] h = h
all_first a (t ∷ ts) h = and_left a t (all_first (a && t) ts h)

all_from_lem : (a : Bool) (ts : List Bool) (i : ℕ) → all_from a ts ≡ true → get_or ts i true ≡ true
all_from_lem a [] i h = refl
all_from_lem a (t ∷ ts) zero h = and_right a t (all_first (a && t) ts h)
all_from_lem a (t ∷ ts) (suc i) h = all_from_lem (a && t) ts i h

-- the test at place i, from 0, of tests that all hold
pub all_at : (ts : List Bool) (i : ℕ) → all ts ≡ true → get_or ts i true ≡ true
unfolding all
all_at ts i h = all_from_lem true ts i h

-- ---- answers
pub need_holds : (t : Bool) (n p : ℕ) → need t n p ≡ accepted tt → t ≡ true
need_holds true n p e = refl
need_holds false n p e = let z : refused n p ≡ accepted tt = e in let y : ◌≡◌ {A = ℕ} 0 1 = cc in absurd (omega arith)

pub need_refuses : (t : Bool) (n p m q : ℕ) → need t n p ≡ refused m q → (t ≡ false) × (n ≡ m) × (p ≡ q)
need_refuses true n p m q e = let y : ◌≡◌ {A = ℕ} 0 1 = cc in absurd (omega arith)
need_refuses false n p m q e = (refl, cc, cc)

-- no answer is both
pub not_both : {A : Type 0} (o : Outcome A) (a : A) (n p : ℕ) → o ≡ accepted a → o ≡ refused n p → ⊥
not_both o a n p e f = let y : ◌≡◌ {A = ℕ} 0 1 = cc in omega arith

-- a refused call leaves what it found, an accepted one what it writes
pub leaves_found : {A B : Type 0} (o : Outcome A) (x y : B) (n p : ℕ) → o ≡ refused n p → leaves o x y ≡ x
leaves_found o x y n p e = rw e

pub leaves_written : {A B : Type 0} (o : Outcome A) (x y : B) (a : A) → o ≡ accepted a → leaves o x y ≡ y
leaves_written o x y a e = rw e

-- ---- the first of some answers that refuses
pub first_at : (os : List Done) (i : ℕ) → first_of os ≡ accepted tt → get_or os i (accepted tt) ≡ accepted tt
unfolding first_of
first_at [] i e = refl
first_at (accepted u ∷ os) zero e = refl
first_at (accepted u ∷ os) (suc i) e = first_at os i e
first_at (refused n p ∷ os) i e = let z : refused n p ≡ accepted tt = e in let y : ◌≡◌ {A = ℕ} 0 1 = cc in absurd (omega arith)

pub first_all : (os : List Done) → ((i : ℕ) → get_or os i (accepted tt) ≡ accepted tt) → first_of os ≡ accepted tt
unfolding first_of
first_all [] h = refl
first_all (accepted u ∷ os) h = first_all os (λ i. h (suc i))
first_all (refused n p ∷ os) h = h 0

pub refused_first : (os : List Done) (n p : ℕ) → first_of os ≡ refused n p → FirstRefusal os n p
unfolding first_of
refused_first [] n p e = let z : accepted tt ≡ refused n p = e in let y : ◌≡◌ {A = ℕ} 0 1 = cc in absurd (omega arith)
refused_first (accepted u ∷ os) n p e =
    let r = refused_first os n p e in
    record { at = suc r.at; refuses = r.refuses; earlier = λ j. elim j as (λ k. k < suc r.at → get_or (accepted u ∷ os) k (accepted tt) ≡ accepted tt) [ zero ↦ λ h. refl | suc i ↦ λ h. r.earlier i (let k : suc i < suc r.at = h in omega arith) ] }
refused_first (refused m q ∷ os) n p e = record { at = 0; refuses = e; earlier = λ j h. absurd (omega arith) }

pub first_refused : (os : List Done) (n p i : ℕ) → get_or os i (accepted tt) ≡ refused n p → ((j : ℕ) → j < i → get_or os j (accepted tt) ≡ accepted tt)
    → first_of os ≡ refused n p
unfolding first_of
first_refused [] n p i r h = r
first_refused (accepted u ∷ os) n p zero r h = let z : accepted u ≡ refused n p = r in let y : ◌≡◌ {A = ℕ} 0 1 = cc in absurd (omega arith)
first_refused (accepted u ∷ os) n p (suc i) r h = first_refused os n p i r (λ j k. h (suc j) (omega arith))
first_refused (refused m q ∷ os) n p zero r h = r
first_refused (refused m q ∷ os) n p (suc i) r h = absurd (not_both (refused m q) tt m q (h 0 (omega arith)) refl)
