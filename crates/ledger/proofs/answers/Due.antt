-- The first broken number of an order, against tests in a list: an answer refuses as the relation of specs/Reasons.antt says where each test fails
-- exactly when its number is broken.
-- Assumes nothing.
use Prim.Native.Nat.{ℕ}
use mathlib.Core.Path.{◌≡◌, refl, sym, ap, subst, ◌∙◌}
use mathlib.Core.Logic.{◌↔◌}
use mathlib.Core.Bool.{Bool, true, false, ◌&&◌}
use mathlib.Core.List.{List, [], ◌∷◌}
use native.Mathlib.Omega.{arith}
use Rattle.format.specs.Answers.{accepted, refused, Done, need, first_of}
use Rattle.ledger.specs.Tests.{all, all_from}
use Rattle.ledger.specs.Reasons.{FirstIn, here, later, Behind, earlier, own}
use Rattle.ledger.proofs.answers.Answering.{not_both}

-- ---- tests that do not all hold: whatever each of them leads to when it fails
abbrev pub Caught : List Bool → Type 0 → Type 0
Caught [] A = A
Caught (t ∷ ts) A = (t ≡ false → A) → Caught ts A

either_false : {A : Type 0} (a t : Bool) → (a ≡ false → A) → (t ≡ false → A) → (a && t) ≡ false → A
either_false true t f g e = g e
either_false false t f g e = f refl

caught_from : (A : Type 0) (a : Bool) (ts : List Bool) → all_from a ts ≡ false → (a ≡ false → A) → Caught ts A
caught_from A a [] e f = f e
caught_from A a (t ∷ ts) e f = λ g. caught_from A (a && t) ts e (either_false a t f g)

never_false : {A : Type 0} → true ≡ false → A
never_false e = absurd (not_both (accepted tt) tt 0 0 refl (ap (λ (t : Bool). need t 0 0) e))

pub caught : (A : Type 0) (ts : List Bool) → all ts ≡ false → Caught ts A
unfolding all
caught A ts e = caught_from A true ts e never_false

-- ---- tests in their order
pub same_refusal : (m q n p : ℕ) → ◌≡◌ {A = Done} (refused m q) (refused n p) → (m ≡ n) × (q ≡ p)
same_refusal m q n p e = (cc, cc)

-- some answers refuse by the first broken number of an order, at place 0
pub record Agrees (Broken : ℕ → Type 0) (os : List Done) (order : List ℕ) : Type 0 where
  pub due : (n p : ℕ) → first_of os ≡ refused n p → FirstIn Broken order n × (p ≡ 0)
  pub given : (n : ℕ) → FirstIn Broken order n → first_of os ≡ refused n 0

cons_nil : (n : ℕ) (l : List ℕ) → n ∷ l ≡ [] → ⊥
cons_nil n l e = let z : ◌≡◌ {A = ℕ} 0 1 = cc in omega arith

module _ (Broken : ℕ → Type 0) where
  not_there : (ms : List ℕ) (n : ℕ) → FirstIn Broken ms n → ms ≡ [] → ⊥
  not_there ms n (here {ms = l} b) e = absurd (cons_nil n l e)
  not_there ms n (later {m = m} {ms = l} k f) e = absurd (cons_nil m l e)

  pub no_more : Agrees Broken [] []
  unfolding first_of
  no_more = record { due = λ n p e. absurd (not_both (first_of []) tt n p refl e); given = λ n f. absurd (not_there [] n f refl) }

  -- an answer that does not refuse has no number
  pub asked_first : (o : Done) (os : List Done) (ms : List ℕ) → o ≡ accepted tt → Agrees Broken os ms → Agrees Broken (o ∷ os) ms
  unfolding first_of
  asked_first (accepted u) os ms e a = record { due = a.due; given = a.given }
  asked_first (refused n p) os ms e a = absurd (not_both (refused n p) tt n p e refl)

  -- the head of an order is not broken, so the rest of it decides
  passed : (m n : ℕ) (ms : List ℕ) → (Broken m → ⊥) → FirstIn Broken (m ∷ ms) n → FirstIn Broken ms n
  passed m n ms k (here b) = absurd (k b)
  passed m n ms k (later l f) = f

  at_head : (m n : ℕ) (ms : List ℕ) → Broken m → FirstIn Broken (m ∷ ms) n → m ≡ n
  at_head m n ms b (here k) = refl
  at_head m n ms b (later k f) = absurd (k b)

  -- one test more, which fails exactly when its number is broken; the later ones are asked only where it holds
  pub tested : (t : Bool) (m : ℕ) (os : List Done) (ms : List ℕ) → (t ≡ false → Broken m) → (t ≡ true → Broken m → ⊥) → (t ≡ true → Agrees Broken os ms)
      → Agrees Broken (need t m 0 ∷ os) (m ∷ ms)
  unfolding first_of
  tested true m os ms f g r = record {
    due = λ n p e. let d = (r refl).due n p e in (later (g refl) d.0, d.1);
    given = λ n h. (r refl).given n (passed m n ms (g refl) h);
  }
  tested false m os ms f g r = record {
    due = λ n p e. let q = same_refusal m 0 n p e in (subst (FirstIn Broken (m ∷ ms)) q.0 (here (f refl)), sym q.1);
    given = λ n h. ap (λ (k : ℕ). refused k 0) (at_head m n ms (f refl) h);
  }

-- ---- what is judged before

-- no refusal is due exactly where the answer is accepted
pub none_due : (o : Done) (R : ℕ → ℕ → Type 0) → ((n p : ℕ) → (o ≡ refused n p) ↔ R n p) → (o ≡ accepted tt) ↔ ((n p : ℕ) → R n p → ⊥)
none_due o R h = (λ e n p r. not_both o tt n p e ((h n p).1 r), go o h)
  where
    go : (o : Done) → ((n p : ℕ) → (o ≡ refused n p) ↔ R n p) → ((n p : ℕ) → R n p → ⊥) → o ≡ accepted tt
    go (accepted u) h none = refl
    go (refused m q) h none = absurd (none m q ((h m q).0 refl))

module _ (R : ℕ → ℕ → Type 0) (Broken : ℕ → Type 0) (order : List ℕ) (o : Done) (os : List Done)
    (h : (n p : ℕ) → (o ≡ refused n p) ↔ R n p) (a : o ≡ accepted tt → Agrees Broken os order) where
  after_earlier : o ≡ accepted tt → first_of (o ∷ os) ≡ first_of os
  unfolding first_of
  after_earlier e = rw e

  first_earlier : (n p : ℕ) → o ≡ refused n p → first_of (o ∷ os) ≡ refused n p
  unfolding first_of
  first_earlier n p e = rw e

  pub behind : (n p : ℕ) → (first_of (o ∷ os) ≡ refused n p) ↔ Behind R Broken order n p
  behind n p = (λ e. go o refl e, back n p)
    where
      go : (d : Done) → o ≡ d → first_of (o ∷ os) ≡ refused n p → Behind R Broken order n p
      go (accepted u) q e =
          let d = (a q).due n p (sym (after_earlier q) ∙ e) in
          subst (Behind R Broken order n) (sym d.1) (own ((none_due o R h).0 q) d.0)
      go (refused m r) q e =
          earlier ((h n p).0 (q ∙ sym (first_earlier m r q) ∙ e))

      back : (m q : ℕ) → Behind R Broken order m q → first_of (o ∷ os) ≡ refused m q
      back m q (earlier r) = first_earlier m q ((h m q).1 r)
      back m q (own none f) = let e = (none_due o R h).1 none in after_earlier e ∙ (a e).given m f
