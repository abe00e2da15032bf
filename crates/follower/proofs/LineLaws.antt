-- What the follower answers, by the tests that a reader of the word makes; when it refuses; that its state stays in range. Assumes nothing.
use Prim.Native.Nat.{ℕ, ◌+◌, ◌%◌, ◌<◌, ◌≤◌}
use mathlib.Core.Path.{◌≡◌, refl, sym, ap, subst, ◌∙◌}
use mathlib.Core.Bool.{Bool, true, false}
use mathlib.Core.Logic.{◌↔◌}
use native.Mathlib.Omega.{arith}
use lib.Dec.{leb, eqb}
use borrow.Author.Tests.{le-leb, lt-leb, leb-true, leb-false, eq-eqb, ne_eqb, eqb-true, eqb-false}
use Rattle.follower.specs.Follow.{State, idle, expecting, InRange, accepted, refused, after, difference, numbered, follow, Given, sequence, no_start}

-- The equations, in the direction in which a function's proof needs them.

pub starts : (s : State) (word : ℕ) → word ≡ 0x0100 → accepted 0 (expecting 1) ≡ follow s word
unfolding follow
starts s word e = rw (eq-eqb word 0x0100 e)

pub numbers : (s : State) (word : ℕ) → word ≤ 0x00FF → numbered s word ≡ follow s word
unfolding follow
numbers s word h = rw (ne_eqb word 0x0100 (λ e. omega arith), le-leb word 0x00FF h)

pub passes : (s : State) (word : ℕ) → 0x0100 < word → refused 4 0 ≡ follow s word
unfolding follow
passes s word h = rw (ne_eqb word 0x0100 (λ e. omega arith), lt-leb word 0x00FF (omega arith))

pub unused : (nn : ℕ) → nn ≡ 0 → accepted 0 idle ≡ numbered idle nn
unfolding numbered
unused nn e = rw (eq-eqb nn 0 e)

pub early : (nn : ℕ) → (nn ≡ 0 → ⊥) → refused 14 0 ≡ numbered idle nn
unfolding numbered
early nn h = rw (ne_eqb nn 0 h)

pub counts : (e nn : ℕ) → accepted (difference nn e) (expecting ((nn + 1) % 256)) ≡ numbered (expecting e) nn
unfolding numbered
counts e nn = refl

-- whatever the way in which the loss was found
pub counts_by : (e nn l : ℕ) → l ≡ difference nn e → accepted l (expecting ((nn + 1) % 256)) ≡ numbered (expecting e) nn
unfolding numbered
counts_by e nn l h = ap (λ (l : ℕ). accepted l (expecting ((nn + 1) % 256))) h

-- Every state and word is at one of the five lines.

pub data Line : State → ℕ → Type 0 where
  start : {s : State} {word : ℕ} → word ≡ 0x0100 → Line s word
  zero_idle : {word : ℕ} → word ≡ 0 → Line idle word
  number_idle : {word : ℕ} → 0 < word → word ≤ 0x00FF → Line idle word
  number_expecting : {e word : ℕ} → word ≤ 0x00FF → Line (expecting e) word
  above : {s : State} {word : ℕ} → 0x0100 < word → Line s word

number_line : (s : State) (word : ℕ) → word ≤ 0x00FF → Line s word
number_line (expecting e) word h = number_expecting h
number_line idle word h = go (eqb word 0) refl
  where
    go : (b : Bool) → eqb word 0 ≡ b → Line idle word
    go true p = zero_idle (eqb-true word 0 p)
    go false p = let k : 0 < word = omega (arith, eqb-false word 0 p) in number_idle k h

pub line : (s : State) (word : ℕ) → Line s word
line s word = go (leb word 0x00FF) (leb word 0x0100) refl refl
  where
    go : (a b : Bool) → leb word 0x00FF ≡ a → leb word 0x0100 ≡ b → Line s word
    go true b p q = number_line s word (leb-true word 0x00FF p)
    go false true p q = let k : word ≡ 0x0100 = omega (arith, leb-true word 0x0100 q, leb-false word 0x00FF p) in start k
    go false false p q = above (leb-false word 0x0100 q)

-- The answer at each line.

pub at_zero : (word : ℕ) → word ≡ 0 → accepted 0 idle ≡ follow idle word
at_zero word h = unused word h ∙ numbers idle word (omega arith)

pub at_early : (word : ℕ) → 0 < word → word ≤ 0x00FF → refused 14 0 ≡ follow idle word
at_early word h b = early word (λ e. omega arith) ∙ numbers idle word b

pub at_number : (e word : ℕ) → word ≤ 0x00FF → accepted (difference word e) (expecting ((word + 1) % 256)) ≡ follow (expecting e) word
at_number e word b = counts e word ∙ numbers (expecting e) word b

-- Refusals and the state.

given_at : (s : State) (word n p : ℕ) → Line s word → follow s word ≡ refused n p → Given s word n p
given_at s word n p (start h) e =
    let f = starts s word h in
    let z : ◌≡◌ {A = ℕ} 0 1 = cc in
    absurd (omega arith)
given_at idle word n p (zero_idle h) e =
    let f = at_zero word h in
    let z : ◌≡◌ {A = ℕ} 0 1 = cc in
    absurd (omega arith)
given_at idle word n p (number_idle h b) e =
    let f = at_early word h b in
    let x : 14 ≡ n = cc in
    let y : 0 ≡ p = cc in
    subst (Given idle word n) y (subst (λ (n : ℕ). Given idle word n 0) x (no_start h b))
given_at (expecting e₀) word n p (number_expecting b) e =
    let f = at_number e₀ word b in
    let z : ◌≡◌ {A = ℕ} 0 1 = cc in
    absurd (omega arith)
given_at s word n p (above h) e =
    let f = passes s word h in
    let x : 4 ≡ n = cc in
    let y : 0 ≡ p = cc in
    subst (Given s word n) y (subst (λ (n : ℕ). Given s word n 0) x (sequence h))

pub given : (s : State) (word n p : ℕ) → follow s word ≡ refused n p → Given s word n p
given s word n p = given_at s word n p (line s word)

pub gives : {s : State} {word n p : ℕ} → Given s word n p → follow s word ≡ refused n p
gives {s} {word} (sequence h) = sym (passes s word h)
gives {s} {word} (no_start h b) = sym (at_early word h b)

-- refused exactly where the table lists it
pub refusals : (s : State) (word n p : ℕ) → (follow s word ≡ refused n p) ↔ Given s word n p
refusals s word n p = (given s word n p, gives)

pub refusal_leaves : (s : State) (word n p : ℕ) → follow s word ≡ refused n p → after s (follow s word) ≡ s
refusal_leaves s word n p e = ap (after s) e

pub from_0_to_255 : (e : ℕ) → InRange (expecting e) ↔ (e ≤ 255)
from_0_to_255 e = (λ (h : e < 256). omega arith, λ (h : e ≤ 255). omega arith)

in_range_at : (s : State) (word : ℕ) → Line s word → InRange s → InRange (after s (follow s word))
in_range_at s word (start h) r = rw (← starts s word h) (omega arith)
in_range_at idle word (zero_idle h) r = rw (← at_zero word h) tt
in_range_at idle word (number_idle h b) r = rw (← at_early word h b) tt
in_range_at (expecting e) word (number_expecting b) r = rw (← at_number e word b) (omega arith)
in_range_at s word (above h) r = rw (← passes s word h) r

pub in_range : (s : State) (word : ℕ) → InRange s → InRange (after s (follow s word))
in_range s word = in_range_at s word (line s word)
