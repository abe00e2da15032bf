-- Decimals: what a reader expects of them, and that the digits a number is spelt in are its decimals.
-- Assumes nothing.
use Prim.Native.Nat.{ℕ, zero, suc, ◌/◌, ◌%◌, ◌≤◌, ◌<◌}
use mathlib.Core.Path.{◌≡◌, refl, sym, ap, ◌∙◌}
use mathlib.Core.Bool.{Bool, true, false}
use mathlib.Core.List.{List, [], ◌∷◌, ◌++◌}
use native.Mathlib.Omega.{arith}
use lib.Dec.{ltb}
use lib.ListN.{length}
use borrow.Author.Tests.{ltb-false, lt-ltb, le-ltb}
use Rattle.std.specs.Fmt as fmt
use Rattle.std.proofs.lemmas.Fmt.{decimal_by_steps, length-decimal-le}
use Rattle.format.specs.Words.{pick}
use Rattle.listing.specs.Text.{digit, decimal_in, decimal}

-- any count of steps that the number does not pass is enough
enough : (k m n : ℕ) → n ≤ k → n ≤ m → decimal_in k n ≡ decimal_in m n
unfolding decimal_in
enough zero zero n h g = refl
enough zero (suc m) n h g = let z : n ≡ 0 = omega arith in rw z
enough (suc k) zero n h g = let z : n ≡ 0 = omega arith in rw z
enough (suc k) (suc m) n h g = go (ltb n 10) refl (λ b. enough k m (n / 10) (omega arith) (omega arith))
  where
    go : (t : Bool) → ltb n 10 ≡ t → (10 ≤ n → decimal_in k (n / 10) ≡ decimal_in m (n / 10))
        → pick t (digit n ∷ []) (decimal_in k (n / 10) ++ (digit (n % 10) ∷ [])) ≡ pick t (digit n ∷ []) (decimal_in m (n / 10) ++ (digit (n % 10) ∷ []))
    go true e i = refl
    go false e i = ap (λ (l : List ℕ). l ++ (digit (n % 10) ∷ [])) (i (ltb-false n 10 e))

pub decimal_small : (n : ℕ) → n < 10 → decimal n ≡ digit n ∷ []
unfolding decimal decimal_in
decimal_small zero h = refl
decimal_small (suc n) h = rw (lt-ltb (suc n) 10 h)

pub decimal_large : (n : ℕ) → 10 ≤ n → decimal n ≡ decimal (n / 10) ++ (digit (n % 10) ∷ [])
unfolding decimal decimal_in
decimal_large zero h = absurd (omega arith)
decimal_large (suc n) h =
    rw (le-ltb (suc n) 10 h) (ap (λ (l : List ℕ). l ++ (digit (suc n % 10) ∷ [])) (enough n (suc n / 10) (suc n / 10) (omega arith) (omega arith)))

-- std's decimals are the same
pub spelt : (n : ℕ) → n < 18446744073709551616 → fmt.decimal n ≡ decimal n
spelt =
    decimal_by_steps (λ n ds. ds ≡ decimal n)
    (λ n h. sym (decimal_small n h))
    (λ n ds h e. ap (λ (l : List ℕ). l ++ (digit (n % 10) ∷ [])) e ∙ sym (decimal_large n h))

-- a number of 64 bits has at most 20 digits
pub twenty : (n : ℕ) → n < 18446744073709551616 → length (fmt.decimal n) ≤ 20
twenty n h = length-decimal-le 20 n (omega arith) (omega arith) h
