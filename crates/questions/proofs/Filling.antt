-- Lent words cleared: the first n of them filled with one value.
-- Assumes nothing.
use Prim.Native.Nat.{ℕ, zero, suc, ◌≤◌}
use mathlib.Core.Path.{◌≡◌, refl, ap, ◌∙◌}
use mathlib.Core.List.{List, [], ◌∷◌, ◌++◌}
use native.Mathlib.Omega.{arith}
use lib.ListN.{length, take, drop}
use Rattle.std.proofs.lemmas.List.{length-take-le}
use Rattle.std.proofs.Common.{replicate}
use Rattle.format.specs.Questions.{cleared}

clear_all : (n v : ℕ) (l : List ℕ) → n ≤ length l → replicate n v ++ drop n l ≡ cleared n v l
unfolding cleared
clear_all zero v l h = refl
clear_all (suc n) v [] h = absurd (omega arith)
clear_all (suc n) v (x ∷ l) h = ap (λ (l : List ℕ). v ∷ l) (clear_all n v l (omega arith))

pub filled : (n v : ℕ) (l m : List ℕ) → n ≤ length l → m ≡ replicate (length (take n l)) v → m ++ drop n l ≡ cleared n v l
filled n v l m h e = ap (λ (m : List ℕ). m ++ drop n l) (e ∙ ap (λ (k : ℕ). replicate k v) (length-take-le n l h)) ∙ clear_all n v l h
