-- A table as a page of 256 rows: where every prefix is at most 8 bits long, or lies in the words of high byte 0, the high byte alone
-- decides the class of a word whose high byte is not 0.
-- Assumes nothing.
use mathlib.Core.Path.{◌≡◌, refl, sym, ap, ◌∙◌}
use mathlib.Core.Bool.{Bool, true, false, ◌&&◌, ◌||◌}
use mathlib.Core.List.{List, [], ◌∷◌}
use Prim.Native.Nat.{ℕ, ◌+◌, ◌/◌, ◌^◌, ◌-◌, ◌≤◌, ◌<◌}
use native.Mathlib.Omega.{arith}
use lib.Dec.{eqb, leb}
use lib.Pow.{shr-shr}
use borrow.Author.Tests.{eqb-true, ne_eqb, leb-true, leb-false}
use Rattle.format.specs.Prefix.{Row, matches, find}
use Rattle.format.proofs.book.PrefixLaws.{and_left, and_right}

module _ {A : Type 0} where
  -- the prefix is at most 8 bits long, or begins with eight zeros
  abbrev pub paged : List (Row A) → Bool
  paged [] = true
  paged (r ∷ t) = leb r.bits 16 && ((leb r.bits 8 || eqb (r.prefix / 2 ^ (r.bits - 8)) 0) && paged t)

  -- a prefix of at most 8 bits sees only the high byte
  near : (r : Row A) (v w : ℕ) → r.bits ≤ 8 → v / 256 ≡ w / 256 → matches r v ≡ matches r w
  near r v w h e =
      let m : 8 + (8 - r.bits) ≡ 16 - r.bits = omega arith in
      let up : (x : ℕ) → x / 2 ^ (16 - r.bits) ≡ x / 256 / 2 ^ (8 - r.bits) =
      λ x. ap (λ (n : ℕ). x / 2 ^ n) (sym m) ∙ sym (shr-shr x 8 (8 - r.bits)) in
      ap (λ (n : ℕ). eqb n r.prefix) (up v ∙ ap (λ (n : ℕ). n / 2 ^ (8 - r.bits)) e ∙ sym (up w))

  -- a longer one that begins with eight zeros matches no word of another high byte
  far : (r : Row A) (w : ℕ) → 8 < r.bits → r.bits ≤ 16 → r.prefix / 2 ^ (r.bits - 8) ≡ 0 → (w / 256 ≡ 0 → ⊥) → matches r w ≡ false
  far r w h k z n =
      let m : (16 - r.bits) + (r.bits - 8) ≡ 8 = omega arith in
      ne_eqb _ _ (λ e. n (
      ap (λ (i : ℕ). w / 2 ^ i) (sym m) ∙ sym (shr-shr w (16 - r.bits) (r.bits - 8)) ∙ ap (λ (x : ℕ). x / 2 ^ (r.bits - 8)) e ∙ z))

  alike : (r : Row A) (v w : ℕ) → r.bits ≤ 16 → leb r.bits 8 || eqb (r.prefix / 2 ^ (r.bits - 8)) 0 ≡ true
      → v / 256 ≡ w / 256 → (w / 256 ≡ 0 → ⊥) → matches r v ≡ matches r w
  alike r v w k t e n = go (leb r.bits 8) refl
    where
      go : (b : Bool) → leb r.bits 8 ≡ b → matches r v ≡ matches r w
      go true l = near r v w (leb-true _ _ l) e
      go false l =
          let z : r.prefix / 2 ^ (r.bits - 8) ≡ 0 = eqb-true _ _ (rw l at t) in
          let h : 8 < r.bits = leb-false _ _ l in
          far r v h k z (λ i. n (sym e ∙ i)) ∙ sym (far r w h k z n)

  -- in such a table two words of one high byte, not 0, are read alike
  pub by_page : (t : List (Row A)) → paged t ≡ true → (v w : ℕ) → v / 256 ≡ w / 256 → (w / 256 ≡ 0 → ⊥) → find t v ≡ find t w
  unfolding find
  by_page [] p v w e n = refl
  by_page (r ∷ t) p v w e n =
      let q = and_right (leb r.bits 16) _ p in
      rw (
        alike r v w (leb-true _ _ (and_left (leb r.bits 16) _ p)) (and_left (leb r.bits 8 || eqb (r.prefix / 2 ^ (r.bits - 8)) 0) _ q) e n,
        by_page t (and_right (leb r.bits 8 || eqb (r.prefix / 2 ^ (r.bits - 8)) 0) _ q) v w e n,
      )
