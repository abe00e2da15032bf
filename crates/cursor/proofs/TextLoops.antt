-- The bytes of a text: the loop over its letters, and what closes it.
-- Assumes nothing.
use Prim.Native.Nat.{ℕ, zero, suc, ◌+◌, ◌-◌, ◌*◌, ◌%◌, ◌≤◌, ◌<◌}
use mathlib.Core.Path.{◌≡◌, refl, sym, ap, ◌∙◌}
use mathlib.Core.List.{List, ◌∷◌}
use mathlib.Core.Bool.{Bool, true, false, not, ◌&&◌}
use native.Mathlib.Numerals.{add-one}
use native.Mathlib.Omega.{arith}
use lib.Dec.{leb, eqb}
use lib.ListN.{length, get_or, take, drop, length-drop, drop_of_length-le}
use lib.Seq.{drop-cons, length-take-le}
use borrow.Author.Tests.{le-leb, eq-eqb, ne_eqb, leb-true, leb-false}
use Rattle.format.specs.Words.{non_zero, all_zero}
use Rattle.format.specs.Book.{text_words}
use Rattle.format.specs.Items.{closed}
use Rattle.cursor.specs.Promises.{TextClosed}

-- what a test of a byte says in the definition's words
letter : (x : ℕ) → not (eqb x 0) ≡ leb 1 x
letter zero = refl
letter (suc x) =
    let n : suc x ≡ 0 → ⊥ = λ e. omega arith in
    ap not (ne_eqb (suc x) 0 n) ∙ sym (le-leb 1 (suc x) (omega arith))

and_assoc : (a b c : Bool) → a && b && c ≡ a && (b && c)
and_assoc true b c = refl
and_assoc false b c = refl

and_true : (a : Bool) → a && true ≡ a
and_true true = refl
and_true false = refl

module _ (s : List ℕ) (i : ℕ) where
  head : i < length s → drop i s ≡ get_or s i 0 ∷ drop (i + 1) s
  head h = drop-cons s i 0 h ∙ ap (λ (n : ℕ). get_or s i 0 ∷ drop n s) (sym (add-one i))

  pub more : (good : Bool) → i < length s → good && non_zero (drop i s) ≡ non_zero s → good && not (eqb (get_or s i 0) 0) && non_zero (drop (i + 1) s) ≡ non_zero s
  unfolding non_zero
  more good h e =
      let g : non_zero (get_or s i 0 ∷ drop (i + 1) s) ≡ not (eqb (get_or s i 0) 0) && non_zero (drop (i + 1) s) = ap (λ (t : Bool). t && non_zero (drop (i + 1) s)) (sym (letter (get_or s i 0))) in
      and_assoc good _ _ ∙ ap (λ (t : Bool). good && t) (sym g ∙ ap non_zero (sym (head h))) ∙ e

  pub none : (good : Bool) → length s ≤ i → good && non_zero (drop i s) ≡ non_zero s → good ≡ non_zero s
  unfolding non_zero
  none good h e = sym (and_true good) ∙ ap (λ (l : List ℕ). good && non_zero l) (sym (drop_of_length-le s {i = i} h)) ∙ e

and_self : (a : Bool) → a && a ≡ a
and_self true = refl
and_self false = refl

-- a text's bytes are closed by its zero, and by the byte after it where there is one
module _ (s : List ℕ) (n : ℕ) where
  one_left : n < length s → length s ≤ n + 1 → all_zero (drop n s) ≡ eqb (get_or s n 0) 0
  unfolding all_zero
  one_left h l =
      ap all_zero (head s n h) ∙ ap (λ (t : List ℕ). eqb (get_or s n 0) 0 && all_zero t) (drop_of_length-le s {i = n + 1} l) ∙ and_true _

  none_left : length s ≤ n → all_zero (drop n s) ≡ true
  unfolding all_zero
  none_left h = ap all_zero (drop_of_length-le s {i = n} h)

  pub ended : (a b : Bool) → 1 ≤ n → n ≤ length s → length s ≤ n + 1 → a ≡ eqb (get_or s (n - 1) 0) 0 → b ≡ eqb (get_or s (length s - 1) 0) 0
      → a && b ≡ all_zero (drop (n - 1) s)
  unfolding all_zero
  ended a b h l m e f = go (leb (length s) n) refl
    where
      d : drop (n - 1) s ≡ get_or s (n - 1) 0 ∷ drop n s
      d = head s (n - 1) (omega arith) ∙ ap (λ (k : ℕ). get_or s (n - 1) 0 ∷ drop k s) (let z : n - 1 + 1 ≡ n = omega arith in z)

      whole : all_zero (drop (n - 1) s) ≡ a && all_zero (drop n s)
      whole = ap all_zero d ∙ ap (λ (t : Bool). t && all_zero (drop n s)) (sym e)

      go : (t : Bool) → leb (length s) n ≡ t → a && b ≡ all_zero (drop (n - 1) s)
      go true q =
          let z : length s - 1 ≡ n - 1 = omega (arith, leb-true (length s) n q) in
          let g : b ≡ a = f ∙ ap (λ (k : ℕ). eqb (get_or s k 0) 0) z ∙ sym e in
          ap (λ (t : Bool). a && t) g ∙ and_self a ∙ sym (and_true a) ∙ ap (λ (t : Bool). a && t) (sym (none_left (leb-true (length s) n q))) ∙ sym whole
      go false q =
          let z : length s - 1 ≡ n = omega (arith, leb-false (length s) n q) in
          let g : b ≡ all_zero (drop n s) = f ∙ ap (λ (k : ℕ). eqb (get_or s k 0) 0) z ∙ sym (one_left (leb-false (length s) n q) m) in
          ap (λ (t : Bool). a && t) g ∙ sym whole

-- the part of some bytes in which a text's bytes stand has their length
pub closed_there : (s : List ℕ) (at m w : ℕ) (t : Bool) → m ≡ text_words w → 2 * (at + 1 + m) ≤ length s
    → TextClosed (take (2 * (at + 1 + m) - 2 * (at + 1)) (drop (2 * (at + 1)) s)) w t
    → t ≡ closed (w % 256) (take (2 * (at + 1 + m) - 2 * (at + 1)) (drop (2 * (at + 1)) s))
closed_there s at m w t g h c =
    let d = length-drop (2 * (at + 1)) s in
    let l = length-take-le (2 * (at + 1 + m) - 2 * (at + 1)) (drop (2 * (at + 1)) s) (omega arith) in
    c ∙ ap (λ (b : Bool). b && closed (w % 256) (take (2 * (at + 1 + m) - 2 * (at + 1)) (drop (2 * (at + 1)) s))) (eq-eqb _ _ (l ∙ omega arith))
