-- T1. In any table in which no prefix begins another, over any kind of class: a row that matches is the answer, at most one row matches,
-- nothing is found exactly where none matches, and the order of the rows is of no account.
-- Assumes nothing.
use mathlib.Core.Path.{◌≡◌, refl, sym, ap, ◌∙◌}
use mathlib.Core.Logic.{◌↔◌}
use mathlib.Core.Bool.{Bool, true, false, not, ◌&&◌, true≢false}
use mathlib.Core.Option.{none, some}
use mathlib.Core.List.Memᴰ
use mathlib.Core.List.{List, [], ◌∷◌, Memᴰ}
use Prim.Native.Nat.{ℕ, zero, suc, ◌+◌, ◌/◌, ◌^◌, ◌-◌, ◌≤◌, ◌<◌}
use native.Mathlib.Nat.{le_of_suc-le-suc, not-suc-le-zero}
use native.Mathlib.Omega.{arith}
use lib.Dec.{leb}
use lib.ListN.{length, get_or}
use lib.Pow.{shr-shr}
use borrow.Author.Tests.{eqb-true, eq-eqb, leb-true, leb-false, le-leb, not-true, ne_eqb}
use Rattle.format.specs.Prefix.{Row, matches, find, begins, apart, prefix_free}

pub and_left : (a b : Bool) → a && b ≡ true → a ≡ true
and_left true b e = refl
and_left false b e = e

pub and_right : (a b : Bool) → a && b ≡ true → b ≡ true
and_right true b e = e
and_right false b e = absurd (true≢false (sym e))

pub and_both : (a b : Bool) → a ≡ true → b ≡ true → a && b ≡ true
and_both a b e f = rw (e, f)

module _ {A : Type 0} where
  -- of two rows that a word matches, the shorter prefix begins the longer
  match_begins : (p q : Row A) (w : ℕ) → p.bits ≤ q.bits → q.bits ≤ 16 → matches p w ≡ true → matches q w ≡ true → begins p q ≡ true
  match_begins p q w h k e f =
      let m : (16 - q.bits) + (q.bits - p.bits) ≡ 16 - p.bits = omega arith in
      and_both _ _ (le-leb _ _ h)
      (eq-eqb _ _
      (ap (λ (n : ℕ). n / 2 ^ (q.bits - p.bits)) (sym (eqb-true _ _ f))
      ∙ shr-shr w (16 - q.bits) (q.bits - p.bits)
      ∙ ap (λ (n : ℕ). w / 2 ^ n) m
      ∙ eqb-true _ _ e))

  -- a word that matches a row matches none that stands apart from it
  clash : (p q : Row A) (w : ℕ) → p.bits ≤ 16 → q.bits ≤ 16 → not (begins p q) ≡ true → not (begins q p) ≡ true
      → matches p w ≡ true → matches q w ≡ true → ⊥
  clash p q w hp hq np nq e f = go (leb p.bits q.bits) refl
    where
      go : (b : Bool) → leb p.bits q.bits ≡ b → ⊥
      go true l = true≢false (sym (match_begins p q w (leb-true _ _ l) hq e f) ∙ not-true _ np)
      go false l = true≢false (sym (match_begins q p w (omega (arith, leb-false)) hp f e) ∙ not-true _ nq)

  -- the parts of the test
  short : (p : Row A) (t : List (Row A)) → prefix_free (p ∷ t) ≡ true → p.bits ≤ 16
  short p t e = leb-true _ _ (and_left (leb p.bits 16) (apart p t && prefix_free t) e)

  away : (p : Row A) (t : List (Row A)) → prefix_free (p ∷ t) ≡ true → apart p t ≡ true
  away p t e = and_left (apart p t) (prefix_free t) (and_right (leb p.bits 16) _ e)

  rest : (p : Row A) (t : List (Row A)) → prefix_free (p ∷ t) ≡ true → prefix_free t ≡ true
  rest p t e = and_right (apart p t) (prefix_free t) (and_right (leb p.bits 16) _ e)

  -- a word that matches p matches no row of a table that stands apart from p
  lone : (p : Row A) (t : List (Row A)) (w : ℕ) → p.bits ≤ 16 → apart p t ≡ true → prefix_free t ≡ true → matches p w ≡ true
      → (r : Row A) → Memᴰ r t → matches r w ≡ true → ⊥
  lone p [] w b e f h r m g = Memᴰ.not-nil m
  lone p (q ∷ t) w b e f h r (Memᴰ.head i) g =
      clash p q w b (short q t f) (and_left (not (begins p q)) _ e)
      (and_left (not (begins q p)) (apart p t) (and_right (not (begins p q)) _ e)) h (rw i at g)
  lone p (q ∷ t) w b e f h r (Memᴰ.tail m) g =
      lone p t w b (and_right (not (begins q p)) (apart p t) (and_right (not (begins p q)) _ e)) (rest q t f) h r m g

  -- at most one row matches a word
  pub unique : (t : List (Row A)) → prefix_free t ≡ true → (w : ℕ) (r s : Row A) → Memᴰ r t → Memᴰ s t
      → matches r w ≡ true → matches s w ≡ true → r ≡ s
  unique [] e w r s m n h k = absurd (Memᴰ.not-nil m)
  unique (p ∷ t) e w r s (Memᴰ.head i) (Memᴰ.head j) h k = i ∙ sym j
  unique (p ∷ t) e w r s (Memᴰ.head i) (Memᴰ.tail n) h k =
      absurd (lone p t w (short p t e) (away p t e) (rest p t e) (rw i at h) s n k)
  unique (p ∷ t) e w r s (Memᴰ.tail m) (Memᴰ.head j) h k =
      absurd (lone p t w (short p t e) (away p t e) (rest p t e) (rw j at k) r m h)
  unique (p ∷ t) e w r s (Memᴰ.tail m) (Memᴰ.tail n) h k = unique t (rest p t e) w r s m n h k

  -- what the search did, in any table: a row that the word matches gave its class, or it matches none
  pub data Searched (t : List (Row A)) (w : ℕ) : Type 0 where
    hit : (r : Row A) → Memᴰ r t → matches r w ≡ true → find t w ≡ some r.class → Searched t w
    miss : ((r : Row A) → Memᴰ r t → matches r w ≡ false) → find t w ≡ none → Searched t w

  pub searched : (t : List (Row A)) (w : ℕ) → Searched t w
  unfolding find
  searched [] w = miss (λ r m. absurd (Memᴰ.not-nil m)) refl
  searched (p ∷ t) w = go (matches p w) refl (searched t w)
    where
      no_match : matches p w ≡ false → ((r : Row A) → Memᴰ r t → matches r w ≡ false)
          → (r : Row A) → Memᴰ r (p ∷ t) → matches r w ≡ false
      no_match f n r (Memᴰ.head i) = rw i f
      no_match f n r (Memᴰ.tail m) = n r m

      go : (b : Bool) → matches p w ≡ b → Searched t w → Searched (p ∷ t) w
      go true f o = hit p (Memᴰ.head refl) f (rw f)
      go false f (hit r m h e) = hit r (Memᴰ.tail m) h (rw f e)
      go false f (miss n e) = miss (no_match f n) (rw f e)

  -- a row that matches is the answer, wherever it stands
  pub found : (t : List (Row A)) → prefix_free t ≡ true → (w : ℕ) (r : Row A) → Memᴰ r t → matches r w ≡ true → find t w ≡ some r.class
  found t e w r m h = go (searched t w)
    where
      go : Searched t w → find t w ≡ some r.class
      go (hit s n k i) = i ∙ ap (λ (q : Row A). some q.class) (unique t e w s r n m k h)
      go (miss n i) = absurd (true≢false (sym h ∙ n r m))

  -- nothing is found exactly where no row matches
  pub missed : (t : List (Row A)) (w : ℕ) → (find t w ≡ none) ↔ ((r : Row A) → Memᴰ r t → matches r w ≡ false)
  missed t w = (λ e. none_matches e (searched t w), λ n. nothing n (searched t w))
    where
      none_matches : find t w ≡ none → Searched t w → (r : Row A) → Memᴰ r t → matches r w ≡ false
      none_matches e (hit s m k i) = let z : ◌≡◌ {A = ℕ} 0 1 = cc in absurd (omega arith)
      none_matches e (miss n i) = n

      nothing : ((r : Row A) → Memᴰ r t → matches r w ≡ false) → Searched t w → find t w ≡ none
      nothing n (hit s m k i) = absurd (true≢false (sym k ∙ n s m))
      nothing n (miss k i) = i

  -- a table with the same rows, in whatever order and however often, answers every word alike
  pub order_free : (t u : List (Row A)) → prefix_free t ≡ true
      → ((r : Row A) → Memᴰ r t → Memᴰ r u) → ((r : Row A) → Memᴰ r u → Memᴰ r t)
      → (w : ℕ) → find u w ≡ find t w
  order_free t u e there back w = go (searched u w)
    where
      go : Searched u w → find u w ≡ find t w
      go (hit r m h i) = i ∙ sym (found t e w r (back r m) h)
      go (miss n i) = i ∙ sym ((missed t w).1 (λ r m. n r (there r m)))

  -- the word begins with no prefix of the table, row by row
  abbrev pub Misses : List (Row A) → ℕ → Type 0
  Misses [] w = Unit {0}
  Misses (r ∷ t) w = (w / 2 ^ (16 - r.bits) ≡ r.prefix → ⊥) × Misses t w

  pub all_missed : (t : List (Row A)) (w : ℕ) → Misses t w → find t w ≡ none
  unfolding find
  all_missed [] w m = refl
  all_missed (r ∷ t) w m = rw (ne_eqb _ _ m.0) (all_missed t w m.1)

  -- the row at a place of the table is one of its rows
  pub nth_row : (t : List (Row A)) (k : ℕ) (d : Row A) → k < length t → Memᴰ (get_or t k d) t
  nth_row [] k d h = absurd (not-suc-le-zero h)
  nth_row (p ∷ t) zero d h = Memᴰ.head refl
  nth_row (p ∷ t) (suc k) d h = Memᴰ.tail (nth_row t k d (le_of_suc-le-suc h))
