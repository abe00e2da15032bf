-- T2. The house book is prefix-free, and each class is exactly its range of document 01's table.
-- Assumes nothing.
use mathlib.Core.Path.{◌≡◌, refl, sym, ap, subst, ◌∙◌}
use mathlib.Core.Logic.{◌↔◌}
use mathlib.Core.Bool.{true, true≢false}
use mathlib.Core.List.Memᴰ
use mathlib.Core.List.{List, [], ◌∷◌, map, Memᴰ}
use Prim.Native.Nat.{ℕ, ◌+◌, ◌*◌, ◌/◌, ◌%◌, ◌^◌, ◌-◌, ◌≤◌, ◌<◌}
use native.Mathlib.Omega.{arith}
use native.Mathlib.Nat.{mod-lt}
use lib.Pow.{split, high, pow_pos}
use lib.ListN.{length}
use borrow.Author.Tests.{eqb-true, eq-eqb}
use Rattle.format.specs.Prefix.{Row, matches, prefix_free}
use Rattle.format.specs.Book.{Class, unassigned, row, book, or_unassigned, class_of, assigned, Range, range, page_range, Within, nth}
use Rattle.format.proofs.book.PrefixLaws.{Searched, hit, miss, searched, found, Misses, all_missed, nth_row}

-- no prefix of the book begins another
pub book_free : prefix_free book ≡ true
book_free = refl

-- the words that a row takes, first to last
abbrev pub span : Row Class → Range
span r = range (r.prefix * 2 ^ (16 - r.bits)) (r.prefix * 2 ^ (16 - r.bits) + (2 ^ (16 - r.bits) - 1))

-- the rows' classes, and their spans are the printed ranges
pub as_printed : map (λ (r : Row Class). span r) book ≡ map (λ (r : Row Class). page_range r.class) book
as_printed = refl

module _ (A : Row Class → Type 0) where
  -- what holds at each row of a table
  abbrev pub Each : List (Row Class) → Type 0
  Each [] = Unit {0}
  Each (r ∷ t) = A r × Each t

  pub each : (t : List (Row Class)) → Each t → (r : Row Class) → Memᴰ r t → A r
  each [] h r m = absurd (Memᴰ.not-nil m)
  each (p ∷ t) h r (Memᴰ.head i) = subst A (sym i) h.0
  each (p ∷ t) h r (Memᴰ.tail m) = each t h.1 r m

-- a row's span is its class's range
abbrev Spans : Row Class → Type 0
Spans r = span r ≡ page_range r.class

spans : (r : Row Class) → Memᴰ r book → span r ≡ page_range r.class
spans = each Spans book (refl, (refl, (refl, (refl, (refl, (refl, (refl, (refl, (refl, (refl, (refl, (refl, (refl, (refl, (refl, tt)))))))))))))))

-- each row's class is an assigned one
abbrev Assigns : Row Class → Type 0
Assigns r = assigned r.class ≡ true

assigns : (r : Row Class) → Memᴰ r book → assigned r.class ≡ true
assigns = each Assigns book (refl, (refl, (refl, (refl, (refl, (refl, (refl, (refl, (refl, (refl, (refl, (refl, (refl, (refl, (refl, tt)))))))))))))))

-- a word of a row's span matches the row
in_span : (r : Row Class) (w : ℕ) → (span r).from ≤ w → w ≤ (span r).to → matches r w ≡ true
in_span r w h k =
    let n : ℕ = 2 ^ (16 - r.bits) in
    let low : ℕ = w - r.prefix * n in
    let pos : 0 < n = pow_pos (16 - r.bits) in
    let e : r.prefix * n + low ≡ w = omega arith in
    let l : low < n = omega arith in
    eq-eqb _ _ (ap (λ (x : ℕ). x / n) (sym e) ∙ high r.prefix (16 - r.bits) l)

-- and only such a word does
from_span : (r : Row Class) (w : ℕ) → matches r w ≡ true → ((span r).from ≤ w) × (w ≤ (span r).to)
from_span r w f =
    let n : ℕ = 2 ^ (16 - r.bits) in
    let pos : 0 < n = pow_pos (16 - r.bits) in
    let e : r.prefix * n + w % n ≡ w = ap (λ (q : ℕ). q * n + w % n) (sym (eqb-true _ _ f)) ∙ split w (16 - r.bits) in
    let l : w % n < n = mod-lt w pos in
    (omega arith, omega arith)

module _ (w : ℕ) where
  pub of_row : (r : Row Class) → Memᴰ r book → matches r w ≡ true → class_of w ≡ r.class
  unfolding class_of
  of_row r m h = ap or_unassigned (found book book_free w r m h)

  pub entry : (k : ℕ) → k < length book → w / 2 ^ (16 - (nth k).bits) ≡ (nth k).prefix → (nth k).class ≡ class_of w
  entry k h e = sym (of_row (nth k) (nth_row book k (row 0 0 unassigned) h) (eq-eqb _ _ e))

  pub no_entry : Misses book w → unassigned ≡ class_of w
  unfolding class_of
  no_entry m = sym (ap or_unassigned (all_missed book w m))

  -- a word of the book's class lies in that class's range
  pub ranged : (c : Class) → class_of w ≡ c → assigned c ≡ true → Within w (page_range c)
  unfolding class_of
  ranged c e a = go (searched book w)
    where
      go : Searched book w → Within w (page_range c)
      go (hit r m h i) = subst (Within w) (spans r m ∙ ap page_range (sym (ap or_unassigned i) ∙ e)) (from_span r w h)
      go (miss n i) = absurd (true≢false (sym a ∙ ap assigned (sym e ∙ ap or_unassigned i)))

  -- and a word of a row's range is of its class
  pub in_range : (k : ℕ) → k < length book → Within w (page_range (nth k).class) → class_of w ≡ (nth k).class
  in_range k h i =
      let m = nth_row book k (row 0 0 unassigned) h in
      let j = subst (Within w) (sym (spans (nth k) m)) i in
      of_row (nth k) m (in_span (nth k) w j.0 j.1)

  -- T2: of each class exactly the words of its printed range
  pub ranges : (k : ℕ) → k < length book → (class_of w ≡ (nth k).class) ↔ Within w (page_range (nth k).class)
  ranges k h = (λ e. ranged (nth k).class e (assigns (nth k) (nth_row book k (row 0 0 unassigned) h)), in_range k h)

  -- and unassigned are exactly the words of no range
  pub unassigned_words : (class_of w ≡ unassigned) ↔ ((r : Row Class) → Memᴰ r book → Within w (page_range r.class) → ⊥)
  unfolding class_of
  unassigned_words = (λ e r m i. outside e r m i, λ n. go n (searched book w))
    where
      outside : class_of w ≡ unassigned → (r : Row Class) → Memᴰ r book → Within w (page_range r.class) → ⊥
      outside e r m i =
          let j = subst (Within w) (sym (spans r m)) i in
          true≢false (sym (assigns r m) ∙ ap assigned (sym (of_row r m (in_span r w j.0 j.1)) ∙ e))

      go : ((r : Row Class) → Memᴰ r book → Within w (page_range r.class) → ⊥) → Searched book w → class_of w ≡ unassigned
      go n (hit r m h i) = absurd (n r m (subst (Within w) (spans r m) (from_span r w h)))
      go n (miss k i) = ap or_unassigned i
