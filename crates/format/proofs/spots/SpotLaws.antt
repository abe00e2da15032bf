-- Spots among the items: where one stands, what an item with another value keeps, and items with one value replaced.
-- Assumes nothing.
use Prim.Native.Nat.{ℕ, zero, suc, ◌+◌, ◌<◌, ◌≤◌}
use mathlib.Core.Path.{◌≡◌, refl, sym, ap, ap₂, subst, ◌∙◌}
use mathlib.Core.List.{List, [], ◌∷◌, ◌++◌}
use mathlib.Core.Logic.{◌↔◌}
use mathlib.Core.Bool.{Bool, true, false, ◌&&◌}
use mathlib.Core.Option.{none, some}
use native.Mathlib.Omega.{arith}
use lib.Dec.{leb, ltb, eqb}
use lib.ListN.{length, take, length-append}
use lib.Seq.{take_all, take-length}
use borrow.Author.Tests.{eqb-true, eqb-false, eq-eqb, ne_eqb}
use Rattle.format.specs.Words.{pick}
use Rattle.format.specs.Items.{Item, Channel, Histogram, HitCount, Sample, Bin, LastCell, TimeBin, Text, StartEvent, ContinueEvent, EndEvent, words_of, in_range}
use Rattle.format.specs.Frames.{all_words}
use Rattle.format.specs.Spots.{Header, no_header, Spot, spot_of, under, spot_in, value_word, value_words, legal_value, revalued, with_value, under_all, SpotIs}
use Rattle.format.proofs.book.PrefixLaws.{and_left, and_right, and_both}
use Rattle.format.proofs.questions.ItemQuestions.{no_some, some_is, some_word}
use Rattle.format.proofs.rules.AlikeLaws.{blind, same_width}

-- ---- the walk to a spot, a step at a time

spot_here : (k : Header) (at : ℕ) (x : Item) (xs : List Item) (w : ℕ) → w ≡ at → spot_in k at (x ∷ xs) w ≡ spot_of k x
unfolding spot_in
spot_here k at x xs w e = rw (eq-eqb w at e)

spot_next : (k : Header) (at : ℕ) (x : Item) (xs : List Item) (w : ℕ) → (w ≡ at → ⊥)
    → spot_in k at (x ∷ xs) w ≡ spot_in (under k x) (at + length (words_of x)) xs w
unfolding spot_in
spot_next k at x xs w n = rw (ne_eqb w at n)

-- w is the word of an item, or not
here_or_not : {A : Type 0} (w at : ℕ) → (w ≡ at → A) → ((w ≡ at → ⊥) → A) → A
here_or_not {A} w at f g = go (eqb w at) refl
  where
    go : (b : Bool) → eqb w at ≡ b → A
    go true e = f (eqb-true w at e)
    go false e = g (eqb-false w at e)

-- the words before an item, one item further
words_more : (y : Item) (before : List Item) → length (all_words (y ∷ before)) ≡ length (words_of y) + length (all_words before)
unfolding all_words
words_more y before = length-append (words_of y) (all_words before)

words_none : length (all_words []) ≡ 0
unfolding all_words
words_none = refl

-- ---- a spot by the list's split, from a word and a header on

record Split (k : Header) (at : ℕ) (xs : List Item) (w : ℕ) (p : Spot) : Type 0 where
  before : List Item
  item : Item
  after : List Item
  items : xs ≡ before ++ (item ∷ after)
  index : w ≡ at + length (all_words before)
  spot : spot_of (under_all k before) item ≡ some p

split_here : (k : Header) (at : ℕ) (x : Item) (xs : List Item) (w : ℕ) (p : Spot) → w ≡ at → spot_of k x ≡ some p → Split k at (x ∷ xs) w p
unfolding under_all
split_here k at x xs w p e s = record { before = []; item = x; after = xs; items = refl; index = omega (arith, words_none); spot = s }

split_next : (k : Header) (at : ℕ) (x : Item) (xs : List Item) (w : ℕ) (p : Spot) → Split (under k x) (at + length (words_of x)) xs w p → Split k at (x ∷ xs) w p
unfolding under_all
split_next k at x xs w p s =
    record {
      before = x ∷ s.before;
      item = s.item;
      after = s.after;
      items = ap (λ (l : List Item). x ∷ l) s.items;
      index = let i = s.index in omega (arith, words_more x s.before);
      spot = s.spot;
    }

split_of : (k : Header) (at : ℕ) (xs : List Item) (w : ℕ) (p : Spot) → spot_in k at xs w ≡ some p → Split k at xs w p
unfolding spot_in
split_of k at [] w p e = no_some p e
split_of k at (x ∷ xs) w p e =
    here_or_not w at
    (λ h. split_here k at x xs w p h (sym (spot_here k at x xs w h) ∙ e))
    (λ n. split_next k at x xs w p (split_of (under k x) (at + length (words_of x)) xs w p (sym (spot_next k at x xs w n) ∙ e)))

split_spot : (before : List Item) (x : Item) (after : List Item) (k : Header) (at w : ℕ) → w ≡ at + length (all_words before)
    → spot_in k at (before ++ (x ∷ after)) w ≡ spot_of (under_all k before) x
unfolding under_all
split_spot [] x after k at w e = spot_here k at x after w (omega (arith, words_none))
split_spot (y ∷ before) x after k at w e =
    let m = words_more y before in
    let n = some_word y in
    spot_next k at y (before ++ (x ∷ after)) w (λ h. omega arith)
    ∙ split_spot before x after (under k y) (at + length (words_of y)) w (omega arith)

-- a spot stands at word w exactly where an item is that spot and the words before it end there
pub spot_exactly : (xs : List Item) (w : ℕ) (p : Spot) → (spot_in no_header 3 xs w ≡ some p) ↔ SpotIs xs w p
spot_exactly xs w p = (
  λ e. let s = split_of no_header 3 xs w p e in record { before = s.before; item = s.item; after = s.after; items = s.items; index = s.index; spot = s.spot },
  λ i. ap (λ (l : List Item). spot_in no_header 3 l w) i.items ∙ split_spot i.before i.item i.after no_header 3 w i.index ∙ i.spot,
)

-- no spot stands before the items, nor within one: the words after an item's first are data
spot_before : (k : Header) (at : ℕ) (xs : List Item) (w : ℕ) → w < at → spot_in k at xs w ≡ none
unfolding spot_in
spot_before k at [] w h = refl
spot_before k at (x ∷ xs) w h = spot_next k at x xs w (λ e. omega arith) ∙ spot_before (under k x) (at + length (words_of x)) xs w (omega arith)

pub spot_within : (before : List Item) (x : Item) (after : List Item) (k : Header) (at d : ℕ) → 1 ≤ d → d < length (words_of x)
    → spot_in k at (before ++ (x ∷ after)) (at + length (all_words before) + d) ≡ none
spot_within [] x after k at d h l =
    let z = words_none in
    spot_next k at x after _ (λ e. omega arith) ∙ spot_before (under k x) (at + length (words_of x)) after _ (omega arith)
spot_within (y ∷ before) x after k at d h l =
    let m = words_more y before in
    let n = some_word y in
    let e : at + length (all_words (y ∷ before)) + d ≡ at + length (words_of y) + length (all_words before) + d = omega arith in
    spot_next k at y (before ++ (x ∷ after)) _ (λ q. omega arith)
    ∙ ap (spot_in (under k y) (at + length (words_of y)) (before ++ (x ∷ after))) e
    ∙ spot_within before x after (under k y) (at + length (words_of y)) d h l

-- ---- what an item that is a spot keeps with another value

pub record Valued (k : Header) (x : Item) (p : Spot) : Type 0 where
  -- its words, the last of which hold the value
  pub lead : List ℕ
  pub words : (v : ℕ) → words_of (with_value x v) ≡ lead ++ value_words p.kind v
  pub starts : (w : ℕ) → value_word p.kind w ≡ w + length lead
  pub as_long : (u v : ℕ) → length (value_words p.kind u) ≡ length (value_words p.kind v)
  -- its own value, and another
  pub own : with_value x p.value ≡ x
  pub other : (v : ℕ) → spot_of k (with_value x v) ≡ some (revalued p v)
  pub ranged : (card v : ℕ) → in_range card x ≡ true → legal_value p.kind v ≡ true → in_range card (with_value x v) ≡ true
  pub standing : (card : ℕ) → in_range card x ≡ true → legal_value p.kind p.value ≡ true

sample_valued : (k : Header) (v : ℕ) → Valued k (Sample v) (record { kind = 1; value = v; header = k })
unfolding words_of legal_value
sample_valued k v =
    record {
      lead = [];
      words = λ v. refl;
      starts = λ w. omega arith;
      as_long = λ u v. refl;
      own = refl;
      other = λ v. refl;
      ranged = λ card v r l. l;
      standing = λ card r. r;
    }

bin_valued : (k : Header) (b n : ℕ) → Valued k (Bin b n) (record { kind = 2; value = n; header = k })
unfolding words_of legal_value
bin_valued k b n =
    record {
      lead = (0x2000 + b) ∷ [];
      words = λ v. refl;
      starts = λ w. refl;
      as_long = λ u v. refl;
      own = refl;
      other = λ v. refl;
      standing = λ card r.
          and_both _ _ (and_left (leb 1 n) (leb b 4095 && ltb n 4294967296) r) (and_right (leb b 4095) (ltb n 4294967296) (and_right (leb 1 n) (leb b 4095 && ltb n 4294967296) r));
      ranged = λ card v r l.
          and_both _ _ (and_left (leb 1 v) (ltb v 4294967296) l)
          (and_both _ _ (and_left (leb b 4095) (ltb n 4294967296) (and_right (leb 1 n) (leb b 4095 && ltb n 4294967296) r)) (and_right (leb 1 v) (ltb v 4294967296) l));
    }

pub valued : (k : Header) (x : Item) (p : Spot) → spot_of k x ≡ some p → Valued k x p
valued k (Channel a b c) p e = no_some p e
valued k (Histogram a b c) p e = no_some p e
valued k (HitCount a b c) p e = no_some p e
valued k (Sample v) p e = subst (Valued k (Sample v)) (some_is _ p e) (sample_valued k v)
valued k (Bin b n) p e = subst (Valued k (Bin b n)) (some_is _ p e) (bin_valued k b n)
valued k (LastCell a b) p e = no_some p e
valued k (TimeBin t) p e = no_some p e
valued k (Text s) p e = no_some p e
valued k (StartEvent t ts n) p e = no_some p e
valued k (ContinueEvent n) p e = no_some p e
valued k (EndEvent n) p e = no_some p e

-- ---- the items with the value v in the one at word w

unfoldable pub replaced : ℕ → List Item → ℕ → ℕ → List Item
replaced at [] w v = []
replaced at (x ∷ xs) w v = pick (eqb w at) (with_value x v) x ∷ replaced (at + length (words_of x)) xs w v

here : (at : ℕ) (x : Item) (xs : List Item) (w v : ℕ) → w ≡ at → replaced at (x ∷ xs) w v ≡ with_value x v ∷ replaced (at + length (words_of x)) xs w v
unfolding replaced
here at x xs w v e = rw (eq-eqb w at e)

next : (at : ℕ) (x : Item) (xs : List Item) (w v : ℕ) → (w ≡ at → ⊥) → replaced at (x ∷ xs) w v ≡ x ∷ replaced (at + length (words_of x)) xs w v
unfolding replaced
next at x xs w v n = rw (ne_eqb w at n)

before_all : (at : ℕ) (xs : List Item) (w v : ℕ) → w < at → replaced at xs w v ≡ xs
unfolding replaced
before_all at [] w v h = refl
before_all at (x ∷ xs) w v h = next at x xs w v (λ e. omega arith) ∙ ap (λ (l : List Item). x ∷ l) (before_all (at + length (words_of x)) xs w v (omega arith))

-- it is the item that stands there, and no other
pub replaced_split : (before : List Item) (x : Item) (after : List Item) (at w v : ℕ) → w ≡ at + length (all_words before)
    → replaced at (before ++ (x ∷ after)) w v ≡ before ++ (with_value x v ∷ after)
replaced_split [] x after at w v e =
    let n = some_word x in
    let z = words_none in
    here at x after w v (omega arith) ∙ ap (λ (l : List Item). with_value x v ∷ l) (before_all (at + length (words_of x)) after w v (omega arith))
replaced_split (y ∷ before) x after at w v e =
    let m = words_more y before in
    let n = some_word y in
    next at y (before ++ (x ∷ after)) w v (λ h. omega arith)
    ∙ ap (λ (l : List Item). y ∷ l) (replaced_split before x after (at + length (words_of y)) w v (omega arith))

-- items as wide and under the same header give the same further spots and replacements
pub same_under : (k : Header) (x : Item) (v : ℕ) → under k (with_value x v) ≡ under k x
same_under k = blind (under k) (λ m n. refl) (λ b m n. refl)

-- every other spot is as it was
pub replaced_elsewhere : (k : Header) (at : ℕ) (xs : List Item) (w v u : ℕ) → (u ≡ w → ⊥) → spot_in k at (replaced at xs w v) u ≡ spot_in k at xs u
unfolding replaced
replaced_elsewhere k at [] w v u n = refl
replaced_elsewhere k at (x ∷ xs) w v u n =
    let further = replaced_elsewhere (under k x) (at + length (words_of x)) xs w v u n in
    let rest : List Item = replaced (at + length (words_of x)) xs w v in
    here_or_not w at
    (λ e. ap (λ (l : List Item). spot_in k at l u) (here at x xs w v e)
    ∙ spot_next k at (with_value x v) rest u (λ h. n (h ∙ sym e))
    ∙ ap₂ (λ (j : Header) (i : ℕ). spot_in j (at + i) rest u) (same_under k x v) (same_width x v)
    ∙ further
    ∙ sym (spot_next k at x xs u (λ h. n (h ∙ sym e))))
    (λ e. ap (λ (l : List Item). spot_in k at l u) (next at x xs w v e)
    ∙ here_or_not u at
    (λ h. spot_here k at x rest u h ∙ sym (spot_here k at x xs u h))
    (λ h. spot_next k at x rest u h ∙ further ∙ sym (spot_next k at x xs u h)))

-- and values in two items may be replaced in either order
module _ (at : ℕ) (y : Item) (ys : List Item) where
  first_of_two : (w v u x : ℕ) → w ≡ at → (u ≡ w → ⊥)
      → replaced (at + length (words_of y)) (replaced (at + length (words_of y)) ys w v) u x ≡ replaced (at + length (words_of y)) (replaced (at + length (words_of y)) ys u x) w v
      → replaced at (replaced at (y ∷ ys) w v) u x ≡ replaced at (replaced at (y ∷ ys) u x) w v
  first_of_two w v u x e n further =
      ap (λ (l : List Item). replaced at l u x) (here at y ys w v e)
      ∙ next at (with_value y v) (replaced (at + length (words_of y)) ys w v) u x (λ h. n (h ∙ sym e))
      ∙ ap (λ (i : ℕ). with_value y v ∷ replaced (at + i) (replaced (at + length (words_of y)) ys w v) u x) (same_width y v)
      ∙ ap (λ (l : List Item). with_value y v ∷ l) further
      ∙ sym (ap (λ (l : List Item). replaced at l w v) (next at y ys u x (λ h. n (h ∙ sym e))) ∙ here at y (replaced (at + length (words_of y)) ys u x) w v e)

  neither_of_two : (w v u x : ℕ) → (w ≡ at → ⊥) → (u ≡ at → ⊥)
      → replaced (at + length (words_of y)) (replaced (at + length (words_of y)) ys w v) u x ≡ replaced (at + length (words_of y)) (replaced (at + length (words_of y)) ys u x) w v
      → replaced at (replaced at (y ∷ ys) w v) u x ≡ replaced at (replaced at (y ∷ ys) u x) w v
  neither_of_two w v u x d e further =
      ap (λ (l : List Item). replaced at l u x) (next at y ys w v d)
      ∙ next at y (replaced (at + length (words_of y)) ys w v) u x e
      ∙ ap (λ (l : List Item). y ∷ l) further
      ∙ sym (ap (λ (l : List Item). replaced at l w v) (next at y ys u x e) ∙ next at y (replaced (at + length (words_of y)) ys u x) w v d)

pub replaced_apart : (at : ℕ) (xs : List Item) (w v u x : ℕ) → (u ≡ w → ⊥) → replaced at (replaced at xs w v) u x ≡ replaced at (replaced at xs u x) w v
unfolding replaced
replaced_apart at [] w v u x n = refl
replaced_apart at (y ∷ ys) w v u x n =
    let further = replaced_apart (at + length (words_of y)) ys w v u x n in
    here_or_not w at
    (λ d. first_of_two at y ys w v u x d n further)
    (λ d. here_or_not u at (λ e. sym (first_of_two at y ys u x w v e (λ h. n (sym h)) (sym further))) (λ e. neither_of_two at y ys w v u x d e further))

-- twice at one word: the later value
pub replaced_again : (at : ℕ) (xs : List Item) (w v x : ℕ) → replaced at (replaced at xs w v) w x ≡ replaced at xs w x
unfolding replaced
replaced_again at [] w v x = refl
replaced_again at (y ∷ ys) w v x =
    let a : ℕ = at + length (words_of y) in
    let further = replaced_again a ys w v x in
    here_or_not w at
    (λ e. ap (λ (l : List Item). replaced at l w x) (here at y ys w v e)
    ∙ here at (with_value y v) (replaced a ys w v) w x e
    ∙ ap₂ (λ (z : Item) (i : ℕ). z ∷ replaced (at + i) (replaced a ys w v) w x) (blind (λ (z : Item). with_value z x) (λ m n. refl) (λ b m n. refl) y v) (same_width y v)
    ∙ ap (λ (l : List Item). with_value y x ∷ l) further
    ∙ sym (here at y ys w x e))
    (λ e. ap (λ (l : List Item). replaced at l w x) (next at y ys w v e)
    ∙ next at y (replaced a ys w v) w x e
    ∙ ap (λ (l : List Item). y ∷ l) further
    ∙ sym (next at y ys w x e))

-- every item begins where it began
pub replaced_words : (n at : ℕ) (xs : List Item) (w v : ℕ) → length (all_words (take n (replaced at xs w v))) ≡ length (all_words (take n xs))
unfolding replaced
replaced_words zero at xs w v = refl
replaced_words (suc n) at [] w v = refl
replaced_words (suc n) at (x ∷ xs) w v =
    let further = replaced_words n (at + length (words_of x)) xs w v in
    let l : List Item = take n (replaced (at + length (words_of x)) xs w v) in
    let width : length (words_of (pick (eqb w at) (with_value x v) x)) ≡ length (words_of x) = go (eqb w at) in
    words_more (pick (eqb w at) (with_value x v) x) l ∙ ap₂ ◌+◌ width further ∙ sym (words_more x (take n xs))
  where
    go : (b : Bool) → length (words_of (pick b (with_value x v) x)) ≡ length (words_of x)
    go true = same_width x v
    go false = refl

pub replaced_length : (at : ℕ) (xs : List Item) (w v : ℕ) → length (replaced at xs w v) ≡ length xs
unfolding replaced
replaced_length at [] w v = refl
replaced_length at (x ∷ xs) w v = ap suc (replaced_length (at + length (words_of x)) xs w v)

pub replaced_all : (at : ℕ) (xs : List Item) (w v : ℕ) → length (all_words (replaced at xs w v)) ≡ length (all_words xs)
replaced_all at xs w v =
    let n = replaced_length at xs w v in
    ap (λ (l : List Item). length (all_words l)) (sym (take_all (length xs) (replaced at xs w v) (omega arith)))
    ∙ replaced_words (length xs) at xs w v
    ∙ ap (λ (l : List Item). length (all_words l)) (take-length xs)
