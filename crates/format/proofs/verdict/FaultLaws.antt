-- What the tests of a frame decide: which of rules 1 to 5 is broken first, and which of 6 to 10 at one item.
-- Assumes nothing.
use Prim.Native.Nat.{ℕ, suc, ◌+◌, ◌-◌, ◌*◌, ◌/◌, ◌%◌, ◌<◌, ◌≤◌}
use mathlib.Core.Path.{◌≡◌, refl, sym, ap, ◌∙◌}
use mathlib.Core.List.{List, ◌∷◌, ◌++◌}
use mathlib.Core.Bool.{Bool, true, false, ◌&&◌, true≢false}
use mathlib.Core.Option.{Option, none, some}
use native.Mathlib.Omega.{arith}
use lib.Dec.{T, leb, eqb}
use lib.ListN.{length, get_or, take, drop, length-drop, take-append-drop}
use lib.Seq.{drop-cons, get_or-take, length-take-le}
use borrow.Author.Tests.{leb-true, leb-false, eqb-true, eqb-false}
use Rattle.format.specs.Words.{Bytes, words, word_at}
use Rattle.format.specs.Book.{Class, channel, histogram, hit_count, sample, bin, last_cell, time_bin, data_frame, monitor_frame, command_frame, text, start_event, continue_event, end_event, frame_end, unassigned, class_of, after, assigned}
use Rattle.format.specs.Items.{Item, class_for, words_of, fits, in_range, decode, Token, whole, broken, token_for, token_of, tokens}
use Rattle.format.specs.Rules.{place, sized, value, order, bad, check}
use Rattle.format.specs.Frames.{Allowed, is_start, length_fits, start_fits, last_of, head_fault, kind_in, card_in}
use Rattle.format.specs.Faults.{HeadBroken, odd, under, over, no_start, other_version, other_size, high_sequence, no_end, after_at, words_at, ItemBroken, no_class, cut, misplaced, misvalued, disordered, First}
use Rattle.format.specs.Fields.{Read}
use Rattle.format.proofs.book.PrefixLaws.{and_left, and_right}
use Rattle.format.proofs.items.WordLaws.{length_words, word_at_lem, words_below, below_take, below_drop}
use Rattle.format.proofs.items.PartLaws.{part_take}
use Rattle.format.proofs.items.ItemLaws.{read_written, written_read}
use Rattle.format.proofs.rules.LimitLaws.{range_fits}

-- of two first numbers neither is below the other
pub one_first : (Broken : ℕ → Type 0) (m n : ℕ) → First Broken m → First Broken n → m ≡ n
one_first Broken m n f g = go (leb m n) refl (leb n m) refl
  where
    go : (b : Bool) → leb m n ≡ b → (c : Bool) → leb n m ≡ c → m ≡ n
    go true e true h = omega (arith, leb-true)
    go true e false h = absurd (g.earlier m (omega (arith, leb-false)) f.broken)
    go false e c h = absurd (f.earlier n (omega (arith, leb-false)) g.broken)

-- a rule from the one in question on is not asked
pub no : {A : Type 0} {m n : ℕ} → T (leb n m) → m < n → A
no {A} {m} {n} t l = go (leb n m) refl t
  where
    go : (b : Bool) → leb n m ≡ b → T b → A
    go true e t = absurd (omega (arith, leb-true))
    go false e t = absurd t

-- ---- rules 1 to 5

pub data HeadJudged (s : List ℕ) : Type 0 where
  fine : head_fault s ≡ 0 → ((m : ℕ) → HeadBroken s m → ⊥) → HeadJudged s
  faulty : (n : ℕ) → head_fault s ≡ suc n → First (HeadBroken s) (suc n) → HeadJudged s

pub head_number : (s : List ℕ) (m : ℕ) → HeadBroken s m → (1 ≤ m) × (m ≤ 5)
head_number s m (odd e) = (omega arith, omega arith)
head_number s m (under e) = (omega arith, omega arith)
head_number s m (over e) = (omega arith, omega arith)
head_number s m (no_start e) = (omega arith, omega arith)
head_number s m (other_version e) = (omega arith, omega arith)
head_number s m (other_size e) = (omega arith, omega arith)
head_number s m (high_sequence e) = (omega arith, omega arith)
head_number s m (no_end e) = (omega arith, omega arith)

module _ (s : List ℕ) where
  -- where the tests below n hold, no rule below n is broken
  head_holds : (n : ℕ) → (1 < n → length_fits (length s) ≡ true) → (2 < n → start_fits (word_at s 0) ≡ true)
      → (3 < n → eqb (word_at s 1) (length s) ≡ true) → (4 < n → leb (word_at s 2) 0x0100 ≡ true)
      → (5 < n → eqb (word_at s (last_of s)) 0x000F ≡ true) → (m : ℕ) → m < n → HeadBroken s m → ⊥
  head_holds n a b c d e m l (odd h) =
      let f = and_left (eqb (length s % 2) 0 && leb 8 (length s)) (leb (length s) 8192) (a l) in
      let g = eqb-true (length s % 2) 0 (and_left (eqb (length s % 2) 0) (leb 8 (length s)) f) in
      omega arith
  head_holds n a b c d e m l (under h) =
      let f = and_left (eqb (length s % 2) 0 && leb 8 (length s)) (leb (length s) 8192) (a l) in
      let g = leb-true 8 (length s) (and_right (eqb (length s % 2) 0) (leb 8 (length s)) f) in
      omega arith
  head_holds n a b c d e m l (over h) =
      let g = leb-true (length s) 8192 (and_right (eqb (length s % 2) 0 && leb 8 (length s)) (leb (length s) 8192) (a l)) in
      omega arith
  head_holds n a b c d e m l (no_start h) = true≢false (sym (and_left (is_start (class_of (word_at s 0))) (eqb (word_at s 0 / 32 % 16) 0) (b l)) ∙ h)
  head_holds n a b c d e m l (other_version h) = h (eqb-true (word_at s 0 / 32 % 16) 0 (and_right (is_start (class_of (word_at s 0))) (eqb (word_at s 0 / 32 % 16) 0) (b l)))
  head_holds n a b c d e m l (other_size h) = h (eqb-true (word_at s 1) (length s) (c l))
  head_holds n a b c d e m l (high_sequence h) = let g = leb-true (word_at s 2) 0x0100 (d l) in omega arith
  head_holds n a b c d e m l (no_end h) = h (eqb-true (word_at s (last_of s)) 0x000F (e l))

  length_broken : length_fits (length s) ≡ false → HeadBroken s 1
  length_broken e = go (eqb (length s % 2) 0) refl (leb 8 (length s)) refl (leb (length s) 8192) refl e
    where
      go : (a : Bool) → eqb (length s % 2) 0 ≡ a → (b : Bool) → leb 8 (length s) ≡ b → (c : Bool) → leb (length s) 8192 ≡ c → a && b && c ≡ false → HeadBroken s 1
      go false f b g c h i = odd (let n = eqb-false (length s % 2) 0 f in odd_of (length s) n)
        where
          odd_of : (n : ℕ) → (n % 2 ≡ 0 → ⊥) → n % 2 ≡ 1
          odd_of n h = omega arith
      go true f false g c h i = under (leb-false 8 (length s) g)
      go true f true g false h i = over (leb-false (length s) 8192 h)
      go true f true g true h i = absurd (true≢false i)

  start_broken : start_fits (word_at s 0) ≡ false → HeadBroken s 2
  start_broken e = go (is_start (class_of (word_at s 0))) refl (eqb (word_at s 0 / 32 % 16) 0) refl e
    where
      go : (a : Bool) → is_start (class_of (word_at s 0)) ≡ a → (b : Bool) → eqb (word_at s 0 / 32 % 16) 0 ≡ b → a && b ≡ false → HeadBroken s 2
      go false f b g i = no_start f
      go true f false g i = other_version (eqb-false (word_at s 0 / 32 % 16) 0 g)
      go true f true g i = absurd (true≢false i)

  -- the tests' answer is the first broken rule, or no rule is broken
  pub head_judged : HeadJudged s
  unfolding head_fault
  head_judged = go (length_fits (length s)) refl (start_fits (word_at s 0)) refl (eqb (word_at s 1) (length s)) refl (leb (word_at s 2) 0x0100) refl (eqb (word_at s (last_of s)) 0x000F) refl
    where
      go : (t₁ : Bool) → length_fits (length s) ≡ t₁ → (t₂ : Bool) → start_fits (word_at s 0) ≡ t₂ → (t₃ : Bool) → eqb (word_at s 1) (length s) ≡ t₃
          → (t₄ : Bool) → leb (word_at s 2) 0x0100 ≡ t₄ → (t₅ : Bool) → eqb (word_at s (last_of s)) 0x000F ≡ t₅ → HeadJudged s
      go false e₁ t₂ e₂ t₃ e₃ t₄ e₄ t₅ e₅ =
          faulty 0 (rw e₁) (record { broken = length_broken e₁; earlier = head_holds 1 (no tt) (no tt) (no tt) (no tt) (no tt) })
      go true e₁ false e₂ t₃ e₃ t₄ e₄ t₅ e₅ =
          faulty 1 (rw (e₁, e₂)) (record { broken = start_broken e₂; earlier = head_holds 2 (λ l. e₁) (no tt) (no tt) (no tt) (no tt) })
      go true e₁ true e₂ false e₃ t₄ e₄ t₅ e₅ =
          faulty 2 (rw (e₁, e₂, e₃)) (record { broken = other_size (eqb-false (word_at s 1) (length s) e₃); earlier = head_holds 3 (λ l. e₁) (λ l. e₂) (no tt) (no tt) (no tt) })
      go true e₁ true e₂ true e₃ false e₄ t₅ e₅ =
          faulty 3 (rw (e₁, e₂, e₃, e₄)) (record { broken = high_sequence (leb-false (word_at s 2) 0x0100 e₄); earlier = head_holds 4 (λ l. e₁) (λ l. e₂) (λ l. e₃) (no tt) (no tt) })
      go true e₁ true e₂ true e₃ true e₄ false e₅ =
          faulty 4 (rw (e₁, e₂, e₃, e₄, e₅)) (record { broken = no_end (eqb-false (word_at s (last_of s)) 0x000F e₅); earlier = head_holds 5 (λ l. e₁) (λ l. e₂) (λ l. e₃) (λ l. e₄) (no tt) })
      go true e₁ true e₂ true e₃ true e₄ true e₅ =
          fine (rw (e₁, e₂, e₃, e₄, e₅)) (λ m b. let l = (head_number s m b).1 in head_holds 6 (λ l. e₁) (λ l. e₂) (λ l. e₃) (λ l. e₄) (λ l. e₅) m (omega arith) b)

-- ---- rules 6 to 10

none_of : (c : Class) → assigned c ≡ false → c ≡ unassigned
none_of channel e = absurd (true≢false e)
none_of histogram e = absurd (true≢false e)
none_of hit_count e = absurd (true≢false e)
none_of sample e = absurd (true≢false e)
none_of bin e = absurd (true≢false e)
none_of last_cell e = absurd (true≢false e)
none_of time_bin e = absurd (true≢false e)
none_of data_frame e = absurd (true≢false e)
none_of monitor_frame e = absurd (true≢false e)
none_of command_frame e = absurd (true≢false e)
none_of text e = absurd (true≢false e)
none_of start_event e = absurd (true≢false e)
none_of continue_event e = absurd (true≢false e)
none_of end_event e = absurd (true≢false e)
none_of frame_end e = absurd (true≢false e)
none_of unassigned e = refl

whole_item : (x y : Item) → whole x ≡ whole y → x ≡ y
whole_item x y e = cc

no_whole : {A : Type 0} (c : Class) (x : Item) → broken c ≡ whole x → A
no_whole c x e = let z : ◌≡◌ {A = ℕ} 0 1 = cc in absurd (omega arith)

-- the words of an item that fits its fields are read as it, whatever comes after them
pub token_of_lem : (w : ℕ) (ws : List ℕ) (x : Item) → fits x ≡ true → take (suc (after (class_of w) w)) (w ∷ ws) ≡ words_of x → token_of w ws ≡ whole x
unfolding tokens
token_of_lem w ws x f e =
    let k : ℕ = after (class_of w) w in
    let r : w ∷ ws ≡ words_of x ++ drop k ws = sym (take-append-drop (suc k) (w ∷ ws)) ∙ ap (λ (l : List ℕ). l ++ drop k ws) e in
    first_token _ _ _ _ (ap (tokens 0) r ∙ read_written x (drop k ws) f)
  where
    first_token : (t u : Token) (ts us : List Token) → t ∷ ts ≡ u ∷ us → t ≡ u
    first_token t u ts us e = cc

pub item_number : (s : List ℕ) (end : ℕ) (q : List Item) (p m : ℕ) → ItemBroken s end q p m → (6 ≤ m) × (m ≤ 10)
item_number s end q p m (no_class e) = (omega arith, omega arith)
item_number s end q p m (cut e) = (omega arith, omega arith)
item_number s end q p m (misplaced e) = (omega arith, omega arith)
item_number s end q p m (misvalued e) = (omega arith, omega arith)
item_number s end q p m (disordered x e f g) = (omega arith, omega arith)

-- the words before word `end`, and those of them after word p
abbrev pub up_to : List ℕ → ℕ → List ℕ
up_to s end = take end (words s)

abbrev pub left : List ℕ → ℕ → ℕ → List ℕ
left s end p = drop (suc p) (up_to s end)

pub up_to_length : (s : List ℕ) (end : ℕ) → 2 * end ≤ length s → length (up_to s end) ≡ end
up_to_length s end h = length-take-le end (words s) (omega (arith, length_words s))

pub up_to_below : (s : List ℕ) (end : ℕ) → Bytes s → (i : ℕ) → get_or (up_to s end) i 0 < 65536
up_to_below s end bs = below_take end (words s) 65536 (omega arith) (words_below s bs)

pub from_word : (s : List ℕ) (end p : ℕ) → 2 * end ≤ length s → p < end → drop p (up_to s end) ≡ word_at s p ∷ left s end p
from_word s end p h l =
    drop-cons (up_to s end) p 0 (omega (arith, up_to_length s end h))
    ∙ ap (λ (w : ℕ). w ∷ left s end p) (get_or-take end (words s) p 0 l ∙ word_at_lem s p)

pub data ItemJudged (s : List ℕ) (end : ℕ) (q : List Item) (p : ℕ) : Type 0 where
  fine : (x : Item) → token_of (word_at s p) (left s end p) ≡ whole x → Allowed (kind_in s) (card_in s) q x → ((m : ℕ) → ItemBroken s end q p m → ⊥) → ItemJudged s end q p
  faulty : (n : ℕ) → check (kind_in s) (card_in s) q (token_of (word_at s p) (left s end p)) ≡ bad n → First (ItemBroken s end q p) n → ItemJudged s end q p

module _ (s : List ℕ) (bs : Bytes s) (end : ℕ) (enough : 2 * end ≤ length s) (q : List Item) (p : ℕ) (l : p < end) where
  -- the words of an item that is not cut
  these : p + after_at s p < end → take (suc (after_at s p)) (word_at s p ∷ left s end p) ≡ words_at s p
  these r = ap (take (suc (after_at s p))) (sym (from_word s end p enough l)) ∙ part_take (suc (after_at s p)) p end (words s) (omega arith)

  -- an item in these words whose value rules hold is the one that is read
  the_token : p + after_at s p < end → (x : Item) → words_at s p ≡ words_of x → value (card_in s) q x ≡ true → token_of (word_at s p) (left s end p) ≡ whole x
  the_token r x e v =
      token_of_lem (word_at s p) (left s end p) x (range_fits (card_in s) x (and_left (in_range (card_in s) x) (sized q x) v)) (these r ∙ e)

  read_item : (x : Item) → token_of (word_at s p) (left s end p) ≡ whole x → Read (word_at s p) (take (after_at s p) (left s end p)) x
  read_item x e = written_read (word_at s p) (left s end p) x (below_drop (suc p) (up_to s end) 65536 (up_to_below s end bs)) e

  read_words : p + after_at s p < end → (x : Item) → token_of (word_at s p) (left s end p) ≡ whole x → words_at s p ≡ words_of x
  read_words r x e = sym (these r) ∙ (read_item x e).words

  -- where the tests below n hold, no rule below n is broken
  item_holds : (n : ℕ) → (6 < n → assigned (class_of (word_at s p)) ≡ true) → (7 < n → p + after_at s p < end)
      → (8 < n → place (kind_in s) q (class_of (word_at s p)) ≡ true)
      → (9 < n → (x : Item) × (token_of (word_at s p) (left s end p) ≡ whole x) × (value (card_in s) q x ≡ true))
      → (10 < n → (x : Item) × (token_of (word_at s p) (left s end p) ≡ whole x) × (order q x ≡ true))
      → (m : ℕ) → m < n → ItemBroken s end q p m → ⊥
  item_holds n a b c d e m h (no_class f) = true≢false (sym (a h) ∙ ap assigned f)
  item_holds n a b c d e m h (cut f) = let g = b h in omega arith
  item_holds n a b c d e m h (misplaced f) = true≢false (sym (c h) ∙ f)
  item_holds n a b c d e m h (misvalued f) = let (x, t, v) = d h in f x (read_words (b (omega arith)) x t) v
  item_holds n a b c d e m h (disordered x f v o) =
      let (y, t, g) = e h in
      true≢false (sym g ∙ ap (order q) (whole_item y x (sym t ∙ the_token (b (omega arith)) x f v)) ∙ o)

  room : length (left s end p) ≡ end - suc p
  room = length-drop (suc p) (up_to s end) ∙ ap (λ (n : ℕ). n - suc p) (up_to_length s end enough)

  -- an item that is whole and stands in its place
  module _ (a : assigned (class_of (word_at s p)) ≡ true) (r : p + after_at s p < end) (pl : place (kind_in s) q (class_of (word_at s p)) ≡ true) where
    whole_judged : (x : Item) → token_of (word_at s p) (left s end p) ≡ whole x → ItemJudged s end q p
    unfolding check
    whole_judged x t = by_value (value (card_in s) q x) refl (order q x) refl
      where
        placed : place (kind_in s) q (class_for x) ≡ true
        placed = ap (place (kind_in s) q) (read_item x t).class ∙ pl

        by_value : (b : Bool) → value (card_in s) q x ≡ b → (d : Bool) → order q x ≡ d → ItemJudged s end q p
        by_value true v true o =
            fine x t (record { placed = placed; valued = v; ordered = o })
            (λ m b. let h = (item_number s end q p m b).1 in item_holds 11 (λ l. a) (λ l. r) (λ l. pl) (λ l. (x, t, v)) (λ l. (x, t, o)) m (omega arith) b)
        by_value true v false o =
            faulty 10 (rw (t, placed, v, o))
            (record { broken = disordered x (read_words r x t) v o; earlier = item_holds 10 (λ l. a) (λ l. r) (λ l. pl) (λ l. (x, t, v)) (no tt) })
        by_value false v d o =
            faulty 9 (rw (t, placed, v))
            (record {
              broken = misvalued (λ y e g. true≢false (sym g ∙ ap (value (card_in s) q) (whole_item y x (sym (the_token r y e g) ∙ t)) ∙ v));
              earlier = item_holds 9 (λ l. a) (λ l. r) (λ l. pl) (no tt) (no tt);
            })

    -- words in their place that are no item's
    broken_judged : token_of (word_at s p) (left s end p) ≡ broken (class_of (word_at s p)) → ItemJudged s end q p
    unfolding check
    broken_judged t =
        faulty 9 (rw (t, pl))
        (record {
          broken = misvalued (λ y e g. no_whole (class_of (word_at s p)) y (sym t ∙ the_token r y e g));
          earlier = item_holds 9 (λ l. a) (λ l. r) (λ l. pl) (no tt) (no tt);
        })

  -- words out of their place
  misplaced_check : (o : Option Item) → token_of (word_at s p) (left s end p) ≡ token_for (class_of (word_at s p)) o → place (kind_in s) q (class_of (word_at s p)) ≡ false
      → check (kind_in s) (card_in s) q (token_of (word_at s p) (left s end p)) ≡ bad 8
  unfolding check
  misplaced_check none t e = rw (t, e)
  misplaced_check (some x) t e = rw (t, ap (place (kind_in s) q) (read_item x t).class ∙ e)

  -- the tests' answer is the first broken rule, or no rule is broken
  pub item_judged : ItemJudged s end q p
  unfolding token_of check
  item_judged = by_class (assigned (class_of (word_at s p))) refl (leb (after_at s p) (length (left s end p))) refl
    where
      by_place : (o : Option Item) → token_of (word_at s p) (left s end p) ≡ token_for (class_of (word_at s p)) o → assigned (class_of (word_at s p)) ≡ true
          → p + after_at s p < end → (b : Bool) → place (kind_in s) q (class_of (word_at s p)) ≡ b → ItemJudged s end q p
      by_place none t a r true e = broken_judged a r e t
      by_place (some x) t a r true e = whole_judged a r e x t
      by_place o t a r false e =
          faulty 8 (misplaced_check o t e)
          (record { broken = misplaced e; earlier = item_holds 8 (λ l. a) (λ l. r) (no tt) (no tt) (no tt) })

      by_class : (b : Bool) → assigned (class_of (word_at s p)) ≡ b → (d : Bool) → leb (after_at s p) (length (left s end p)) ≡ d → ItemJudged s end q p
      by_class false a d r =
          faulty 6 (rw a)
          (record { broken = no_class (none_of _ a); earlier = item_holds 6 (no tt) (no tt) (no tt) (no tt) (no tt) })
      by_class true a false r =
          let h : length (left s end p) < after_at s p = leb-false (after_at s p) (length (left s end p)) r in
          faulty 7 (rw (a, r))
          (record { broken = cut (omega (arith, room)); earlier = item_holds 7 (λ l. a) (no tt) (no tt) (no tt) (no tt) })
      by_class true a true r =
          let h : after_at s p ≤ length (left s end p) = leb-true (after_at s p) (length (left s end p)) r in
          by_place (decode (class_of (word_at s p)) (word_at s p) (take (after_at s p) (left s end p))) (rw (a, r)) a (omega (arith, room))
          (place (kind_in s) q (class_of (word_at s p))) refl
