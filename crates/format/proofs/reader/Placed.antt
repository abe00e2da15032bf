-- Where item n of an accepted frame stands: the word index that a walk notes for it is one at which the item stands whole, so a reader that
-- noted it need not walk again.
-- Assumes nothing.
use Prim.Native.Nat.{ℕ, zero, suc, ◌+◌, ◌*◌, ◌<◌, ◌≤◌}
use mathlib.Core.Path.{◌≡◌, refl, sym, ap, ap₂, subst, ◌∙◌}
use mathlib.Core.List.{List, [], ◌∷◌, map}
use native.Mathlib.Omega.{arith}
use mathlib.Core.Bool.{Bool, true, false}
use mathlib.Core.Option.{Option, none, some}
use lib.Dec.{leb}
use lib.ListN.{length, take, length-append}
use borrow.Author.Tests.{leb-true, leb-false, eq-eqb, ne_eqb}
use Rattle.format.specs.Answers.{Outcome, accepted, refused, and_then}
use Rattle.format.specs.Items.{Item, words_of, Token, whole}
use Rattle.format.specs.Rules.{Kind, total}
use Rattle.format.specs.Frames.{Frame, earlier_then, all_words, last_of, kind_in, card_in, front, body, walk, verdict}
use Rattle.format.specs.Questions.{Found, Shown, IndexedItem, IndexedShown, showing, nth, item_at, shown_at}
use Rattle.format.specs.Cursor.{standing_at, shown_by}
use Rattle.format.specs.Steps.{token_at, next_at, rest, index_in, overview, Indexed, index_of}
use Rattle.format.proofs.verdict.WalkLaws.{walk_step}
use Rattle.format.proofs.verdict.Acceptance.{in_order, length_behind, verdict_of}
use Rattle.format.proofs.reader.StepLaws.{rest_at, rest_empty, next_at_lem}
use Rattle.format.proofs.questions.ItemQuestions.{item_past, item_refused}
use Rattle.format.proofs.reader.CursorLaws.{standing_in, standing_early}

-- ---- what was walked through are whole items

record Wholes (p : List Item) (ts : List Token) (q : List Item) : Type 0 where
  items : List Item
  tokens_are : ts ≡ map whole items
  earlier : q ≡ earlier_then p items

wholes : (kind : Kind) (card : ℕ) (ts : List Token) (p : List Item) (at : ℕ) (q : List Item) → walk kind card p at ts ≡ accepted q → Wholes p ts q
unfolding walk earlier_then
wholes kind card [] p at q e = record { items = []; tokens_are = refl; earlier = cc }
wholes kind card (t ∷ ts) p at q e =
    let s = walk_step kind card p at t ts q e in
    let w = wholes kind card ts (s.item ∷ p) (at + length (words_of s.item)) q s.rest in
    record { items = s.item ∷ w.items; tokens_are = ap₂ ◌∷◌ s.token w.tokens_are; earlier = w.earlier }

body_whole : (s : List ℕ) (f : Frame) → verdict s ≡ accepted f → rest s (last_of s) 3 ≡ map whole f.items
unfolding front
body_whole s f v =
    let j = (verdict_of s f v).judged in
    let w = wholes (kind_in s) (card_in s) (body s) [] 3 j.earlier j.walked in
    let i : earlier_then [] j.earlier ≡ f.items = ap (λ (g : Frame). g.items) j.ended.frame in
    w.tokens_are ∙ ap (map whole) (sym (in_order w.items) ∙ ap (earlier_then []) (sym w.earlier) ∙ i)

-- ---- the index that was noted

kept_index : (n : ℕ) (p xs : List Item) → n < length p → index_in n (earlier_then p xs) ≡ index_in n p
unfolding earlier_then index_in
kept_index n p [] h = refl
kept_index n p (x ∷ xs) h = kept_index n (x ∷ p) xs (omega arith) ∙ (rw (ne_eqb (length p) n (λ e. omega arith)))

index_behind : (n : ℕ) (p xs : List Item) → n < length xs → index_in (length p + n) (earlier_then p xs) ≡ 3 + total p + length (all_words (take n xs))
unfolding earlier_then index_in total all_words
index_behind n p [] h = absurd (omega arith)
index_behind zero p (x ∷ xs) h =
    let e : length p ≡ length p + 0 = omega arith in
    let g : index_in (length p + 0) (x ∷ p) ≡ 3 + total p = rw (eq-eqb (length p) (length p + 0) e) in
    kept_index (length p + 0) (x ∷ p) xs (omega arith) ∙ g ∙ omega arith
index_behind (suc n) p (x ∷ xs) h =
    let e : length p + suc n ≡ length (x ∷ p) + n = omega arith in
    ap (λ (k : ℕ). index_in k (earlier_then (x ∷ p) xs)) e ∙ index_behind n (x ∷ p) xs (omega arith)
    ∙ omega (arith, length-append (words_of x) (all_words (take n xs)))

index_all : (n : ℕ) (xs : List Item) → n < length xs → index_in n (earlier_then [] xs) ≡ 3 + length (all_words (take n xs))
unfolding total
index_all n xs h =
    let e : n ≡ length {A = Item} [] + n = omega arith in
    ap (λ (k : ℕ). index_in k (earlier_then [] xs)) e ∙ index_behind n [] xs h

none_noted : (n : ℕ) (p : List Item) → length p ≤ n → index_in n p ≡ 0
unfolding index_in
none_noted n [] h = refl
none_noted n (x ∷ p) h = rw (ne_eqb (length p) n (λ e. omega arith)) (none_noted n p (omega arith))

-- ---- item n of those from word `at` on

cons_head : (a b : Token) (l m : List Token) → ◌≡◌ {A = List Token} (a ∷ l) (b ∷ m) → a ≡ b
cons_head a b l m e = cc

cons_tail : (a b : Token) (l m : List Token) → ◌≡◌ {A = List Token} (a ∷ l) (b ∷ m) → l ≡ m
cons_tail a b l m e = cc

module _ (s : List ℕ) (last : ℕ) (room : 2 * last ≤ length s + 1) where
  record Stand (n at : ℕ) (xs : List Item) : Type 0 where
    item : Item
    here : ℕ
    here_is : here ≡ at + length (all_words (take n xs))
    token : token_at s last here ≡ whole item
    further : here < next_at s here
    within : next_at s here ≤ last
    answer : nth n at xs ≡ accepted (record { index = here; item = item; next = next_at s here })

  not_past : (at : ℕ) (x : Item) (xs : List Item) → rest s last at ≡ whole x ∷ map whole xs → at < last
  not_past at x xs e = go (leb last at) refl
    where
      no : ◌≡◌ {A = List Token} [] (whole x ∷ map whole xs) → ⊥
      no f = let z : ◌≡◌ {A = ℕ} 0 1 = cc in omega arith

      go : (b : Bool) → leb last at ≡ b → at < last
      go true h = absurd (no (sym (rest_empty s last room at (leb-true last at h)) ∙ e))
      go false h = leb-false last at h

  stand : (n at : ℕ) (xs : List Item) → n < length xs → rest s last at ≡ map whole xs → Stand n at xs
  unfolding nth all_words
  stand n at [] h e = absurd (omega arith)
  stand zero at (x ∷ xs) h e =
      let b = not_past at x xs e in
      let t : token_at s last at ≡ whole x = cons_head _ _ _ _ (sym (rest_at s last room at b) ∙ e) in
      let w = next_at_lem s last room at x b t in
      record {
        item = x;
        here = at;
        here_is = omega arith;
        token = t;
        further = w.further;
        within = w.within;
        answer = ap (λ (k : ℕ). accepted (record { index = at; item = x; next = k })) (sym w.wide);
      }
  stand (suc n) at (x ∷ xs) h e =
      let b = not_past at x xs e in
      let q : token_at s last at ∷ rest s last (next_at s at) ≡ whole x ∷ map whole xs = sym (rest_at s last room at b) ∙ e in
      let w = next_at_lem s last room at x b (cons_head _ _ _ _ q) in
      let d = w.wide in
      let r = stand n (next_at s at) xs (omega arith) (cons_tail _ _ _ _ q) in
      record {
        item = r.item;
        here = r.here;
        here_is = omega (arith, r.here_is, length-append (words_of x) (all_words (take n xs)));
        token = r.token;
        further = r.further;
        within = r.within;
        answer = ap (λ (k : ℕ). nth n k xs) (sym d) ∙ r.answer;
      }

-- ---- the answers

-- item n stands whole at word `at`, and is what the item question finds
pub record Placed (s : List ℕ) (n at : ℕ) : Type 0 where
  pub item : Item
  pub late : 3 ≤ at
  pub token : token_at s (last_of s) at ≡ whole item
  pub further : at < next_at s at
  pub within : next_at s at ≤ last_of s
  pub answer : item_at s n ≡ accepted (record { index = at; item = item; next = next_at s at })

-- what the item question answers where the cursor finds this at word `at`
abbrev pub answer_at : ℕ → Option Shown → Outcome IndexedShown
answer_at at none = refused 13 0
answer_at at (some r) = accepted (record { index = at; item = r.item; next = r.next })

abbrev noting : ℕ → Frame → Indexed
noting n f = record { frame = overview f; index = index_in n (earlier_then [] f.items) }

module _ (s : List ℕ) (n : ℕ) where
  -- an accepted frame, of which the walk noted an index
  record Noted (i : Indexed) : Type 0 where
    frame : Frame
    verdict_is : verdict s ≡ accepted frame
    is : i ≡ noting n frame

  noted : (i : Indexed) → accepted i ≡ index_of s n → Noted i
  unfolding index_of
  noted i e = go (verdict s) refl e
    where
      inner : (x y : Indexed) → accepted x ≡ accepted y → x ≡ y
      inner x y g = cc

      go : (o : Outcome Frame) → verdict s ≡ o → accepted i ≡ and_then o (λ f. accepted (noting n f)) → Noted i
      go (accepted f) v g = record { frame = f; verdict_is = v; is = inner _ _ g }
      go (refused k p) v g = let z : ◌≡◌ {A = ℕ} 0 1 = cc in absurd (omega arith)

  pub index_refused : (k p : ℕ) → refused k p ≡ index_of s n → item_at s n ≡ refused k p
  unfolding index_of
  index_refused k p e = go (verdict s) refl e
    where
      inner : (k j p q : ℕ) → ◌≡◌ {A = Outcome Indexed} (refused k p) (refused j q) → ◌≡◌ {A = Outcome IndexedItem} (refused j q) (refused k p)
      inner k j p q g = cc

      go : (o : Outcome Frame) → verdict s ≡ o → refused k p ≡ and_then o (λ f. accepted (noting n f)) → item_at s n ≡ refused k p
      go (accepted f) v g = let z : ◌≡◌ {A = ℕ} 0 1 = cc in absurd (omega arith)
      go (refused j q) v g = item_refused s j q v n ∙ inner k j p q g

  module _ (i : Indexed) (e : accepted i ≡ index_of s n) where
    pub item_absent : i.frame.items ≤ n → item_at s n ≡ refused 13 0
    item_absent h =
        let o = noted i e in
        let c : i.frame.items ≡ length o.frame.items = ap (λ (j : Indexed). j.frame.items) o.is in
        item_past s o.frame o.verdict_is n (omega arith)

    -- no item stands at word 0, which is noted then
    pub none_placed : i.frame.items ≤ n → i.index ≡ 0
    none_placed h =
        let o = noted i e in
        let c : i.frame.items ≡ length o.frame.items = ap (λ (j : Indexed). j.frame.items) o.is in
        ap (λ (j : Indexed). j.index) o.is ∙ none_noted n (earlier_then [] o.frame.items) (omega (arith, length_behind [] o.frame.items))

    pub item_placed : n < i.frame.items → Placed s n i.index
    unfolding item_at
    item_placed h =
        let o = noted i e in
        let f = o.frame in
        let v = o.verdict_is in
        let c : i.frame.items ≡ length f.items = ap (λ (j : Indexed). j.frame.items) o.is in
        let room : 2 * last_of s ≤ length s + 1 = omega arith in
        let r = stand s (last_of s) room n 3 f.items (omega arith) (body_whole s f v) in
        let b : 3 ≤ r.here = omega (arith, r.here_is) in
        let k : r.here ≡ i.index = r.here_is ∙ sym (ap (λ (j : Indexed). j.index) o.is ∙ index_all n f.items (omega arith)) in
        let q : item_at s n ≡ accepted (record { index = r.here; item = r.item; next = next_at s r.here }) = rw v r.answer in
        subst (Placed s n) k (record { item = r.item; late = b; token = r.token; further = r.further; within = r.within; answer = q })

    -- so the item question's answer is that index, and what the cursor finds there
    pub item_standing : answer_at i.index (shown_by (standing_at s i.index)) ≡ shown_at s n
    unfolding shown_at
    item_standing = go (leb i.frame.items n) refl
      where
        go : (b : Bool) → leb i.frame.items n ≡ b → answer_at i.index (shown_by (standing_at s i.index)) ≡ shown_at s n
        go true h =
            let z = none_placed (leb-true _ _ h) in
            ap (λ (o : Option Found). answer_at i.index (shown_by o)) (standing_early s i.index (omega arith)) ∙ sym (ap (λ (o : Outcome IndexedItem). and_then o (λ r. accepted (showing r))) (item_absent (leb-true _ _ h)))
        go false h =
            let p = item_placed (leb-false _ _ h) in
            let b = p.further in
            let c = p.within in
            ap (λ (o : Option Found). answer_at i.index (shown_by o)) (standing_in s i.index (whole p.item) (next_at s i.index) p.late (omega arith) (record { token = p.token; follow = refl }))
            ∙ sym (ap (λ (o : Outcome IndexedItem). and_then o (λ r. accepted (showing r))) p.answer)

-- what the item question finds stands whole at a word
pub found_placed : (s : List ℕ) (n : ℕ) (r : IndexedItem) → item_at s n ≡ accepted r → (at : ℕ) × Placed s n at
unfolding item_at index_of
found_placed s n r e = go (verdict s) refl
  where
    no : {A : Type 0} (k p : ℕ) → ◌≡◌ {A = Outcome IndexedItem} (refused k p) (accepted r) → A
    no k p f = let z : ◌≡◌ {A = ℕ} 0 1 = cc in absurd (omega arith)

    go : (o : Outcome Frame) → verdict s ≡ o → (at : ℕ) × Placed s n at
    go (accepted f) v = there (leb (length f.items) n) refl
      where
        there : (b : Bool) → leb (length f.items) n ≡ b → (at : ℕ) × Placed s n at
        there true h = no 13 0 (sym (item_past s f v n (leb-true _ _ h)) ∙ e)
        there false h =
            let i : accepted (noting n f) ≡ index_of s n = rw v in
            ((noting n f).index, item_placed s n (noting n f) i (leb-false _ _ h))
    go (refused k p) v = no k p (sym (item_refused s k p v n) ∙ e)
