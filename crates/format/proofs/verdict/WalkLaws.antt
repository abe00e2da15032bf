-- The walk over the items: words are accepted as items exactly where they are what a sound list of items is written as.
-- Assumes nothing.
use Prim.Native.Nat.{ℕ, zero, suc, ◌+◌, ◌<◌, ◌≤◌}
use mathlib.Core.Path.{◌≡◌, refl, sym, ap, ap₂, subst, ◌∙◌}
use mathlib.Core.List.{List, [], ◌∷◌, ◌++◌}
use mathlib.Core.Bool.{Bool, true, false}
use native.Mathlib.Omega.{arith}
use lib.ListN.{length, get_or, drop, take-append-drop}
use Rattle.format.specs.Words.{pick}
use Rattle.format.specs.Answers.{accepted, refused}
use Rattle.format.specs.Book.{class_of, after}
use Rattle.format.specs.Items.{Item, words_of, fits, in_range, Token, whole, broken, flawed, token_of, tokens}
use Rattle.format.specs.Rules.{Kind, place, sized, Checked, good, bad, check}
use Rattle.format.specs.Frames.{earlier_then, Allowed, Sound, all_words, width, walk}
use Rattle.format.proofs.book.PrefixLaws.{and_left}
use Rattle.format.proofs.items.WordLaws.{below_drop}
use Rattle.format.proofs.rules.LimitLaws.{range_fits}
use Rattle.format.proofs.items.ItemLaws.{tokens_skip, read_written, written_read}

module _ (kind : Kind) (card : ℕ) where
  pub allowed_fits : (p : List Item) (x : Item) → Allowed kind card p x → fits x ≡ true
  allowed_fits p x a = range_fits card x (and_left (in_range card x) (sized p x) a.valued)

  -- one item: the rules pass it exactly where they allow it
  kept : (b : Bool) (c : Checked (List Item)) (n : ℕ) (q : List Item) → pick b c (bad n) ≡ good q → (b ≡ true) × (c ≡ good q)
  kept true c n q e = (refl, e)
  kept false c n q e = let z : ◌≡◌ {A = ℕ} 0 1 = cc in absurd (omega arith)

  good_item : (p q : List Item) → good p ≡ good q → p ≡ q
  good_item p q e = cc

  pub passed : (p : List Item) (x : Item) (q : List Item) → check kind card p (whole x) ≡ good q → Allowed kind card p x × (q ≡ x ∷ p)
  unfolding check
  passed p x q e =
      let (a, e₁) = kept _ _ _ _ e in
      let (b, e₂) = kept _ _ _ _ e₁ in
      let (c, e₃) = kept _ _ _ _ e₂ in
      (record { placed = a; valued = b; ordered = c }, sym (good_item _ _ e₃))

  pub passes : (p : List Item) (x : Item) → Allowed kind card p x → check kind card p (whole x) ≡ good (x ∷ p)
  unfolding check
  passes p x a = rw (a.placed, a.valued, a.ordered)

  -- the walk, a step at a time
  pub walk_nil : (p : List Item) (at : ℕ) → walk kind card p at [] ≡ accepted p
  unfolding walk
  walk_nil p at = refl

  pub walk_good : (p q : List Item) (at : ℕ) (t : Token) (ts : List Token) → check kind card p t ≡ good q
      → walk kind card p at (t ∷ ts) ≡ walk kind card q (at + width t) ts
  unfolding walk
  walk_good p q at t ts e = rw (e, walk)

  pub walk_bad : (p : List Item) (n at : ℕ) (t : Token) (ts : List Token) → check kind card p t ≡ bad n → walk kind card p at (t ∷ ts) ≡ refused n at
  unfolding walk
  walk_bad p n at t ts e = rw (e, walk)

  -- a token that is no whole item is refused
  pub not_whole : (p : List Item) (t : Token) (q : List Item) → check kind card p t ≡ good q → (x : Item) × (t ≡ whole x)
  unfolding check
  not_whole p (whole x) q e = (x, refl)
  not_whole p (broken c) q e = absurd (go (place kind p c) e)
    where
      go : (b : Bool) → pick b (bad 9) (bad 8) ≡ good q → ⊥
      go true f = let z : ◌≡◌ {A = ℕ} 0 1 = cc in omega arith
      go false f = let z : ◌≡◌ {A = ℕ} 0 1 = cc in omega arith
  not_whole p (flawed n) q e = let z : ◌≡◌ {A = ℕ} 0 1 = cc in absurd (omega arith)

  -- an accepted walk went one step
  pub record Stepped (p : List Item) (at : ℕ) (t : Token) (ts : List Token) (q : List Item) : Type 0 where
    pub item : Item
    pub token : t ≡ whole item
    pub allowed : Allowed kind card p item
    pub rest : walk kind card (item ∷ p) (at + length (words_of item)) ts ≡ accepted q

  pub walk_step : (p : List Item) (at : ℕ) (t : Token) (ts : List Token) (q : List Item) → walk kind card p at (t ∷ ts) ≡ accepted q → Stepped p at t ts q
  walk_step p at t ts q e = go (check kind card p t) refl
    where
      go : (c : Checked (List Item)) → check kind card p t ≡ c → Stepped p at t ts q
      go (good r) f =
          let (x, g) = not_whole p t r f in
          let (a, h) = passed p x r (ap (check kind card p) (sym g) ∙ f) in
          let w = sym (walk_good p r at t ts f) ∙ e in
          record {
            item = x;
            token = g;
            allowed = a;
            rest = subst (λ (u : Token). walk kind card (x ∷ p) (at + width u) ts ≡ accepted q) g (subst (λ (r : List Item). walk kind card r (at + width t) ts ≡ accepted q) h w);
          }
      go (bad n) f = let r = walk_bad p n at t ts f in let z : ◌≡◌ {A = ℕ} 0 1 = cc in absurd (omega arith)

  -- words that are walked through are those of a sound list
  pub record Walked (p : List Item) (ws : List ℕ) (q : List Item) : Type 0 where
    pub items : List Item
    pub sound : Sound kind card p items
    pub written : ws ≡ all_words items
    pub earlier : q ≡ earlier_then p items

  pub walk_sound : (n : ℕ) (p : List Item) (at : ℕ) (ws : List ℕ) (q : List Item) → length ws ≤ n → ((i : ℕ) → get_or ws i 0 < 65536)
      → walk kind card p at (tokens 0 ws) ≡ accepted q → Walked p ws q
  unfolding tokens Sound all_words earlier_then walk
  walk_sound zero p at [] q l b e = record { items = []; sound = tt; written = refl; earlier = cc }
  walk_sound zero p at (w ∷ ws) q l b e = absurd (omega arith)
  walk_sound (suc n) p at [] q l b e = record { items = []; sound = tt; written = refl; earlier = cc }
  walk_sound (suc n) p at (w ∷ ws) q l b e =
      let k : ℕ = after (class_of w) w in
      let s = walk_step p at (token_of w ws) (tokens k ws) q e in
      let r = written_read w ws s.item (λ i. b (suc i)) s.token in
      let d : length (drop k ws) ≤ n = omega (arith, shorter k ws) in
      let t = walk_sound n (s.item ∷ p) (at + length (words_of s.item)) (drop k ws) q d (below_drop k ws 65536 (λ i. b (suc i)))
      (ap (walk kind card (s.item ∷ p) (at + length (words_of s.item))) (sym (tokens_skip k ws)) ∙ s.rest) in
      record {
        items = s.item ∷ t.items;
        sound = (s.allowed, t.sound);
        written = ap (λ (l : List ℕ). w ∷ l) (sym (take-append-drop k ws)) ∙ ap₂ ◌++◌ r.words t.written;
        earlier = t.earlier;
      }
    where
      shorter : (k : ℕ) (l : List ℕ) → length (drop k l) ≤ length l
      shorter zero l = omega arith
      shorter (suc k) [] = omega arith
      shorter (suc k) (x ∷ l) = omega (arith, shorter k l)

  -- and those of a sound list are walked through
  pub walk_complete : (xs : List Item) (p : List Item) (at : ℕ) → Sound kind card p xs → walk kind card p at (tokens 0 (all_words xs)) ≡ accepted (earlier_then p xs)
  unfolding tokens Sound all_words earlier_then walk
  walk_complete [] p at s = refl
  walk_complete (x ∷ xs) p at s =
      ap (walk kind card p at) (read_written x (all_words xs) (allowed_fits p x s.0))
      ∙ walk_good p (x ∷ p) at (whole x) (tokens 0 (all_words xs)) (passes p x s.0)
      ∙ walk_complete xs (x ∷ p) (at + length (words_of x)) s.1
