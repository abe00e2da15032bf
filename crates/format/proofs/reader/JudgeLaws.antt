-- From the walk to the verdict: what a reader answers where the head is wrong, where the walk stops, and where it ends.
-- Assumes nothing.
use Prim.Native.Nat.{ℕ, ◌+◌}
use mathlib.Core.Path.{◌≡◌, refl, sym, ap, subst, ◌∙◌}
use mathlib.Core.List.{List, [], ◌∷◌}
use mathlib.Core.Bool.{true, false}
use native.Mathlib.Omega.{arith}
use lib.ListN.{length}
use borrow.Author.Tests.{eq-eqb, ne_eqb}
use Rattle.format.specs.Words.{word_at}
use Rattle.format.specs.Answers.{Outcome, accepted, refused, and_then}
use Rattle.format.specs.Items.{Item, Channel, Histogram, HitCount, Sample, Bin, LastCell, TimeBin, Text, StartEvent, ContinueEvent, EndEvent, words_of, Token}
use Rattle.format.specs.Rules.{Kind, data_kind, monitor_kind, command_kind, since, count, total, mode_after, may_end}
use Rattle.format.specs.Frames.{Frame, earlier_then, Allowed, last_of, head_fault, kind_in, card_in, front, body, walk, ending, judged, verdict}
use Rattle.format.specs.Steps.{ReaderState, state_of, state_after, ended_by, index_in, Summary, summary, summed, rest, overview, read_of, Indexed, index_of}
use Rattle.format.proofs.rules.SoundLaws.{Own, own_nil, own_further}
use Rattle.format.proofs.reader.StateLaws.{turn_of}
use Rattle.format.proofs.verdict.WalkLaws.{walk_step}
use Rattle.format.proofs.verdict.Acceptance.{in_order, length_behind}

-- ---- the items may end: not after Channel or Time bin

by_item : (at : ℕ) (st : ReaderState) (x : Item) (p : List Item) → ended_by (state_after at st x).mode ≡ may_end (x ∷ p)
by_item at st (Channel a b c) p = refl
by_item at st (Histogram a b c) p = refl
by_item at st (HitCount a b c) p = refl
by_item at st (Sample v) p = refl
by_item at st (Bin b n) p = refl
by_item at st (LastCell a b) p = refl
by_item at st (TimeBin t) p = refl
by_item at st (Text s) p = refl
by_item at st (StartEvent t ts n) p = refl
by_item at st (ContinueEvent n) p = refl
by_item at st (EndEvent n) p = refl

after_item : (kind : Kind) (card : ℕ) (p : List Item) (x : Item) → Own p → Allowed kind card p x → ended_by (mode_after kind (x ∷ p)) ≡ may_end (x ∷ p)
unfolding state_of
after_item kind card p x w a =
    sym (ap (λ (st : ReaderState). ended_by st.mode) ((turn_of kind p x w a.placed).after a.ordered)) ∙ by_item (3 + total p) (state_of kind p) x p

before_items : (kind : Kind) → ended_by (mode_after kind []) ≡ may_end []
unfolding since count
before_items data_kind = refl
before_items monitor_kind = refl
before_items command_kind = refl

ended_walk : (kind : Kind) (card : ℕ) (ts : List Token) (p q : List Item) (at : ℕ) → Own p → ended_by (mode_after kind p) ≡ may_end p → walk kind card p at ts ≡ accepted q
    → ended_by (mode_after kind q) ≡ may_end q
unfolding walk
ended_walk kind card [] p q at o e w = subst (λ (l : List Item). ended_by (mode_after kind l) ≡ may_end l) (inner p q w) e
  where
    inner : (p q : List Item) → accepted p ≡ accepted q → p ≡ q
    inner p q f = cc
ended_walk kind card (t ∷ ts) p q at o e w =
    let s = walk_step kind card p at t ts q w in
    ended_walk kind card ts (s.item ∷ p) q (at + length (words_of s.item)) (own_further kind p s.item s.allowed.placed o) (after_item kind card p s.item o s.allowed) s.rest

pub may_end_lem : (kind : Kind) (card at : ℕ) (ts : List Token) (p : List Item) → walk kind card [] at ts ≡ accepted p → ended_by (mode_after kind p) ≡ may_end p
may_end_lem kind card at ts p w = ended_walk kind card ts [] p at own_nil (before_items kind) w

-- ---- the answers

indexed : ℕ → Frame → Outcome Indexed
indexed n f = accepted (record { frame = overview f; index = index_in n (earlier_then [] f.items) })

module _ (s : List ℕ) (n : ℕ) where
  pub head_refused : (k : ℕ) → k ≡ head_fault s → (k ≡ 0 → ⊥) → refused k 0 ≡ index_of s n
  unfolding index_of verdict
  head_refused k e h = rw (ne_eqb (head_fault s) 0 (λ z. h (e ∙ z)), e)

  module _ (e : 0 ≡ head_fault s) where
    pub judged_here : verdict s ≡ judged s
    unfolding verdict
    judged_here = rw (eq-eqb (head_fault s) 0 (sym e))

    front_walk : walk (kind_in s) (card_in s) [] 3 (rest s (last_of s) 3) ≡ walk (kind_in s) (card_in s) [] 3 (body s)
    unfolding front
    front_walk = refl

    pub walk_refused : (k p : ℕ) → refused k p ≡ summed (kind_in s) (card_in s) s (last_of s) n → refused k p ≡ index_of s n
    unfolding index_of summed judged indexed
    walk_refused k p f = rw judged_here (go (walk (kind_in s) (card_in s) [] 3 (body s)) (f ∙ ap (λ (o : Outcome (List Item)). and_then o (λ p. accepted (summary (kind_in s) n p))) front_walk))
      where
        go : (o : Outcome (List Item)) → refused k p ≡ and_then o (λ p. accepted (summary (kind_in s) n p))
            → refused k p ≡ and_then (and_then o (ending s)) (indexed n)
        go (accepted q) g = let z : ◌≡◌ {A = ℕ} 0 1 = cc in absurd (omega arith)
        go (refused j r) g = cc

    -- what a walk to the end tells
    pub record WalkedThrough (x : Summary) : Type 0 where
      pub p : List Item
      pub walked : walk (kind_in s) (card_in s) [] 3 (body s) ≡ accepted p
      pub is : x ≡ summary (kind_in s) n p

    pub walked_through : (x : Summary) → accepted x ≡ summed (kind_in s) (card_in s) s (last_of s) n → WalkedThrough x
    unfolding summed
    walked_through x f = go (walk (kind_in s) (card_in s) [] 3 (body s)) refl (f ∙ ap (λ (o : Outcome (List Item)). and_then o (λ p. accepted (summary (kind_in s) n p))) front_walk)
      where
        inner : (x y : Summary) → accepted x ≡ accepted y → x ≡ y
        inner x y g = cc

        go : (o : Outcome (List Item)) → walk (kind_in s) (card_in s) [] 3 (body s) ≡ o → accepted x ≡ and_then o (λ p. accepted (summary (kind_in s) n p)) → WalkedThrough x
        go (accepted q) w g = record { p = q; walked = w; is = inner _ _ g }
        go (refused j r) w g = let z : ◌≡◌ {A = ℕ} 0 1 = cc in absurd (omega arith)

    module _ (x : Summary) (t : WalkedThrough x) where
      ends : ended_by x.state.mode ≡ may_end t.p
      unfolding state_of
      ends = ap (λ (y : Summary). ended_by y.state.mode) t.is ∙ may_end_lem (kind_in s) (card_in s) 3 (body s) t.p t.walked

      pub still_open : ended_by x.state.mode ≡ false → refused 11 (last_of s) ≡ index_of s n
      unfolding index_of judged
      still_open f = rw (judged_here, t.walked, sym ends ∙ f)

      pub all_read : ended_by x.state.mode ≡ true
          → accepted (record { frame = record { kind = kind_in s; card = card_in s; sequence = word_at s 2; items = x.count; state = x.state }; index = x.index }) ≡ index_of s n
      unfolding index_of judged
      all_read f =
          let c : x.count ≡ length (earlier_then [] t.p) = ap (λ (y : Summary). y.count) t.is ∙ sym (length_behind [] t.p ∙ omega arith) in
          let i : x.index ≡ index_in n (earlier_then [] (earlier_then [] t.p)) = ap (λ (y : Summary). y.index) t.is ∙ ap (index_in n) (sym (in_order t.p)) in
          let r : x.state ≡ state_of (kind_in s) (earlier_then [] (earlier_then [] t.p)) = ap (λ (y : Summary). y.state) t.is ∙ ap (state_of (kind_in s)) (sym (in_order t.p)) in
          rw (judged_here, t.walked, sym ends ∙ f)
          (λ j. accepted (record { frame = record { kind = kind_in s; card = card_in s; sequence = word_at s 2; items = c j; state = r j }; index = i j }))

-- reading asks for no index
pub read_index : (s : List ℕ) (n : ℕ) → read_of s ≡ and_then (index_of s n) (λ x. accepted x.frame)
unfolding read_of index_of indexed
read_index s n = go (verdict s)
  where
    go : (o : Outcome Frame) → and_then o (λ f. accepted (overview f)) ≡ and_then (and_then o (indexed n)) (λ x. accepted x.frame)
    go (accepted f) = refl
    go (refused k p) = refl
