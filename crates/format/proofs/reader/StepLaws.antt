-- One turn at a word of some bytes, and the invariant of a loop that takes such turns.
-- Assumes nothing.
use Prim.Native.Nat.{ℕ, ◌+◌, ◌-◌, ◌*◌, ◌/◌, ◌%◌, ◌<◌, ◌≤◌}
use mathlib.Core.Path.{◌≡◌, refl, sym, ap, ap₂, subst, ◌∙◌}
use mathlib.Core.List.{List, [], ◌∷◌, ◌++◌}
use mathlib.Core.Bool.{Bool, true, false}
use mathlib.Core.Option.{Option, none, some}
use native.Mathlib.Numerals.{add-one}
use native.Mathlib.Omega.{arith}
use lib.Dec.{eqb}
use lib.ListN.{length, take, drop, length-append, length-drop, drop_of_length-le}
use lib.Seq.{drop-cons, drop-drop, get_or-take, length-take-le}
use Rattle.format.specs.Words.{pick, words, bytes, word_at, long_of}
use Rattle.format.specs.Answers.{accepted, refused}
use Rattle.format.specs.Book.{Class, channel, histogram, hit_count, sample, bin, last_cell, time_bin, data_frame, monitor_frame, command_frame, text, start_event, continue_event, end_event, frame_end, unassigned, class_of, after}
use Rattle.format.specs.Items.{Item, Text, ContinueEvent, EndEvent, words_of, closed, decode, Token, whole, tokens}
use Rattle.format.specs.Rules.{Kind, total, Checked, good, bad, check}
use Rattle.format.specs.Frames.{width, walk}
use Rattle.format.specs.Steps.{ReaderState, state_of, start, check_by, token_at, next_at, rest, moved, stopped, marked, step_of, index_in, summed}
use Rattle.format.proofs.items.WordLaws.{length_words, word_at_lem}
use Rattle.format.proofs.items.TextLaws.{text_back}
use Rattle.format.proofs.items.ItemLaws.{tokens_skip, token_passed}
use Rattle.format.proofs.verdict.WalkLaws.{not_whole, passed, walk_good, walk_bad}
use Rattle.format.proofs.rules.SoundLaws.{Own, own_nil, own_further}
use Rattle.format.proofs.reader.StateLaws.{states, turn, start_state}

-- ---- how many words an item takes

same_words : (x y : Item) (n : ℕ) → some x ≡ some y → length (words_of x) ≡ n → length (words_of y) ≡ n
same_words x y n e h = ap (λ (i : Item). length (words_of i)) (sym (inner x y e)) ∙ h
  where
    inner : (x y : Item) → some x ≡ some y → x ≡ y
    inner x y f = cc

kept : (b : Bool) (o : Option Item) (x : Item) → pick b o none ≡ some x → (b ≡ true) × (o ≡ some x)
kept true o x e = (refl, e)
kept false o x e = let z : ◌≡◌ {A = ℕ} 0 1 = cc in absurd (omega arith)

no_item : {A : Type 0} (x : Item) → ◌≡◌ {A = Option Item} none (some x) → A
no_item x e = let z : ◌≡◌ {A = ℕ} 0 1 = cc in absurd (omega arith)

text_width : (n : ℕ) (ws : List ℕ) → closed n (bytes ws) ≡ true → length ws ≡ (n + 1) / 2 → length (words_of (Text (take (n - 1) (bytes ws)))) ≡ 1 + (n + 1) / 2
unfolding words_of
text_width n ws e h =
    let r = text_back n ws e h in
    let l = length_words (take (n - 1) (bytes ws) ++ (0 ∷ [])) in
    let k = length-append (take (n - 1) (bytes ws)) (0 ∷ []) in
    let g = r.long in
    let p = r.least in
    omega arith

decode_width : (c : Class) (w : ℕ) (ws : List ℕ) (x : Item) → length ws ≡ after c w → decode c w ws ≡ some x → length (words_of x) ≡ 1 + after c w
unfolding decode words_of
decode_width channel w ws x n e = same_words _ x 1 e refl
decode_width histogram w ws x n e = same_words _ x 1 e refl
decode_width hit_count w ws x n e = same_words _ x 1 e refl
decode_width sample w ws x n e = same_words _ x 1 e refl
decode_width bin w ws x n e = same_words _ x 3 e refl
decode_width last_cell w ws x n e = same_words _ x 1 e refl
decode_width time_bin w ws x n e = same_words _ x 1 e refl
decode_width data_frame w ws x n e = no_item x e
decode_width monitor_frame w ws x n e = no_item x e
decode_width command_frame w ws x n e = no_item x e
decode_width text w ws x n e = let (t, f) = kept _ _ x e in same_words _ x _ f (text_width (w % 256) ws t n)
decode_width start_event w ws x n e = same_words _ x 6 e refl
decode_width continue_event w ws x n e = let (t, f) = kept (eqb (w % 512) 0) (some (ContinueEvent (long_of ws))) x e in same_words (ContinueEvent (long_of ws)) x 3 f refl
decode_width end_event w ws x n e = let (t, f) = kept (eqb (w % 16) 0) (some (EndEvent (long_of ws))) x e in same_words (EndEvent (long_of ws)) x 3 f refl
decode_width frame_end w ws x n e = no_item x e
decode_width unassigned w ws x n e = no_item x e

-- ---- the tokens from a word on

module _ (s : List ℕ) (last : ℕ) (room : 2 * last ≤ length s + 1) where
  pub length_front : length (take last (words s)) ≡ last
  length_front = length-take-le last (words s) (omega (arith, length_words s))

  pub left_after : (at : ℕ) → length (drop (at + 1) (take last (words s))) ≡ last - (at + 1)
  left_after at = length-drop (at + 1) (take last (words s)) ∙ ap (λ (n : ℕ). n - (at + 1)) length_front

  cons_at : (at : ℕ) → at < last → drop at (take last (words s)) ≡ word_at s at ∷ drop (at + 1) (take last (words s))
  cons_at at h =
      drop-cons (take last (words s)) at 0 (omega (arith, length_front))
      ∙ ap₂ ◌∷◌ (get_or-take last (words s) at 0 h ∙ word_at_lem s at) (ap (λ (n : ℕ). drop n (take last (words s))) (sym (add-one at)))

  pub rest_at : (at : ℕ) → at < last → rest s last at ≡ token_at s last at ∷ rest s last (next_at s at)
  unfolding tokens token_at next_at
  rest_at at h =
      ap (tokens 0) (cons_at at h)
      ∙ ap (λ (l : List Token). token_at s last at ∷ l)
      (tokens_skip (after (class_of (word_at s at)) (word_at s at)) (drop (at + 1) (take last (words s)))
      ∙ ap (tokens 0) (drop-drop (after (class_of (word_at s at)) (word_at s at)) (at + 1) (take last (words s))))

  pub rest_empty : (at : ℕ) → last ≤ at → rest s last at ≡ []
  unfolding tokens
  rest_empty at h = ap (tokens 0) (drop_of_length-le (take last (words s)) {i = at} (omega (arith, length_front)))

  -- a whole item ends before the last word, and the next begins behind it
  pub record Next (at : ℕ) (x : Item) : Type 0 where
    pub within : next_at s at ≤ last
    pub wide : next_at s at ≡ at + length (words_of x)
    pub further : at < next_at s at

  pub next_at_lem : (at : ℕ) (x : Item) → at < last → token_at s last at ≡ whole x → Next at x
  unfolding token_at next_at
  next_at_lem at x h e =
      let w = word_at s at in
      let ws = drop (at + 1) (take last (words s)) in
      let p = token_passed w ws x e in
      let n = p.there in
      let l = left_after at in
      let d : length (words_of x) ≡ 1 + after (class_of w) w = decode_width (class_of w) w (take (after (class_of w) w) ws) x (length-take-le (after (class_of w) w) ws n) p.read in
      record { within = omega arith; wide = omega arith; further = omega arith }

  -- ---- the loop

  module _ (kind : Kind) (card n : ℕ) where
    -- it stands before the item at word `at`, with the items p behind it
    pub record Going (at count index : ℕ) (st : ReaderState) : Type 0 where
      pub p : List Item
      pub at_is : at ≡ 3 + total p
      pub count_is : count ≡ length p
      pub index_is : index ≡ index_in n p
      pub state_is : st ≡ state_of kind p
      pub own : Own p
      pub few : count ≤ at
      pub same : walk kind card p at (rest s last at) ≡ walk kind card [] 3 (rest s last 3)

    pub going_start : Going 3 0 0 (start kind)
    unfolding total index_in
    going_start = record { p = []; at_is = refl; count_is = refl; index_is = refl; state_is = start_state kind; own = own_nil; few = omega arith; same = refl }

    module _ (at count index : ℕ) (st : ReaderState) (g : Going at count index st) (h : at < last) where
      here : walk kind card g.p at (token_at s last at ∷ rest s last (next_at s at)) ≡ walk kind card [] 3 (rest s last 3)
      here = ap (walk kind card g.p at) (sym (rest_at at h)) ∙ g.same

      turned : check_by card at st (token_at s last at) ≡ states kind (check kind card g.p (token_at s last at))
      turned =
          ap₂ (λ (a : ℕ) (r : ReaderState). check_by card a r (token_at s last at)) g.at_is g.state_is
          ∙ turn kind card g.p (token_at s last at) g.own

      -- what the turn made of the state, as the list has it
      record Moved (st' : ReaderState) : Type 0 where
        x : Item
        token : token_at s last at ≡ whole x
        state : st' ≡ state_of kind (x ∷ g.p)
        own : Own (x ∷ g.p)
        checked : check kind card g.p (token_at s last at) ≡ good (x ∷ g.p)

      good_state : (a b : ReaderState) → good a ≡ good b → a ≡ b
      good_state a b e = cc

      moved_by : (st' : ReaderState) (o : Checked (List Item)) → check kind card g.p (token_at s last at) ≡ o → good st' ≡ states kind o → Moved st'
      moved_by st' (good q) e f =
          let (x, t) = not_whole kind card g.p (token_at s last at) q e in
          let (a, c) = passed kind card g.p x q (ap (check kind card g.p) (sym t) ∙ e) in
          record { x = x; token = t; state = good_state _ _ f ∙ ap (state_of kind) c; own = own_further kind g.p x a.placed g.own; checked = e ∙ ap good c }
      moved_by st' (bad k) e f = let z : ◌≡◌ {A = ℕ} 0 1 = cc in absurd (omega arith)

      marked_good : (o : Checked ReaderState) (st' : ReaderState) (next : ℕ) → moved st' next ≡ marked (next_at s at) o → (good st' ≡ o) × (next ≡ next_at s at)
      marked_good (good r) st' next e = (cc, cc)
      marked_good (bad k) st' next e = let z : ◌≡◌ {A = ℕ} 0 1 = cc in absurd (omega arith)

      pub going_moved : (st' : ReaderState) (next : ℕ) → moved st' next ≡ step_of card s last at st
          → (at < next) × (next ≤ last) × Going next (count + 1) (pick (eqb count n) at index) st'
      unfolding step_of total index_in
      going_moved st' next e =
          let (f, v) = marked_good (check_by card at st (token_at s last at)) st' next e in
          let m = moved_by st' (check kind card g.p (token_at s last at)) refl (f ∙ turned) in
          let w = next_at_lem at m.x h m.token in
          let d = w.wide in
          let a = g.at_is in
          let c = g.count_is in
          let i : walk kind card (m.x ∷ g.p) (at + width (token_at s last at)) (rest s last (next_at s at)) ≡ walk kind card [] 3 (rest s last 3) = sym (walk_good kind card g.p (m.x ∷ g.p) at (token_at s last at) (rest s last (next_at s at)) m.checked) ∙ here in
          let j : at + width (token_at s last at) ≡ next_at s at = ap (λ (t : Token). at + width t) m.token ∙ sym d in (
            omega (arith, w.further),
            omega (arith, w.within),
            record {
              p = m.x ∷ g.p;
              at_is = omega arith;
              count_is = omega arith;
              index_is = rw (c, a, g.index_is);
              state_is = m.state;
              own = m.own;
              few = omega (arith, w.further, g.few);
              same = subst (λ (k : ℕ). walk kind card (m.x ∷ g.p) k (rest s last k) ≡ walk kind card [] 3 (rest s last 3)) (sym v) (ap (λ (k : ℕ). walk kind card (m.x ∷ g.p) k (rest s last (next_at s at))) (sym j) ∙ i);
            },
          )

      stopped_by : (k : ℕ) (o : Checked (List Item)) → bad k ≡ states kind o → o ≡ bad k
      stopped_by k (good q) e = let z : ◌≡◌ {A = ℕ} 0 1 = cc in absurd (omega arith)
      stopped_by k (bad j) e = ap bad (sym (inner k j e))
        where
          inner : (k j : ℕ) → ◌≡◌ {A = Checked ReaderState} (bad k) (bad j) → k ≡ j
          inner k j f = cc

      marked_bad : (o : Checked ReaderState) (k : ℕ) → stopped k ≡ marked (next_at s at) o → bad k ≡ o
      marked_bad (good r) k e = let z : ◌≡◌ {A = ℕ} 0 1 = cc in absurd (omega arith)
      marked_bad (bad j) k e = cc

      pub going_stopped : (k : ℕ) → stopped k ≡ step_of card s last at st → refused k at ≡ summed kind card s last n
      unfolding step_of summed
      going_stopped k e =
          let b = stopped_by k (check kind card g.p (token_at s last at)) (marked_bad _ k e ∙ turned) in
          let r = walk_bad kind card g.p k at (token_at s last at) (rest s last (next_at s at)) b in
          rw (← here, r)

    pub going_end : (at count index : ℕ) (st : ReaderState) → Going at count index st → last ≤ at
        → accepted (record { count = count; index = index; state = st }) ≡ summed kind card s last n
    unfolding summed walk
    going_end at count index st g h =
        let e : walk kind card [] 3 (rest s last 3) ≡ accepted g.p = sym g.same ∙ ap (walk kind card g.p at) (rest_empty at h) in
        rw e (λ i. accepted (record { count = g.count_is i; index = g.index_is i; state = g.state_is i }))
