-- What is sound after some items is what moves lead through from the state that they leave, and it may end exactly in a final state.
-- Assumes nothing.
use Prim.Native.Nat.{ℕ, suc, ◌+◌}
use mathlib.Core.Path.{◌≡◌, refl, sym, ap, subst, ◌∙◌}
use mathlib.Core.List.{List, [], ◌∷◌}
use mathlib.Core.Bool.{Bool, true, false, true≢false}
use mathlib.Core.Logic.{inl, inr}
use native.Mathlib.Omega.{arith}
use borrow.Author.Tests.{leb-true}
use Rattle.format.specs.Book.{Class, channel, hit_count, sample, last_cell, time_bin, end_event}
use Rattle.format.specs.Items.{Item, Channel, Histogram, EndEvent, class_for, header_bits, in_range}
use Rattle.format.specs.Rules.{Kind, data_kind, monitor_kind, command_kind, since, has, time, last_time, ReaderMode, fresh, outside, inside, after_channel, after_time, after_sample, unheaded, headed, commands, mode_after, allowed, among, place, may_end, sized, value, order}
use Rattle.format.specs.Frames.{earlier_then, Allowed, Sound}
use Rattle.format.specs.Tree.{Limited}
use Rattle.format.proofs.book.PrefixLaws.{and_left, and_right}
use Rattle.format.proofs.rules.LimitLaws.{limits}
use Rattle.format.proofs.tree.ClassLaws.{is_channel, is_histogram, is_hit_count, is_sample, is_bin, is_last_cell, is_time_bin, is_text, is_start_event, is_continue_event, is_end_event, OneOf, one_of}
use Rattle.format.proofs.tree.Moves.{State, begin, out, amid, opened, timed, sampled, empty, filling, texts, kind_for, Body, free, past, at_first, at_next, Move, starts, continues, counts, cells, opens, ends, times, first, next, later, heads, heads_next, fills, says, Final, at_outer, at_body, at_empty, at_filling, at_texts, Moves, done, move, InEvent, Filled, Leaves, sample_order, next_bin_order, channel_order, histogram_order, body_ended, body_kind, outer_kind, outer_ended, fresh_place, outside_place, end_size, moved}

module _ (card : ℕ) where
  -- ---- an allowed item is a move

  abbrev Moved : State → Item → Type 0
  Moved st x = (st' : State) × Move st x st'

  ranged : (p : List Item) (x : Item) → value card p x ≡ true → in_range card x ≡ true
  ranged p x v = and_left (in_range card x) (sized p x) v

  body_move : (st : State) (p : List Item) (h : Bool) (m n : ℕ) (x : Item) (ds : List Class) → Body st h m n → InEvent card p h m n → value card p x ≡ true → order p x ≡ true
      → OneOf (hit_count ∷ last_cell ∷ channel ∷ end_event ∷ ds) x → (OneOf ds x → Moved st x) → Moved st x
  body_move st p h m n x ds d i v o (inl (is_hit_count a b c)) k = (amid h m (n + 1), counts st h m n a b c d)
  body_move st p h m n x ds d i v o (inr (inl (is_last_cell a b))) k = (amid h m (n + 1), cells st h m n a b d)
  body_move st p h m n x ds d i v o (inr (inr (inl (is_channel a b c)))) k =
      let e = ((limits card (Channel a b c)).0 (ranged p (Channel a b c) v)).0 in
      (opened h (suc (header_bits a b c)) (n + 1), opens st h m n a b c d ((channel_order card p h m n a b c i e).0 o))
  body_move st p h m n x ds d i v o (inr (inr (inr (inl (is_end_event z))))) k =
      (out, ends st h m n z d ((end_size card p h m n z i).0 (and_right (in_range card (EndEvent z)) (sized p (EndEvent z)) v)))
  body_move st p h m n x ds d i v o (inr (inr (inr (inr g)))) k = k g

  begin_move : (x : Item) → OneOf (allowed fresh) x → Moved begin x
  begin_move x (inl (is_start_event t ts n)) = (amid true 0 6, starts begin t ts n at_first)
  begin_move x (inr (inl (is_continue_event n))) = (amid false 0 3, continues n)
  begin_move x (inr (inr h)) = absurd h

  out_move : (x : Item) → OneOf (allowed outside) x → Moved out x
  out_move x (inl (is_start_event t ts n)) = (amid true 0 6, starts out t ts n at_next)
  out_move x (inr h) = absurd h

  opened_move : (h : Bool) (m n : ℕ) (x : Item) → OneOf (allowed after_channel) x → Moved (opened h m n) x
  opened_move h m n x (inl (is_time_bin t)) = (timed h m (n + 1) t, times h m n t)
  opened_move h m n x (inr g) = absurd g

  timed_move : (p : List Item) (h : Bool) (m n t : ℕ) (x : Item) → time p ≡ t → order p x ≡ true → OneOf (allowed after_time) x → Moved (timed h m n t) x
  timed_move p h m n t x e o (inl (is_sample v)) = let g = (sample_order p v).0 o in (sampled h m (n + 1) (t + 1), first h m n t v (omega arith))
  timed_move p h m n t x e o (inr g) = absurd g

  sampled_move : (p : List Item) (h : Bool) (m n t : ℕ) (x : Item) → time p ≡ t → last_time p + 1 ≡ t → has sample (since channel p) ≡ true → order p x ≡ true → OneOf (sample ∷ time_bin ∷ []) x
      → Moved (sampled h m n t) x
  sampled_move p h m n t x e f s o (inl (is_sample v)) = let g = (sample_order p v).0 o in (sampled h m (n + 1) (t + 1), next h m n t v (omega arith))
  sampled_move p h m n t x e f s o (inr (inl (is_time_bin u))) =
      (timed h m (n + 1) u, later h m n t u ((next_bin_order p t u s f).0 o))
  sampled_move p h m n t x e f s o (inr (inr g)) = absurd g

  empty_move : (x : Item) → OneOf (allowed unheaded) x → Moved empty x
  empty_move x (inl (is_histogram a b c)) = (filling (suc (header_bits a b c)) 0, heads a b c)
  empty_move x (inr h) = absurd h

  filling_move : (p : List Item) (m k : ℕ) (x : Item) → Filled card p m k → value card p x ≡ true → order p x ≡ true → OneOf (allowed headed) x → Moved (filling m k) x
  filling_move p m k x f v o (inl (is_histogram a b c)) =
      let e = ((limits card (Histogram a b c)).0 (ranged p (Histogram a b c) v)).0 in
      (filling (suc (header_bits a b c)) 0, heads_next m k a b c ((histogram_order card p m a b c f.keys e).0 o))
  filling_move p m k x f v o (inr (inl (is_bin b n))) = (filling m (suc b), fills m k b n (leb-true k b (sym (f.bins b) ∙ o)))
  filling_move p m k x f v o (inr (inr h)) = absurd h

  texts_move : (x : Item) → OneOf (allowed commands) x → Moved texts x
  texts_move x (inl (is_text s)) = (texts, says s)
  texts_move x (inr h) = absurd h

  in_place : (kind : Kind) (p : List Item) (w : ReaderMode) (x : Item) → mode_after kind p ≡ w → place kind p (class_for x) ≡ true → OneOf (allowed w) x
  in_place kind p w x e h = one_of (allowed w) x (ap (λ (w : ReaderMode). among (class_for x) (allowed w)) (sym e) ∙ h)

  pub move_of : (p : List Item) (st : State) (x : Item) → Leaves card p st → Allowed (kind_for st) card p x → Moved st x
  move_of p begin x l a = begin_move x (in_place data_kind p fresh x (fresh_place card p l) a.placed)
  move_of p out x l a = out_move x (in_place data_kind p outside x (outside_place card p l) a.placed)
  move_of p (amid h m n) x l a =
      body_move (amid h m n) p h m n x [] (free h m n) l.event a.valued a.ordered (in_place data_kind p inside x l.stands a.placed) (λ g. absurd g)
  move_of p (opened h m n) x l a = opened_move h m n x (in_place data_kind p after_channel x l.0.stands a.placed)
  move_of p (timed h m n t) x l a = timed_move p h m n t x l.1 a.ordered (in_place data_kind p after_time x l.0.stands a.placed)
  move_of p (sampled h m n t) x l a =
      body_move (sampled h m n t) p h m n x (sample ∷ time_bin ∷ []) (past h m n t) l.0.event a.valued a.ordered
      (in_place data_kind p after_sample x l.0.stands a.placed) (sampled_move p h m n t x l.1 l.3 l.2 a.ordered)
  move_of p empty x l a = empty_move x (in_place monitor_kind p unheaded x (ap (λ (p : List Item). mode_after monitor_kind p) l) a.placed)
  move_of p (filling m k) x l a = filling_move p m k x l a.valued a.ordered (in_place monitor_kind p headed x l.stands a.placed)
  move_of p texts x l a = texts_move x (in_place command_kind p commands x refl a.placed)

  -- ---- whole lists

  -- a move stays in the frame's kind
  same_kind : (st st' : State) (x : Item) → Move st x st' → kind_for st ≡ kind_for st'
  same_kind st st' x (starts _ t ts n o) = outer_kind card st o
  same_kind st st' x (continues n) = refl
  same_kind st st' x (counts _ h m n a b c d) = body_kind card st h m n d
  same_kind st st' x (cells _ h m n a b d) = body_kind card st h m n d
  same_kind st st' x (opens _ h m n a b c d g) = body_kind card st h m n d
  same_kind st st' x (ends _ h m n z d g) = body_kind card st h m n d
  same_kind st st' x (times h m n t) = refl
  same_kind st st' x (first h m n t v g) = refl
  same_kind st st' x (next h m n t v g) = refl
  same_kind st st' x (later h m n t u g) = refl
  same_kind st st' x (heads a b c) = refl
  same_kind st st' x (heads_next m k a b c h) = refl
  same_kind st st' x (fills m k b n h) = refl
  same_kind st st' x (says s) = refl

  -- the items may end exactly in a final state
  may_end_lem : (st : State) (p : List Item) → Leaves card p st → Final st → may_end p ≡ true
  may_end_lem st p l (at_outer _ o) = outer_ended card st p o l
  may_end_lem st p l (at_body _ h m n d) = body_ended card st p h m n d l
  may_end_lem st p l at_empty = ap (λ (q : List Item). may_end q) l
  may_end_lem st p l (at_filling m k) = l.ended
  may_end_lem st p l at_texts = l

  final_of : (st : State) (p : List Item) → Leaves card p st → may_end p ≡ true → Final st
  final_of begin p l e = at_outer begin at_first
  final_of out p l e = at_outer out at_next
  final_of (amid h m n) p l e = at_body (amid h m n) h m n (free h m n)
  final_of (opened h m n) p l e = absurd (true≢false (sym e ∙ l.0.ended))
  final_of (timed h m n t) p l e = absurd (true≢false (sym e ∙ l.0.ended))
  final_of (sampled h m n t) p l e = at_body (sampled h m n t) h m n (past h m n t)
  final_of empty p l e = at_empty
  final_of (filling m k) p l e = at_filling m k
  final_of texts p l e = at_texts

  pub sound_moves : (xs p : List Item) (st : State) → Leaves card p st → Sound (kind_for st) card p xs → may_end (earlier_then p xs) ≡ true → Moves st xs × Limited card xs
  unfolding Sound earlier_then Limited
  sound_moves [] p st l s e = (done st (final_of st p l e), tt)
  sound_moves (x ∷ xs) p st l s e =
      let (st', mv) = move_of p st x l s.0 in
      let r = ranged p x s.0.valued in
      let l' = (moved card p st st' x l r mv).1 in
      let h = sound_moves xs (x ∷ p) st' l' (subst (λ (k : Kind). Sound k card (x ∷ p) xs) (same_kind st st' x mv) s.1) e in
      (move st st' x xs mv h.0, ((limits card x).0 r, h.1))

  pub moves_sound : (xs : List Item) (st : State) → Moves st xs → (p : List Item) → Leaves card p st → Limited card xs → Sound (kind_for st) card p xs × (may_end (earlier_then p xs) ≡ true)
  unfolding Sound earlier_then Limited
  moves_sound xs st (done _ f) p l r = (tt, may_end_lem st p l f)
  moves_sound xs st (move _ st' x ys mv ms) p l r =
      let (a, l') = moved card p st st' x l ((limits card x).1 r.0) mv in
      let h = moves_sound ys st' ms (x ∷ p) l' r.1 in
      ((a, subst (λ (k : Kind). Sound k card (x ∷ p) ys) (sym (same_kind st st' x mv)) h.0), h.1)
