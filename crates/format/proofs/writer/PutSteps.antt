-- An item put by the state alone: what it leaves (T33, T34), the numbers it refuses by (T35), and that code which begins a frame and then puts
-- item after item with the state that each answers has a partial frame of that state before it all the way, judged or not.
-- Assumes nothing.
use Prim.Native.Nat.{ℕ, ◌+◌, ◌/◌, ◌<◌, ◌≤◌}
use mathlib.Core.Path.{◌≡◌, refl, sym, ap, ◌∙◌}
use mathlib.Core.List.{List, [], ◌∷◌}
use mathlib.Core.Logic.{◌⊎◌, inl, inr}
use mathlib.Core.Bool.{Bool, true, false}
use native.Mathlib.Omega.{arith}
use lib.ListN.{length, get_or}
use lib.Seq.{length-sets}
use Rattle.format.specs.Words.{pick, Bytes}
use Rattle.format.specs.Answers.{Outcome, accepted, refused, and_then}
use Rattle.format.specs.Items.{class_for, Token, whole, broken, flawed}
use Rattle.format.specs.Rules.{Kind, Checked, good, bad, check}
use Rattle.format.specs.Frames.{earlier_then}
use Rattle.format.specs.Steps.{ReaderState, start, state_of, place_by, value_by, order_by, state_after, check_by}
use Rattle.format.specs.Writing.{Partial, begin_answer, begin_left, partial_verdict, token_bytes, room_for, add_answer, add_left}
use Rattle.format.specs.WriterCases.{content, with_item, one_of, handed}
use Rattle.format.specs.PartialSteps.{PartialOverview, partial_overview, partial_read_of, Put, put_checked, put_answer, put_left}
use Rattle.format.proofs.reader.StateLaws.{states, start_state}
use Rattle.format.proofs.verdict.WalkLaws.{passes}
use Rattle.format.proofs.writer.PartialLaws.{accepted_is}
use Rattle.format.proofs.writer.StoreLaws.{as_found, as_written, either_way}
use Rattle.format.proofs.items.StoringLaws.{sets_other}
use Rattle.format.proofs.writer.WriterLaws.{Added, add_accepted}
use Rattle.format.proofs.writer.WriterSteps.{begin_judged, add_judged}
use Rattle.format.proofs.reader.PartialJudging.{contained, view_is, by_state, add_put, add_put_left}

module _ (buf : List ℕ) (n card : ℕ) (st : ReaderState) (t : Token) where
  -- T33
  pub put_found : (k p : ℕ) → put_answer buf n card st t ≡ refused k p → put_left buf n card st t ≡ buf
  unfolding put_left
  put_found k p e = as_found _ _ _ k p e

  -- what an accepted step says
  put_accepted : (x : Put) → put_answer buf n card st t ≡ accepted x → (check_by card (n / 2) st t ≡ good x.state) × (x.reached ≡ n + length (token_bytes t))
  unfolding put_answer
  put_accepted x e = go (check_by card (n / 2) st t) refl e
    where
      inside : (b : Bool) (r : ReaderState) → pick b (accepted (record { reached = n + length (token_bytes t); state = r })) (refused 12 0) ≡ accepted x
          → record { reached = n + length (token_bytes t); state = r } ≡ x
      inside true r f = accepted_is _ _ f
      inside false r f = let z : ◌≡◌ {A = ℕ} 0 1 = cc in absurd (omega arith)

      go : (o : Checked ReaderState) → check_by card (n / 2) st t ≡ o → put_checked buf n (token_bytes t) o ≡ accepted x
          → (check_by card (n / 2) st t ≡ good x.state) × (x.reached ≡ n + length (token_bytes t))
      go (good r) c f =
          let i = inside (room_for buf (n + length (token_bytes t))) r f in
          (c ∙ ap (λ (y : Put). good y.state) i, ap (λ (y : Put). y.reached) (sym i))
      go (bad k) c f = let z : ◌≡◌ {A = ℕ} 0 1 = cc in absurd (omega arith)

  -- T34: it writes the item's bytes and no other
  pub put_bytes : (x : Put) (i : ℕ) → put_answer buf n card st t ≡ accepted x → (i < n) ⊎ (x.reached ≤ i) → get_or (put_left buf n card st t) i 0 ≡ get_or buf i 0
  unfolding put_left
  put_bytes x i e h =
      ap (λ (l : List ℕ). get_or l i 0) (as_written _ _ _ x e) ∙ sets_other (token_bytes t) buf n i (away (put_accepted x e).1 h)
    where
      away : x.reached ≡ n + length (token_bytes t) → (i < n) ⊎ (x.reached ≤ i) → (i < n) ⊎ (n + length (token_bytes t) ≤ i)
      away q (inl h) = inl h
      away q (inr h) = inr (omega arith)

  pub put_kept : length (put_left buf n card st t) ≡ length buf
  unfolding put_left
  put_kept = either_way (λ l. length l ≡ length buf) (put_answer buf n card st t) refl (length-sets buf n (token_bytes t))

-- T35: 8, 9 or 10 at the word where the item would start, or 12 at 0
rule_number : (card at : ℕ) (st : ReaderState) (t : Token) → handed t ≡ true → (k : ℕ) → check_by card at st t ≡ bad k → one_of k (8 ∷ 9 ∷ 10 ∷ []) ≡ true
unfolding check_by
rule_number card at st (whole x) h k e = go (place_by st (class_for x)) (value_by card at st x) (order_by st x) e
  where
    is : (j : ℕ) → ◌≡◌ {A = Checked ReaderState} (bad j) (bad k) → j ≡ k
    is j f = cc

    go : (a b c : Bool) → pick a (pick b (pick c (good (state_after at st x)) (bad 10)) (bad 9)) (bad 8) ≡ bad k → one_of k (8 ∷ 9 ∷ 10 ∷ []) ≡ true
    go true true true f = let z : ◌≡◌ {A = ℕ} 0 1 = cc in absurd (omega arith)
    go true true false f = ap (λ (j : ℕ). one_of j (8 ∷ 9 ∷ 10 ∷ [])) (sym (is 10 f))
    go true false c f = ap (λ (j : ℕ). one_of j (8 ∷ 9 ∷ 10 ∷ [])) (sym (is 9 f))
    go false b c f = ap (λ (j : ℕ). one_of j (8 ∷ 9 ∷ 10 ∷ [])) (sym (is 8 f))
rule_number card at st (broken c) h k e = go (place_by st c) e
  where
    is : (j : ℕ) → ◌≡◌ {A = Checked ReaderState} (bad j) (bad k) → j ≡ k
    is j f = cc

    go : (a : Bool) → pick {A = Checked ReaderState} a (bad 9) (bad 8) ≡ bad k → one_of k (8 ∷ 9 ∷ 10 ∷ []) ≡ true
    go true f = ap (λ (j : ℕ). one_of j (8 ∷ 9 ∷ 10 ∷ [])) (sym (is 9 f))
    go false f = ap (λ (j : ℕ). one_of j (8 ∷ 9 ∷ 10 ∷ [])) (sym (is 8 f))
rule_number card at st (flawed j) h k e = let z : ◌≡◌ {A = ℕ} 0 1 = cc in absurd (omega arith)

pub put_numbers : (buf : List ℕ) (n card : ℕ) (st : ReaderState) (t : Token) → handed t ≡ true → (k p : ℕ) → put_answer buf n card st t ≡ refused k p
    → ((one_of k (8 ∷ 9 ∷ 10 ∷ []) ≡ true) × (p ≡ n / 2)) ⊎ ((k ≡ 12) × (p ≡ 0))
unfolding put_answer
put_numbers buf n card st t h k p e = go (check_by card (n / 2) st t) refl e
  where
    number : (j q : ℕ) → ◌≡◌ {A = Outcome Put} (refused j q) (refused k p) → (j ≡ k) × (q ≡ p)
    number j q f = (cc, cc)

    room : (b : Bool) (x : Put) → pick b (accepted x) (refused 12 0) ≡ refused k p → (k ≡ 12) × (p ≡ 0)
    room true x f = let z : ◌≡◌ {A = ℕ} 0 1 = cc in absurd (omega arith)
    room false x f = let (a, b) = number 12 0 f in (sym a, sym b)

    go : (o : Checked ReaderState) → check_by card (n / 2) st t ≡ o → put_checked buf n (token_bytes t) o ≡ refused k p
        → ((one_of k (8 ∷ 9 ∷ 10 ∷ []) ≡ true) × (p ≡ n / 2)) ⊎ ((k ≡ 12) × (p ≡ 0))
    go (good r) c f = inr (room (room_for buf (n + length (token_bytes t))) _ f)
    go (bad j) c f =
        let (a, b) = number j (n / 2) f in
        inl (rule_number card (n / 2) st t h k (c ∙ ap bad a), sym b)

-- ---- the state carried: begin has the first, each accepted step the next

pub begin_read : (buf : List ℕ) (kind : Kind) (card sequence m : ℕ) → begin_answer buf card sequence ≡ accepted m
    → partial_read_of (begin_left buf kind card sequence) 6 ≡ accepted (record { kind = kind; card = card; sequence = sequence; state = start kind })
unfolding partial_read_of earlier_then
begin_read buf kind card sequence m e =
    ap (λ (o : Outcome Partial). and_then o (λ f. accepted (partial_overview f))) (begin_judged buf kind card sequence m e) ∙ behind_none
  where
    behind_none : accepted (partial_overview (content kind card sequence [])) ≡ accepted (record { kind = kind; card = card; sequence = sequence; state = start kind })
    behind_none = ap (λ (s : ReaderState). accepted (record { kind = kind; card = card; sequence = sequence; state = s })) (sym (start_state kind))

module _ (buf : List ℕ) (bs : Bytes buf) (n : ℕ) (v : PartialOverview) (e : partial_read_of buf n ≡ accepted v) where
  pub put_read : (t : Token) (x : Put) → put_answer buf n v.card v.state t ≡ accepted x
      → partial_read_of (put_left buf n v.card v.state t) x.reached ≡ accepted (record { kind = v.kind; card = v.card; sequence = v.sequence; state = x.state })
  unfolding partial_read_of
  put_read t x a =
      let l : add_answer buf n t ≡ accepted x.reached = add_put buf n v e bs t ∙ (rw a) in
      let d = add_accepted buf n t x.reached l in
      let j : partial_verdict (put_left buf n v.card v.state t) x.reached ≡ accepted (with_item d.content d.item) = judged d l in
      ap (λ (o : Outcome Partial). and_then o (λ f. accepted (partial_overview f))) j ∙ ap accepted (same d)
    where
      judged : (d : Added buf n t x.reached) → add_answer buf n t ≡ accepted x.reached
          → partial_verdict (put_left buf n v.card v.state t) x.reached ≡ accepted (with_item d.content d.item)
      judged d l =
          ap (λ (b : List ℕ). partial_verdict b x.reached) (sym (add_put_left buf n v e bs t) ∙ ap (add_left buf n) d.token)
          ∙ add_judged buf bs n d.item x.reached d.content d.judged (ap (add_answer buf n) (sym d.token) ∙ l)

      good_is : (a b : ReaderState) → good a ≡ good b → a ≡ b
      good_is a b f = cc

      same : (d : Added buf n t x.reached) → partial_overview (with_item d.content d.item) ≡ record { kind = v.kind; card = v.card; sequence = v.sequence; state = x.state }
      same d =
          let f : d.content ≡ (contained buf n v e).0 = accepted_is _ _ (sym d.judged ∙ (contained buf n v e).1) in
          let w : partial_overview d.content ≡ v = ap partial_overview f ∙ view_is buf n v e in
          let c : good x.state ≡ good (state_of d.content.kind (d.item ∷ d.content.earlier)) = sym (put_accepted buf n v.card v.state t x a).0 ∙ by_state buf n v e bs t ∙ ap (λ (g : Partial). states g.kind (check g.kind g.card g.earlier t)) (sym f) ∙ ap (λ (u : Token). states d.content.kind (check d.content.kind d.content.card d.content.earlier u)) d.token ∙ ap (states d.content.kind) (passes d.content.kind d.content.card d.content.earlier d.item d.allowed) in
          let s : state_of d.content.kind (d.item ∷ d.content.earlier) ≡ x.state = sym (good_is _ _ c) in
          λ i. record { kind = (w i).kind; card = (w i).card; sequence = (w i).sequence; state = s i }
