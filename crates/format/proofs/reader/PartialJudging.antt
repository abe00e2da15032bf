-- From the walk to the verdict on a partial frame; and `add` and `close` by the state that the verdict carries.
-- Assumes nothing.
use Prim.Native.Nat.{ℕ, ◌+◌, ◌*◌, ◌/◌, ◌%◌, ◌<◌, ◌≤◌}
use mathlib.Core.Path.{◌≡◌, refl, sym, ap, subst, ◌∙◌}
use mathlib.Core.List.{List, []}
use mathlib.Core.Bool.{Bool, true, false}
use native.Mathlib.Omega.{arith}
use lib.Dec.{leb, eqb}
use lib.ListN.{length, take, drop}
use lib.Seq.{sets}
use borrow.Author.Tests.{le-leb, lt-leb, eq-eqb, ne_eqb}
use Rattle.format.specs.Words.{pick, Bytes, words, word_at}
use Rattle.format.specs.Answers.{Outcome, accepted, refused, and_then, leaves}
use Rattle.format.specs.Items.{Item, Token, tokens}
use Rattle.format.specs.Rules.{Kind, total, may_end, Checked, good, bad, check}
use Rattle.format.specs.Frames.{all_words, start_fits, kind_in, card_in, walk}
use Rattle.format.specs.Steps.{state_of, check_by, ended_by, rest, Summary, summary, summed}
use Rattle.format.specs.Writing.{Partial, partial_fault, partial_body, partial_of, partial_judged, partial_verdict, token_bytes, room_for, add_checked, add_answer, add_left, close_answer}
use Rattle.format.specs.WriterCases.{partial_length}
use Rattle.format.specs.PartialSteps.{PartialOverview, partial_overview, partial_read_of, Put, put_checked, put_answer, put_left}
use Rattle.format.proofs.items.PartLaws.{take_words}
use Rattle.format.proofs.rules.SoundLaws.{Own, own_nil, own_sound}
use Rattle.format.proofs.reader.StateLaws.{states, turn}
use Rattle.format.proofs.reader.JudgeLaws.{may_end_lem}
use Rattle.format.proofs.writer.PartialLaws.{kept, then_kept, accepted_is, partial_head, measured_of, partial_sound, begun_length}
use Rattle.format.proofs.writer.NoDeadEnd.{total_behind, total_nil}

-- ---- the first four rules in their order

module _ (buf : List ℕ) (n : ℕ) where
  pub length_wrong : partial_length buf n ≡ false → 1 ≡ partial_fault buf n
  unfolding partial_fault
  length_wrong h = rw h

  module _ (l : partial_length buf n ≡ true) where
    pub start_wrong : start_fits (word_at buf 0) ≡ false → 2 ≡ partial_fault buf n
    unfolding partial_fault
    start_wrong h = rw (l, h)

    module _ (k : start_fits (word_at buf 0) ≡ true) where
      pub size_wrong : (word_at buf 1 ≡ 0 → ⊥) → 3 ≡ partial_fault buf n
      unfolding partial_fault
      size_wrong h = rw (l, k, ne_eqb (word_at buf 1) 0 h)

      pub sequence_wrong : word_at buf 1 ≡ 0 → 0x0100 < word_at buf 2 → 4 ≡ partial_fault buf n
      unfolding partial_fault
      sequence_wrong z h = rw (l, k, eq-eqb (word_at buf 1) 0 z, lt-leb (word_at buf 2) 0x0100 h)

      pub head_right : word_at buf 1 ≡ 0 → word_at buf 2 ≤ 0x0100 → 0 ≡ partial_fault buf n
      unfolding partial_fault
      head_right z q = rw (l, k, eq-eqb (word_at buf 1) 0 z, le-leb (word_at buf 2) 0x0100 q)

-- ---- the walk over the words before word n / 2 is that over the words of the first n bytes

module _ (buf : List ℕ) (n : ℕ) where
  pub fault_refused : (k : ℕ) → k ≡ partial_fault buf n → (k ≡ 0 → ⊥) → refused k 0 ≡ partial_read_of buf n
  unfolding partial_read_of partial_verdict
  fault_refused k e h = rw (ne_eqb (partial_fault buf n) 0 (λ z. h (e ∙ z)), e)

  -- what the tests overview_of of the first n bytes
  pub started : 0 ≡ partial_fault buf n → (start_fits (word_at buf 0) ≡ true) × (n % 2 ≡ 0) × (n ≤ length buf)
  started e =
      let h = partial_head buf n (sym e) in
      let m = measured_of buf n h.measured in
      (h.started, m.even, m.inside)

  body_rest : n % 2 ≡ 0 → rest buf (n / 2) 3 ≡ partial_body buf n
  body_rest e =
      let d : 2 * (n / 2) ≡ n = omega arith in
      ap (λ (ws : List ℕ). tokens 0 (drop 3 ws)) (take_words (n / 2) buf ∙ ap (λ (k : ℕ). words (take k buf)) d)

  abbrev overview_of : Summary → Outcome PartialOverview
  overview_of x = accepted (record { kind = kind_in buf; card = card_in buf; sequence = word_at buf 2; state = x.state })

  pub partial_summed : 0 ≡ partial_fault buf n → (i : ℕ) → and_then (summed (kind_in buf) (card_in buf) buf (n / 2) i) overview_of ≡ partial_read_of buf n
  unfolding summed partial_read_of partial_verdict partial_judged
  partial_summed e i = rw (eq-eqb (partial_fault buf n) 0 (sym e), body_rest (started e).1) (go (walk (kind_in buf) (card_in buf) [] 3 (partial_body buf n)))
    where
      go : (o : Outcome (List Item))
          → and_then (and_then o (λ p. accepted (summary (kind_in buf) i p))) overview_of ≡ and_then (and_then o (partial_of buf)) (λ f. accepted (partial_overview f))
      go (accepted p) = refl
      go (refused k q) = refl

  -- ---- by the state alone

  read_refused : (o : Outcome Partial) (k p : ℕ) → and_then o (λ f. accepted (partial_overview f)) ≡ refused k p → o ≡ refused k p
  read_refused (accepted f) k p e = let z : ◌≡◌ {A = ℕ} 0 1 = cc in absurd (omega arith)
  read_refused (refused j q) k p e = cc

  module _ (k p : ℕ) (e : partial_read_of buf n ≡ refused k p) where
    pub verdict_refused : partial_verdict buf n ≡ refused k p
    unfolding partial_read_of
    verdict_refused = read_refused (partial_verdict buf n) k p e

    pub add_refused : (t : Token) → add_answer buf n t ≡ refused k p
    unfolding add_answer
    add_refused t = rw verdict_refused

    pub close_refused : close_answer buf n ≡ refused k p
    unfolding close_answer
    close_refused = rw verdict_refused

  module _ (v : PartialOverview) (e : partial_read_of buf n ≡ accepted v) where
    pub contained : (f : Partial) × (partial_verdict buf n ≡ accepted f) × (accepted (partial_overview f) ≡ accepted v)
    unfolding partial_read_of
    contained = then_kept (partial_verdict buf n) (λ f. accepted (partial_overview f)) v e

    pub view_is : partial_overview contained.0 ≡ v
    view_is = accepted_is _ _ contained.2

    words_behind : Bytes buf → 3 + total contained.0.earlier ≡ n / 2
    words_behind bs =
        let (xs, b) = partial_sound buf bs n contained.0 contained.1 in
        let l = begun_length buf n contained.0 xs b in
        let t : total contained.0.earlier ≡ total [] + length (all_words xs) = ap total b.earlier ∙ total_behind [] xs in
        let z = total_nil in
        omega arith

    own : Bytes buf → Own contained.0.earlier
    own bs =
        let (xs, b) = partial_sound buf bs n contained.0 contained.1 in
        subst Own (sym b.earlier) (own_sound contained.0.kind contained.0.card [] xs b.sound own_nil)

    pub by_state : Bytes buf → (t : Token)
        → check_by v.card (n / 2) v.state t ≡ states contained.0.kind (check contained.0.kind contained.0.card contained.0.earlier t)
    by_state bs t =
        ap (λ (w : PartialOverview). check_by w.card (n / 2) w.state t) (sym view_is)
        ∙ ap (λ (at : ℕ). check_by contained.0.card at (state_of contained.0.kind contained.0.earlier) t) (sym (words_behind bs))
        ∙ turn contained.0.kind contained.0.card contained.0.earlier t (own bs)

    same_answer : (kind : Kind) (t : Token) (o : Checked (List Item))
        → add_checked buf n t o ≡ and_then (put_checked buf n (token_bytes t) (states kind o)) (λ x. accepted x.reached)
    same_answer kind t (good q) = go (room_for buf (n + length (token_bytes t)))
      where
        go : (b : Bool) → pick b (accepted (n + length (token_bytes t))) (refused 12 0)
            ≡ and_then {A = Put} (pick b (accepted (record { reached = n + length (token_bytes t); state = state_of kind q })) (refused 12 0)) (λ x. accepted x.reached)
        go true = refl
        go false = refl
    same_answer kind t (bad k) = refl

    pub add_put : Bytes buf → (t : Token) → add_answer buf n t ≡ and_then (put_answer buf n v.card v.state t) (λ x. accepted x.reached)
    unfolding add_answer put_answer
    add_put bs t =
        rw (contained.1, by_state bs t)
        (same_answer contained.0.kind t (check contained.0.kind contained.0.card contained.0.earlier t))

    pub add_put_left : Bytes buf → (t : Token) → add_left buf n t ≡ put_left buf n v.card v.state t
    unfolding add_left put_left
    add_put_left bs t = rw (add_put bs t) (go (put_answer buf n v.card v.state t))
      where
        go : (o : Outcome Put) → leaves (and_then o (λ x. accepted x.reached)) buf (sets buf n (token_bytes t)) ≡ leaves o buf (sets buf n (token_bytes t))
        go (accepted x) = refl
        go (refused k p) = refl

    -- the walk that it was accepted by
    walked : (q : List Item) × (walk (kind_in buf) (card_in buf) [] 3 (partial_body buf n) ≡ accepted q) × (partial_of buf q ≡ accepted contained.0)
    unfolding partial_verdict partial_judged
    walked =
        let (t, g) = kept (eqb (partial_fault buf n) 0) (partial_judged buf n) (partial_fault buf n) 0 contained.0 contained.1 in
        then_kept (walk (kind_in buf) (card_in buf) [] 3 (partial_body buf n)) (partial_of buf) contained.0 g

    ended : ended_by v.state.mode ≡ may_end contained.0.earlier
    unfolding state_of
    ended =
        let f : record { kind = kind_in buf; card = card_in buf; sequence = word_at buf 2; earlier = walked.0 } ≡ contained.0 = accepted_is _ _ walked.2 in
        ap (λ (w : PartialOverview). ended_by w.state.mode) (sym view_is)
        ∙ ap (λ (g : Partial). ended_by (state_of g.kind g.earlier).mode) (sym f)
        ∙ may_end_lem (kind_in buf) (card_in buf) 3 (partial_body buf n) walked.0 walked.1
        ∙ ap (λ (g : Partial). may_end g.earlier) f

    pub close_state : close_answer buf n ≡ pick (ended_by v.state.mode) (pick (leb (n + 2) (length buf)) (accepted (n + 2)) (refused 12 0)) (refused 11 (n / 2))
    unfolding close_answer
    close_state = rw (contained.1, ended)
