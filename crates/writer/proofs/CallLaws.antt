-- Begin and close: from the answers of the tests and the words stored to the promise.
-- Assumes nothing.
use Prim.Native.Nat.{ℕ, ◌+◌, ◌/◌, ◌%◌, ◌≤◌, ◌<◌}
use mathlib.Core.Path.{◌≡◌, sym, ap, ◌∙◌}
use mathlib.Core.List.{List, [], ◌∷◌}
use mathlib.Core.Bool.{Bool, true, false}
use native.Mathlib.Nat.{mod-eq_of_lt}
use native.Mathlib.Omega.{arith}
use lib.Dec.{eqb}
use lib.ListN.{length}
use lib.Seq.{sets}
use borrow.Author.Tests.{le-leb, lt-leb, eqb-true}
use Rattle.format.specs.Words.{bytes}
use Rattle.format.specs.Answers.{accepted, refused}
use Rattle.format.specs.Rules.{Kind}
use Rattle.format.specs.Frames.{start_word, all_words}
use Rattle.format.specs.Steps.{ended_by}
use Rattle.format.specs.Writing.{partial_words, partial_fault, partial_judged, partial_verdict, begin_answer, begin_left, close_answer, close_left, Wrote}
use Rattle.format.specs.PartialSteps.{PartialOverview, partial_overview, partial_read_of}
use Rattle.format.proofs.writer.PartialLaws.{Measured, measured_of, kept, then_kept, partial_head}
use Rattle.format.proofs.reader.PartialJudging.{close_state, close_refused}
use Rattle.format.proofs.writer.WriterLaws.{begin_accepted, close_accepted}

-- ---- begin

module _ (buf : List ℕ) (card sequence : ℕ) where
  pub card_wide : 31 < card → refused 9 0 ≡ begin_answer buf card sequence
  unfolding begin_answer
  card_wide h = rw (lt-leb card 31 h)

  pub sequence_wide : card ≤ 31 → 0x0100 < sequence → refused 4 0 ≡ begin_answer buf card sequence
  unfolding begin_answer
  sequence_wide c h = rw (le-leb card 31 c, lt-leb sequence 0x0100 h)

  pub begin_short : card ≤ 31 → sequence ≤ 0x0100 → length buf < 8 → refused 12 0 ≡ begin_answer buf card sequence
  unfolding begin_answer
  begin_short c s h = rw (le-leb card 31 c, le-leb sequence 0x0100 s, lt-leb 8 (length buf) h)

  pub may_begin : card ≤ 31 → sequence ≤ 0x0100 → 8 ≤ length buf → accepted 6 ≡ begin_answer buf card sequence
  unfolding begin_answer
  may_begin c s h = rw (le-leb card 31 c, le-leb sequence 0x0100 s, le-leb 8 (length buf) h)

  pub begin_room : (n : ℕ) → accepted n ≡ begin_answer buf card sequence → 8 ≤ length buf
  begin_room n e = (begin_accepted buf card sequence n (sym e)).room

  pub begin_refused : (kind : Kind) (k p : ℕ) → refused k p ≡ begin_answer buf card sequence
      → Wrote (begin_answer buf card sequence) (begin_left buf kind card sequence) (refused k p) buf
  unfolding begin_left
  begin_refused kind k p e = record { answered = e; written = rw (← e) }

  pub begin_wrote : (kind : Kind) (n w : ℕ) (b₁ b₂ b₃ : List ℕ) → accepted n ≡ begin_answer buf card sequence → w ≡ start_word kind (card % 32)
      → b₁ ≡ sets buf 0 (bytes (w ∷ [])) → b₂ ≡ sets b₁ 2 (bytes (0 ∷ [])) → b₃ ≡ sets b₂ 4 (bytes (sequence ∷ []))
      → Wrote (begin_answer buf card sequence) (begin_left buf kind card sequence) (accepted n) b₃
  unfolding begin_left partial_words all_words bytes
  begin_wrote kind n w b₁ b₂ b₃ e f g h i =
      let c : card ≤ 31 = (begin_accepted buf card sequence n (sym e)).card_fits in
      let v : w ≡ start_word kind card = f ∙ ap (start_word kind) (mod-eq_of_lt (let l : card < 32 = omega arith in l)) in
      record { answered = e; written = rw (i, h, g, v, ← e) }

-- ---- close

module _ (buf : List ℕ) (n : ℕ) where
  -- what rule 1 told of an accepted partial frame
  pub read_measured : (v : PartialOverview) → partial_read_of buf n ≡ accepted v → Measured buf n
  unfolding partial_read_of partial_verdict
  read_measured v e =
      let (f, g, h) = then_kept (partial_verdict buf n) (λ f. accepted (partial_overview f)) v e in
      let (t, j) = kept (eqb (partial_fault buf n) 0) (partial_judged buf n) (partial_fault buf n) 0 f g in
      measured_of buf n (partial_head buf n (eqb-true _ _ t)).measured

  module _ (v : PartialOverview) (e : accepted v ≡ partial_read_of buf n) where
    pub short : n ≤ 8190
    short = (read_measured v (sym e)).most

    pub may_close : (b : Bool) → b ≡ ended_by v.state.mode → b ≡ true → n + 2 ≤ length buf → accepted (n + 2) ≡ close_answer buf n
    may_close b m t h = rw (close_state buf n v (sym e), ← m, t, le-leb (n + 2) (length buf) h)

    pub close_short : (b : Bool) → b ≡ ended_by v.state.mode → b ≡ true → length buf < n + 2 → refused 12 0 ≡ close_answer buf n
    close_short b m t h = rw (close_state buf n v (sym e), ← m, t, lt-leb (n + 2) (length buf) h)

    pub close_open : (b : Bool) → b ≡ ended_by v.state.mode → b ≡ false → refused 11 (n / 2) ≡ close_answer buf n
    close_open b m t = rw (close_state buf n v (sym e), ← m, t)

  pub close_partial : (k p : ℕ) → refused k p ≡ partial_read_of buf n → refused k p ≡ close_answer buf n
  close_partial k p e = sym (close_refused buf n k p (sym e))

  -- what an accepted close knows
  pub close_room : (m : ℕ) → accepted m ≡ close_answer buf n → (m ≡ n + 2) × (n + 2 ≤ length buf) × (6 ≤ n) × (n ≤ 8190)
  unfolding partial_read_of
  close_room m e =
      let c = close_accepted buf n m (sym e) in
      let v : partial_read_of buf n ≡ accepted (partial_overview c.content) = rw c.judged in
      let r = read_measured (partial_overview c.content) v in
      (c.reached, c.room, r.least, r.most)

  pub refused_close : (k p : ℕ) → refused k p ≡ close_answer buf n → Wrote (close_answer buf n) (close_left buf n) (refused k p) buf
  unfolding close_left
  refused_close k p e = record { answered = e; written = rw (← e) }

  pub close_wrote : (m : ℕ) (b₁ b₂ : List ℕ) → accepted m ≡ close_answer buf n → b₁ ≡ sets buf 2 (bytes (m ∷ [])) → b₂ ≡ sets b₁ n (bytes (0x000F ∷ []))
      → Wrote (close_answer buf n) (close_left buf n) (accepted m) b₂
  unfolding close_left
  close_wrote m b₁ b₂ e f g =
      let r : m ≡ n + 2 = (close_room m e).0 in
      record { answered = e; written = g ∙ ap (λ (b : List ℕ). sets b n (bytes (0x000F ∷ []))) (f ∙ ap (λ (k : ℕ). sets buf 2 (bytes (k ∷ []))) r) ∙ (rw (← e)) }
