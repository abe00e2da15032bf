-- T33 to T35 of the calls as they are promised: a refusal leaves every byte as found, an accepted call writes the bytes that document 01 names and
-- no other, and a refusal is by one of the call's numbers. Each is the meaning's theorem, seen through the promise.
-- Assumes nothing.
use Prim.Native.Nat.{ℕ, ◌+◌, ◌/◌, ◌<◌, ◌≤◌}
use mathlib.Core.Path.{◌≡◌, sym, ap, ◌∙◌}
use mathlib.Core.List.{List, [], ◌∷◌}
use mathlib.Core.Logic.{◌⊎◌}
use mathlib.Core.Bool.{true}
use lib.ListN.{get_or}
use Rattle.format.specs.Words.{Bytes}
use Rattle.format.specs.Answers.{Outcome, accepted, refused}
use Rattle.format.specs.Items.{Token}
use Rattle.format.specs.Rules.{Kind}
use Rattle.format.specs.Steps.{ReaderState}
use Rattle.format.specs.Writing.{begin_answer, begin_left, add_answer, add_left, close_answer, close_left, Wrote}
use Rattle.format.specs.WriterCases.{one_of, handed}
use Rattle.format.specs.PartialSteps as steps
use Rattle.format.specs.PartialSteps.{put_answer, put_left, PutWrote}
use Rattle.format.proofs.front.Writing as front
use Rattle.format.proofs.writer.PutSteps as put

-- `add` hands over `given` of its item, `add_text` a whole Text: both are `handed` (format's `items_are_handed`)

module _ (buf : List ℕ) (kind : Kind) (card sequence : ℕ) (answer : Outcome ℕ) (left : List ℕ)
    (w : Wrote (begin_answer buf card sequence) (begin_left buf kind card sequence) answer left) where
  pub begin_refused : (k p : ℕ) → answer ≡ refused k p → left ≡ buf
  begin_refused k p e = w.written ∙ front.begin_refused_leaves buf kind card sequence k p (sym w.answered ∙ e)

  pub begin_elsewhere : (i : ℕ) → 6 ≤ i → get_or left i 0 ≡ get_or buf i 0
  begin_elsewhere i h = ap (λ (l : List ℕ). get_or l i 0) w.written ∙ front.begin_elsewhere buf kind card sequence i h

  pub begin_numbers : (k p : ℕ) → answer ≡ refused k p → (one_of k (9 ∷ 4 ∷ 12 ∷ []) ≡ true) × (p ≡ 0)
  begin_numbers k p e = front.begin_list buf card sequence k p (sym w.answered ∙ e)

module _ (buf : List ℕ) (n : ℕ) (t : Token) (answer : Outcome ℕ) (left : List ℕ) (w : Wrote (add_answer buf n t) (add_left buf n t) answer left) where
  pub add_refused : (k p : ℕ) → answer ≡ refused k p → left ≡ buf
  add_refused k p e = w.written ∙ front.add_refused_leaves buf n t k p (sym w.answered ∙ e)

  pub add_elsewhere : (m i : ℕ) → answer ≡ accepted m → (i < n) ⊎ (m ≤ i) → get_or left i 0 ≡ get_or buf i 0
  add_elsewhere m i e h = ap (λ (l : List ℕ). get_or l i 0) w.written ∙ front.add_elsewhere buf n t m i (sym w.answered ∙ e) h

  pub add_numbers : Bytes buf → handed t ≡ true → (k p : ℕ) → answer ≡ refused k p → one_of k (1 ∷ 2 ∷ 3 ∷ 4 ∷ 6 ∷ 7 ∷ 8 ∷ 9 ∷ 10 ∷ 12 ∷ []) ≡ true
  add_numbers bs h k p e = front.add_list buf bs n t h k p (sym w.answered ∙ e)

module _ (buf : List ℕ) (n : ℕ) (answer : Outcome ℕ) (left : List ℕ) (w : Wrote (close_answer buf n) (close_left buf n) answer left) where
  pub close_refused : (k p : ℕ) → answer ≡ refused k p → left ≡ buf
  close_refused k p e = w.written ∙ front.close_refused_leaves buf n k p (sym w.answered ∙ e)

  pub close_elsewhere : (i : ℕ) → (i ≡ 2 → ⊥) → (i ≡ 3 → ⊥) → (i ≡ n → ⊥) → (i ≡ n + 1 → ⊥) → get_or left i 0 ≡ get_or buf i 0
  close_elsewhere i a b c d = ap (λ (l : List ℕ). get_or l i 0) w.written ∙ front.close_elsewhere buf n i a b c d

  pub close_numbers : Bytes buf → (k p : ℕ) → answer ≡ refused k p → one_of k (1 ∷ 2 ∷ 3 ∷ 4 ∷ 6 ∷ 7 ∷ 8 ∷ 9 ∷ 10 ∷ 11 ∷ 12 ∷ []) ≡ true
  close_numbers bs k p e = front.close_list buf bs n k p (sym w.answered ∙ e)

module _ (buf : List ℕ) (n card : ℕ) (st : ReaderState) (t : Token) (answer : Outcome steps.Put) (left : List ℕ)
    (w : PutWrote (put_answer buf n card st t) (put_left buf n card st t) answer left) where
  pub put_refused : (k p : ℕ) → answer ≡ refused k p → left ≡ buf
  put_refused k p e = w.written ∙ put.put_found buf n card st t k p (sym w.answered ∙ e)

  pub put_elsewhere : (x : steps.Put) (i : ℕ) → answer ≡ accepted x → (i < n) ⊎ (x.reached ≤ i) → get_or left i 0 ≡ get_or buf i 0
  put_elsewhere x i e h = ap (λ (l : List ℕ). get_or l i 0) w.written ∙ put.put_bytes buf n card st t x i (sym w.answered ∙ e) h

  pub put_numbers : handed t ≡ true → (k p : ℕ) → answer ≡ refused k p → ((one_of k (8 ∷ 9 ∷ 10 ∷ []) ≡ true) × (p ≡ n / 2)) ⊎ ((k ≡ 12) × (p ≡ 0))
  put_numbers h k p e = put.put_numbers buf n card st t h k p (sym w.answered ∙ e)
