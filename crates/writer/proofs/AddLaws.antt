-- Add: the partial frame's verdict, then one item put by the state that it carries.
-- Assumes nothing.
use Prim.Native.Nat.{ℕ}
use mathlib.Core.Path.{◌≡◌, sym, ap, ◌∙◌}
use mathlib.Core.List.{List}
use Rattle.format.specs.Words.{Bytes}
use Rattle.format.specs.Answers.{Outcome, accepted, refused, and_then}
use Rattle.format.specs.Items.{Text, Token, whole}
use Rattle.format.specs.Steps.{check_by}
use Rattle.format.specs.Writing.{add_answer, add_left, Wrote}
use Rattle.format.specs.PartialSteps.{PartialOverview, partial_read_of, Put, put_answer, put_left, PutWrote}
use Rattle.format.proofs.reader.PartialJudging.{add_refused, add_put, add_put_left}

-- the new length alone
abbrev length_of : Outcome Put → Outcome ℕ
length_of o = and_then o (λ x. accepted x.reached)

module _ (buf : List ℕ) (n : ℕ) where
  pub partial_refused : (t : Token) (k p : ℕ) → refused k p ≡ partial_read_of buf n → Wrote (add_answer buf n t) (add_left buf n t) (refused k p) buf
  unfolding add_left
  partial_refused t k p e =
      let a = add_refused buf n k p (sym e) t in
      record { answered = sym a; written = rw a }

  module _ (bs : Bytes buf) (v : PartialOverview) (e : accepted v ≡ partial_read_of buf n) (answer : Outcome Put) (left : List ℕ) where
    pub added : (t : Token) → PutWrote (put_answer buf n v.card v.state t) (put_left buf n v.card v.state t) answer left
        → Wrote (add_answer buf n t) (add_left buf n t) (length_of answer) left
    added t w = record {
      answered = ap length_of w.answered ∙ sym (add_put buf n v (sym e) bs t);
      written = w.written ∙ sym (add_put_left buf n v (sym e) bs t);
    }

    -- a text has no card
    pub text_added : (s : List ℕ) → PutWrote (put_answer buf n 0 v.state (whole (Text s))) (put_left buf n 0 v.state (whole (Text s))) answer left
        → Wrote (add_answer buf n (whole (Text s))) (add_left buf n (whole (Text s))) (length_of answer) left
    unfolding put_answer put_left check_by
    text_added s w = added (whole (Text s)) w
