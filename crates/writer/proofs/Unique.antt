-- T39, T40. What an answer says on paper fixes the answer, and each promise says the answer and the whole buffer: so each call of the writer has
-- one answer and leaves one buffer.
-- Assumes nothing.
use Prim.Native.Nat.{ℕ}
use mathlib.Core.Path.{◌≡◌, sym, ◌∙◌}
use mathlib.Core.List.{List}
use Rattle.std.specs.Prelude.{Result}
use Rattle.format.specs.Answers.{Outcome}
use Rattle.format.specs.Writing.{Wrote}
use Rattle.format.specs.PartialSteps as steps
use Rattle.format.specs.PartialSteps.{PutWrote}
use Rattle.book.specs.declared.items.Item.{Item}
use Rattle.book.specs.declared.refusal.Refusal.{Refusal}
use Rattle.book.proofs.Unique.{one, undone, same_result}
use Rattle.rules.specs.declared.state.Kind.{Kind}
use Rattle.rules.specs.declared.state.State.{State}
use Rattle.rules.proofs.Unique.{state_back, state_back_lem}
use Rattle.writer.specs.declared.answers.Put.{Put}
use Rattle.writer.specs.Views.{view_written, view_reached, view_put}
use Rattle.writer.specs.Promises.{Begun, Added, AddedText, Closed, PutDone, PutTextDone}

-- ---- T40

pub same_written : (r q : Result ℕ Refusal) → view_written r ≡ view_written q → r ≡ q
same_written = same_result (λ n. n) (λ n m e. e)

-- the way back from a length and a state
abbrev reached_back : steps.Put → Put
reached_back x = record { length = x.reached; state = state_back x.state }

reached_back_lem : (r : Put) → reached_back (view_reached r) ≡ r
reached_back_lem r = λ i. record { length = r.length; state = state_back_lem r.state i }

pub same_put : (r q : Result Put Refusal) → view_put r ≡ view_put q → r ≡ q
same_put = same_result view_reached (undone view_reached reached_back reached_back_lem)

-- ---- T39, no second result, function by function

wrote_once : (answer : Outcome ℕ) (left : List ℕ) (r q : Result ℕ Refusal) (b d : List ℕ) → Wrote answer left (view_written r) b → Wrote answer left (view_written q) d → (r ≡ q) × (b ≡ d)
wrote_once answer left r q b d e f = (one view_written same_written answer r q e.answered f.answered, e.written ∙ sym f.written)

put_wrote_once : (answer : Outcome steps.Put) (left : List ℕ) (r q : Result Put Refusal) (b d : List ℕ) → PutWrote answer left (view_put r) b → PutWrote answer left (view_put q) d → (r ≡ q) × (b ≡ d)
put_wrote_once answer left r q b d e f = (one view_put same_put answer r q e.answered f.answered, e.written ∙ sym f.written)

-- each is over the promise that the function's contract names (specs/Promises.antt)
module _ (buf : List ℕ) (n : ℕ) (r q : Result ℕ Refusal) (b d : List ℕ) where
  pub begin_once : (kind : Kind) (card sequence : ℕ) → Begun buf kind card sequence r b → Begun buf kind card sequence q d → (r ≡ q) × (b ≡ d)
  begin_once kind card sequence = wrote_once _ _ r q b d

  pub add_once : (x : Item) → Added buf n x r b → Added buf n x q d → (r ≡ q) × (b ≡ d)
  add_once x = wrote_once _ _ r q b d

  pub add_text_once : (s : List ℕ) → AddedText buf n s r b → AddedText buf n s q d → (r ≡ q) × (b ≡ d)
  add_text_once s = wrote_once _ _ r q b d

  pub close_once : Closed buf n r b → Closed buf n q d → (r ≡ q) × (b ≡ d)
  close_once = wrote_once _ _ r q b d

module _ (buf : List ℕ) (n card : ℕ) (st : State) (r q : Result Put Refusal) (b d : List ℕ) where
  pub put_once : (x : Item) → PutDone buf n card st x r b → PutDone buf n card st x q d → (r ≡ q) × (b ≡ d)
  put_once x = put_wrote_once _ _ r q b d

  pub put_text_once : (s : List ℕ) → PutTextDone buf n st s r b → PutTextDone buf n st s q d → (r ≡ q) × (b ≡ d)
  put_text_once s = put_wrote_once _ _ r q b d
