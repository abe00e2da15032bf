-- Runs of the writer's calls: begin, one add for each item, close, each on what the accepted call before it leaves (document 01, "Reading and
-- writing items").
-- Assumes nothing.
use Rattle.std.specs.Prelude.{ℕ, List, [], ◌∷◌}
use Rattle.format.specs.Answers.{Outcome, accepted, refused}
use Rattle.format.specs.Items.{Token}
use Rattle.format.specs.Rules.{Kind}
use Rattle.format.specs.Writing.{begin_answer, begin_left, add_answer, add_left, close_answer, close_left}

-- the answer of the last call made, which is the first refusal where there is one, and the buffer as that call leaves it
pub record CallsDone : Type 0 where
  pub answer : Outcome ℕ
  pub left : List ℕ

abbrev pub calls_done : Outcome ℕ → List ℕ → CallsDone
calls_done answer left = record { answer = answer; left = left }

-- the calls after one, from the length that it answers
abbrev pub then_calls : Outcome ℕ → List ℕ → (ℕ → CallsDone) → CallsDone
then_calls (accepted n) left calls = calls n
then_calls (refused k p) left calls = calls_done (refused k p) left

unfoldable pub add_all : List ℕ → ℕ → List Token → CallsDone
add_all buf n [] = calls_done (close_answer buf n) (close_left buf n)
add_all buf n (t ∷ ts) = then_calls (add_answer buf n t) (add_left buf n t) (λ m. add_all (add_left buf n t) m ts)

unfoldable pub write_all : List ℕ → Kind → ℕ → ℕ → List Token → CallsDone
write_all buf kind card sequence ts =
    then_calls (begin_answer buf card sequence) (begin_left buf kind card sequence) (λ n. add_all (begin_left buf kind card sequence) n ts)
