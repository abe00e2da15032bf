-- What a writer has to remember of a partial frame, and an item put behind it by that alone: code that carries the state puts item after item
-- without judging the partial frame again.
-- Assumes nothing.
use Rattle.std.specs.Prelude.{ℕ, ◌+◌, ◌/◌, ◌≡◌, List, length}
use Rattle.std.proofs.lemmas.List.Edits.{sets}
use Rattle.format.specs.Words.{pick}
use Rattle.format.specs.Answers.{Outcome, accepted, refused, and_then, leaves}
use Rattle.format.specs.Items.{Token}
use Rattle.format.specs.Rules.{Kind, Checked, good, bad}
use Rattle.format.specs.Steps.{ReaderState, state_of, check_by}
use Rattle.format.specs.Writing.{Partial, partial_verdict, token_bytes, room_for}

-- what judging a partial frame answers: its kind, card and sequence word, and the state behind its items
pub record PartialOverview : Type 0 where
  pub kind : Kind
  pub card : ℕ
  pub sequence : ℕ
  pub state : ReaderState

abbrev pub partial_overview : Partial → PartialOverview
partial_overview f = record { kind = f.kind; card = f.card; sequence = f.sequence; state = state_of f.kind f.earlier }

unfoldable pub partial_read_of : List ℕ → ℕ → Outcome PartialOverview
partial_read_of buf n = and_then (partial_verdict buf n) (λ f. accepted (partial_overview f))

-- ---- an item put behind n bytes that the state stands for

-- the length with the item, and the state behind it
pub record Put : Type 0 where
  pub reached : ℕ
  pub state : ReaderState

-- "tests 8, 9, 10 for the new item and last 12", where the item takes these bytes
abbrev pub put_checked : List ℕ → ℕ → List ℕ → Checked ReaderState → Outcome Put
put_checked buf n bs (good st) = pick (room_for buf (n + length bs)) (accepted (record { reached = n + length bs; state = st })) (refused 12 0)
put_checked buf n bs (bad k) = refused k (n / 2)

unfoldable pub put_answer : List ℕ → ℕ → ℕ → ReaderState → Token → Outcome Put
put_answer buf n card st t = put_checked buf n (token_bytes t) (check_by card (n / 2) st t)

unfoldable pub put_left : List ℕ → ℕ → ℕ → ReaderState → Token → List ℕ
put_left buf n card st t = leaves (put_answer buf n card st t) buf (sets buf n (token_bytes t))

-- the promise of such a step: its answer, and the whole buffer as it leaves it
pub record PutWrote (answer : Outcome Put) (left : List ℕ) (answer' : Outcome Put) (left' : List ℕ) : Type 0 where
  pub answered : answer' ≡ answer
  pub written : left' ≡ left
