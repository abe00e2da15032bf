-- Some turns of the rules, one behind the other.
-- Assumes nothing.
use Rattle.std.specs.Prelude.{ℕ, zero, suc, ◌≤◌, ◌≡◌, List, ltb}
use Rattle.format.specs.Words.{pick}
use Rattle.format.specs.Rules.{ReaderMode}
use Rattle.format.specs.Steps.{Marks, ReaderState, Stepped, moved, stopped, step_of}

-- one turn more, where the words are not at their end
abbrev pub onward : ℕ → List ℕ → ℕ → Stepped → Stepped
onward card s last (moved st at) = pick (ltb at last) (step_of card s last at st) (stopped 0)
onward card s last (stopped n) = stopped n

-- where k turns lead
unfoldable pub turns_of : ℕ → List ℕ → ℕ → ℕ → ℕ → ReaderState → Stepped
turns_of card s last zero at st = moved st at
turns_of card s last (suc k) at st = onward card s last (turns_of card s last k at st)

-- k turns lead from a word and a state to another word, and of the state change `next` alone
abbrev pub Turns : ℕ → List ℕ → ℕ → ℕ → ReaderMode → ℕ → ℕ → Marks → ℕ → ℕ → ℕ → Type 0
Turns card s last k mode key next marks at next' at' =
    turns_of card s last k at (record { mode = mode; key = key; next = next; marks = marks })
    ≡ moved (record { mode = mode; key = key; next = next'; marks = marks }) at'

-- repeats, at most so many
pub record Repeated (card : ℕ) (s : List ℕ) (last at : ℕ) (mode : ReaderMode) (key next : ℕ) (marks : Marks) (most : ℕ) (at' count next' : ℕ) : Type 0 where
  pub turns : Turns card s last count mode key next marks at next' at'
  pub few : count ≤ most
  pub onwards : at ≤ at'
