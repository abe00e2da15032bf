-- What a flat answer tells of document 01's answer.
-- Assumes nothing.
use Rattle.std.specs.Prelude.{ℕ, ◌≤◌, ◌≡◌, List, [], ◌∷◌}
use Rattle.format.specs.Answers.{Outcome, accepted, refused}
use Rattle.format.specs.Rules.{Kind}
use Rattle.format.specs.Steps.{Overview}
use Rattle.ledger.specs.Formats.{Entry}

-- no refusal by 0, which stands for accepted
pub record Numbered {A : Type 0} (o : Outcome A) : Type 0 where
  pub least : (n p : ℕ) → o ≡ refused n p → 1 ≤ n

-- a refusal's number and place can be read off its flat form; of what was accepted, 0 and all that document 01 answers (`seen`)
pub record Tells {A B R : Type 0} (seen : A → B) (flat : Outcome A → R) (number place : R → ℕ) (content : R → B) : Type 0 where
  pub accepts : (a : A) → number (flat (accepted a)) ≡ 0
  pub contains : (a : A) → content (flat (accepted a)) ≡ seen a
  pub numbers : (n p : ℕ) → number (flat (refused n p)) ≡ n
  pub places : (n p : ℕ) → place (flat (refused n p)) ≡ p

-- ---- what document 01 answers, where the meaning holds more: of a frame not the state behind its items, of an entry not the desk, which is 0

pub record FrameSeen : Type 0 where
  pub kind : Kind
  pub card : ℕ
  pub sequence : ℕ
  pub items : ℕ

abbrev pub seen_frame : Overview → FrameSeen
seen_frame f = record { kind = f.kind; card = f.card; sequence = f.sequence; items = f.items }

-- the time, where one is kept
abbrev pub seen_time : List ℕ → List ℕ
seen_time [] = []
seen_time (t ∷ x) = t ∷ []

abbrev pub seen_entry : Entry → Entry
seen_entry e = record { word = e.word; kind = e.kind; old = e.old; new = e.new; operator = e.operator; reason = e.reason; extra = seen_time e.extra }
