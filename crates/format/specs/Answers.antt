-- Answers: what was asked for, or a refusal with its number and place (document 01, "Numbered refusals").
-- Assumes nothing.
use Rattle.std.specs.Prelude.{ℕ, Bool, true, false, List, [], ◌∷◌}

pub data Outcome (A : Type 0) : Type 0 where
  accepted : A → Outcome A
  -- number, place
  refused : ℕ → ℕ → Outcome A

-- the answer to a second question, asked of what the first gives
abbrev pub and_then : {A B : Type 0} → Outcome A → (A → Outcome B) → Outcome B
and_then (accepted a) f = f a
and_then (refused n p) f = refused n p

-- an answer that says only that the call was accepted
abbrev pub Done : Type 0
Done = Outcome (Unit {0})

-- refusal n at place p unless the test holds
abbrev pub need : Bool → ℕ → ℕ → Done
need true n p = accepted tt
need false n p = refused n p

-- the first of some tests that refuses
unfoldable pub first_of : List Done → Done
first_of [] = accepted tt
first_of (o ∷ os) = and_then o (λ u. first_of os)

-- what lent memory holds after a call: as found where the call was refused
abbrev pub leaves : {A B : Type 0} → Outcome A → B → B → B
leaves (accepted a) found written = written
leaves (refused n p) found written = found
