-- The order of tests: the code asks one after the other and leaves at the first that refuses, the rules speak of the first of a list.
-- Assumes nothing.
use Prim.Native.Nat.{ℕ}
use mathlib.Core.Path.{◌≡◌, ◌∙◌}
use mathlib.Core.List.{List, [], ◌∷◌}
use Rattle.format.specs.Answers.{Done, accepted, refused, first_of}

module _ (o : Done) (os : List Done) where
  pub first_refuses : (n p : ℕ) → refused n p ≡ o → refused n p ≡ first_of (o ∷ os)
  unfolding first_of
  first_refuses n p e = rw (← e)

  pub first_passes : (a : Done) → accepted tt ≡ o → a ≡ first_of os → a ≡ first_of (o ∷ os)
  unfolding first_of
  first_passes a e f = f ∙ rw (← e)

pub first_last : (o a : Done) → a ≡ o → a ≡ first_of (o ∷ [])
unfolding first_of
first_last (accepted u) a e = e
first_last (refused n p) a e = e
