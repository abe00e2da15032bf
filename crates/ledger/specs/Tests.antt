-- Several tests at once, in a list as document 01 names them; and the first of some answers that refuses.
-- Assumes nothing.
use Rattle.std.specs.Prelude.{ℕ, ◌<◌, ◌≡◌, Bool, true, ◌&&◌, List, [], ◌∷◌, get_or}
use Rattle.format.specs.Answers.{accepted, refused, Done}

-- ((a && t₁) && t₂) && ..
abbrev pub all_from : Bool → List Bool → Bool
all_from a [] = a
all_from a (t ∷ ts) = all_from (a && t) ts

-- each of the tests holds
unfoldable pub all : List Bool → Bool
all ts = all_from true ts

-- the answer at place `at`, from 0, refuses by n at p, and none before it refuses
pub record FirstRefusal (os : List Done) (n p : ℕ) : Type 0 where
  pub at : ℕ
  pub refuses : get_or os at (accepted tt) ≡ refused n p
  pub earlier : (j : ℕ) → j < at → get_or os j (accepted tt) ≡ accepted tt

-- the refusal n at p is m at place 0
abbrev pub Plain : ℕ → ℕ → ℕ → Type 0
Plain m n p = (n ≡ m) × (p ≡ 0)
