-- Numbers as a listing prints them, in ASCII (document 01, "Figures to agree with").
-- Assumes nothing.
use Rattle.std.specs.Prelude.{ℕ, zero, suc, ◌+◌, ◌/◌, ◌%◌, List, [], ◌∷◌, ◌++◌, ltb}
use Rattle.format.specs.Words.{pick}

-- ---- decimals, with no leading zero

-- a digit below 10
abbrev pub digit : ℕ → ℕ
digit d = 48 + d

-- the digits of n, at most k + 1 of them
unfoldable pub decimal_in : ℕ → ℕ → List ℕ
decimal_in zero n = digit n ∷ []
decimal_in (suc k) n = pick (ltb n 10) (digit n ∷ []) (decimal_in k (n / 10) ++ (digit (n % 10) ∷ []))

-- a number has never more digits than it counts, but for 0, which has one
unfoldable pub decimal : ℕ → List ℕ
decimal n = decimal_in n n

-- ---- four capital hex digits of a word

abbrev pub hex_digit : ℕ → ℕ
hex_digit d = pick (ltb d 10) (48 + d) (55 + d)

unfoldable pub hex : ℕ → List ℕ
hex w = hex_digit (w / 4096) ∷ hex_digit (w / 256 % 16) ∷ hex_digit (w / 16 % 16) ∷ hex_digit (w % 16) ∷ []
