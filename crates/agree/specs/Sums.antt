-- The check sum of a list of numbers: with a = 1 and b = 0, for each element e first a := (a + e) mod 4,294,967,291 and then
-- b := (b + a) mod 4,294,967,291; at the end b * 2^32 + a.
-- Assumes nothing.
use Rattle.std.specs.Prelude.{◌≡◌, refl, List, [], ◌∷◌, ℕ, ◌+◌, ◌*◌, ◌%◌}
use Rattle.std.specs.List.{AllZip}

-- the check sum of what is left, from a and b on
unfoldable pub sum_from : ℕ → ℕ → List ℕ → ℕ
sum_from a b [] = b * 4294967296 + a
sum_from a b (e ∷ es) = sum_from ((a + e) % 4294967291) ((b + (a + e) % 4294967291) % 4294967291) es

abbrev pub check_sum : List ℕ → ℕ
check_sum s = sum_from 1 0 s

-- the check sum of the numbers that the elements of a list are converted to
pub record CheckSum {T : Type 0} (converts : T → ℕ → Type 0) (s : List T) (sum : ℕ) : Type 0 where
  pub numbers : List ℕ
  pub each : AllZip converts s numbers
  pub whole : sum ≡ check_sum numbers

none : check_sum [] ≡ 1
unfolding sum_from
none = refl

three : check_sum (1 ∷ 2 ∷ 3 ∷ []) ≡ 13 * 4294967296 + 7
unfolding sum_from
three = refl
