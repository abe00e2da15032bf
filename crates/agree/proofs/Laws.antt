-- What a loop over a slice needs of the check sum: after one element more, and where none is left; and the check sum of numbers themselves.
-- Assumes nothing.
use mathlib.Core.Path.{◌≡◌, refl, sym, ap, ◌∙◌}
use mathlib.Core.List.{List, [], ◌∷◌, ◌++◌}
use Prim.Native.Nat.{ℕ, ◌+◌, ◌*◌, ◌%◌, ◌<◌, ◌≤◌}
use lib.ListN.{length, take, get_or}
use Rattle.std.specs.List.{AllZip, each_same}
use Rattle.std.proofs.lemmas.List.{append-nil, take_more, take_all}
use Rattle.std.proofs.lemmas.Slice.Zip.{all_zipped_more}
use Rattle.agree.specs.Sums.{sum_from, check_sum, CheckSum}

-- some elements are summed, as these numbers: from a and b on, the rest gives the whole check sum
pub record Summing {T : Type 0} (converts : T → ℕ → Type 0) (passed : List T) (a b : ℕ) : Type 0 where
  pub numbers : List ℕ
  pub each : AllZip converts passed numbers
  pub low : a < 4294967291
  pub high : b < 4294967291
  pub whole : (rest : List ℕ) → sum_from a b rest ≡ check_sum (numbers ++ rest)

append_one : (ns : List ℕ) (e : ℕ) (rest : List ℕ) → (ns ++ (e ∷ [])) ++ rest ≡ ns ++ (e ∷ rest)
append_one [] e rest = refl
append_one (n ∷ ns) e rest = ap (λ l. n ∷ l) (append_one ns e rest)

step : (a b x y e : ℕ) → x ≡ (a + e) % 4294967291 → y ≡ (b + x) % 4294967291 → (rest : List ℕ) → sum_from x y rest ≡ sum_from a b (e ∷ rest)
unfolding sum_from
step a b x y e p q rest = rw (q, p) refl

pub summed_one : {T : Type 0} {converts : T → ℕ → Type 0} (s : List T) (i : ℕ) {a b : ℕ} → Summing converts (take i s) a b → i < length s → {t : T} {x y e : ℕ} → t ≡ get_or s i t → converts t e → (x ≡ (a + e) % 4294967291) × (x < 4294967291) → (y ≡ (b + x) % 4294967291) × (y < 4294967291) → Summing converts (take (i + 1) s) x y
summed_one {T} {converts} s i {a} {b} g h {t} {x} {y} {e} is c p q =
    record {
      numbers = g.numbers ++ (e ∷ []);
      each = rw (take_more s i t h, ← is) (all_zipped_more converts (take i s) g.numbers t e g.each c);
      low = p.1;
      high = q.1;
      whole = λ rest. step a b x y e p.0 q.0 rest ∙ g.whole (e ∷ rest) ∙ ap check_sum (sym (append_one g.numbers e rest));
    }

pub summed_all : {T : Type 0} {converts : T → ℕ → Type 0} (s : List T) (i : ℕ) {a b : ℕ} → Summing converts (take i s) a b → length s ≤ i → CheckSum converts s (b * 4294967296 + a)
unfolding sum_from
summed_all {T} {converts} s i {a} {b} g h =
    record { numbers = g.numbers; each = rw (take_all i s h) at g.each; whole = g.whole [] ∙ ap check_sum (append-nil g.numbers) }

-- of elements that are converted to the numbers that they are, the check sum is that of the list itself
pub of_numbers : (s : List ℕ) (sum : ℕ) → CheckSum (λ x y. y ≡ x) s sum → sum ≡ check_sum s
of_numbers s sum c = c.whole ∙ ap check_sum (each_same s c.numbers c.each)
