-- The order key of a header: for the chips of a plain header word, below 4, it rises exactly where the word's 14-bit content does.
-- Assumes nothing.
use Prim.Native.Nat.{ℕ, ◌<◌}
use mathlib.Core.Logic.{◌↔◌}
use native.Mathlib.Omega.{arith}
use Rattle.format.specs.Items.{header_bits, key}

pub key_rises : (a b c a' b' c' : ℕ) → b < 4 → c < 128 → b' < 4 → c' < 128 → (key a b c < key a' b' c') ↔ (header_bits a b c < header_bits a' b' c')
key_rises a b c a' b' c' p q p' q' = (λ h. omega arith, λ h. omega arith)
