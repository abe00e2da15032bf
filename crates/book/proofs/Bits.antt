-- The one law behind every field: cut out by `>>` and `&` it is `and_mask` of `lib.Bits`; put in by `&`, `<<` and `|` it is these, over the
-- field's width n and its place s.
-- Assumes nothing.
use mathlib.Core.Path.{◌≡◌, sym, ap, ◌∙◌, subst}
use Prim.Native.Nat.{ℕ, ◌+◌, ◌-◌, ◌*◌, ◌/◌, ◌%◌, ◌^◌, ◌≤◌, ◌<◌}
use native.Mathlib.Nat.{add-zero}
use lib.Bits.{bit_and, bit_or, and_mask, mask_lt, or_shifted, or_comm}
use lib.Pow.{split, shl_exact}

-- a masked value at its place: the shift loses nothing
pub placed : (w n s x : ℕ) → n + s ≤ w → (bit_and x (2 ^ n - 1) * 2 ^ s) % 2 ^ w ≡ x % 2 ^ n * 2 ^ s
placed w n s x h = shl_exact n s w (mask_lt x n) h ∙ ap (λ (y : ℕ). y * 2 ^ s) (and_mask x n)

-- what stands at bit k and above, or'ed with what stands below
pub join : (k a b : ℕ) → a % 2 ^ k ≡ 0 → b < 2 ^ k → bit_or a b ≡ a + b
join k a b e h =
    let m : a / 2 ^ k * 2 ^ k ≡ a = sym (add-zero _) ∙ ap (λ (r : ℕ). a / 2 ^ k * 2 ^ k + r) (sym e) ∙ split a k in
    subst (λ (x : ℕ). bit_or x b ≡ x + b) m (or_shifted (a / 2 ^ k) k b h)

-- the same the other way round: the head on the right, as a literal stands
pub head : (k a b : ℕ) → b % 2 ^ k ≡ 0 → a < 2 ^ k → bit_or a b ≡ b + a
head k a b e h = or_comm a b ∙ join k b a e h

-- a field of the lowest n bits below a head
pub low : (n x h : ℕ) → h % 2 ^ n ≡ 0 → bit_or (bit_and x (2 ^ n - 1)) h ≡ h + x % 2 ^ n
low n x h e = head n (bit_and x (2 ^ n - 1)) h e (mask_lt x n) ∙ ap (λ (y : ℕ). h + y) (and_mask x n)
