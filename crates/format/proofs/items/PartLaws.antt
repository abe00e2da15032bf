-- A part of the words of some bytes is a part of the bytes, twice as long and twice as far in.
-- Assumes nothing.
use Prim.Native.Nat.{ℕ, zero, suc, ◌+◌, ◌*◌, ◌<◌, ◌≤◌}
use mathlib.Core.Path.{◌≡◌, refl, ap, ap₂, ◌∙◌}
use mathlib.Core.List.{List, [], ◌∷◌}
use native.Mathlib.Omega.{arith}
use lib.ListN.{length, take, drop}
use lib.Seq.{take-take, take-nil}
use Rattle.format.specs.Words.{Bytes, words, bytes}
use Rattle.format.proofs.items.WordLaws.{twice}

pub bytes_part : (s : List ℕ) (p m : ℕ) → Bytes s → 2 * (p + m) ≤ length s → bytes (take m (drop p (words s))) ≡ take (2 * m) (drop (2 * p) s)
unfolding bytes words
bytes_part s p zero bs h = refl
bytes_part [] p (suc m) bs h = absurd (omega arith)
bytes_part (a ∷ []) p (suc m) bs h = absurd (omega arith)
bytes_part (a ∷ b ∷ s) zero (suc m) bs h =
    let ha : a < 256 = bs 0 in
    let hb : b < 256 = bs 1 in
    rw (twice m) (ap₂ ◌∷◌ (omega arith) (ap₂ ◌∷◌ (omega arith) (bytes_part s zero m (λ i. bs (suc (suc i))) (omega arith))))
bytes_part (a ∷ b ∷ s) (suc p) (suc m) bs h = rw (twice p) (bytes_part s p (suc m) (λ i. bs (suc (suc i))) (omega arith))

-- the first words of some bytes are the words of their first bytes
pub take_words : (k : ℕ) (s : List ℕ) → take k (words s) ≡ words (take (2 * k) s)
unfolding words
take_words zero s = refl
take_words (suc k) [] = rw (twice k)
take_words (suc k) (a ∷ []) = rw (twice k) (ap (λ (l : List ℕ). a ∷ l) (take-nil k))
take_words (suc k) (a ∷ b ∷ s) = rw (twice k) (ap (λ (l : List ℕ). (a + 256 * b) ∷ l) (take_words k s))

pub part_take : (m p q : ℕ) (l : List ℕ) → p + m ≤ q → take m (drop p (take q l)) ≡ take m (drop p l)
part_take m zero q l h = take-take m q l (omega arith)
part_take m (suc p) zero l h = absurd (omega arith)
part_take m (suc p) (suc q) [] h = refl
part_take m (suc p) (suc q) (x ∷ l) h = part_take m p q l (omega arith)

-- the m words after word `at`, of the words before word `last`
pub payload_bytes : (s : List ℕ) (last at m : ℕ) → Bytes s → 2 * last ≤ length s → at + 1 + m ≤ last
    → bytes (take m (drop (at + 1) (take last (words s)))) ≡ take (2 * m) (drop (2 * (at + 1)) s)
payload_bytes s last at m y r l = ap bytes (part_take m (at + 1) last (words s) l) ∙ bytes_part s (at + 1) m y (omega arith)
