-- What the writer's stores, one behind the other, leave: the words of an item.
-- Assumes nothing.
use Prim.Native.Nat.{ℕ, suc, ◌+◌, ◌*◌, ◌/◌, ◌%◌, ◌<◌}
use mathlib.Core.Path.{◌≡◌, refl, sym, ap, ap₂, ◌∙◌}
use mathlib.Core.List.{List, [], ◌∷◌, ◌++◌}
use mathlib.Core.Bool.{Bool, true, false}
use native.Mathlib.Omega.{arith}
use lib.Dec.{eqb}
use native.Mathlib.Numerals.{add-one}
use lib.ListN.{length, get_or, set, length-append}
use Rattle.std.specs.Int.{w16, to_le_bytes}
use lib.Seq.{sets}
use borrow.Author.Tests.{eqb-true, eqb-false}
use Rattle.format.specs.Words.{pick, Bytes, words, bytes, long_words}
use Rattle.format.proofs.items.WordLaws.{bytes_append}
use Rattle.format.proofs.items.StoringLaws.{sets_next}
use Rattle.writer.specs.Views.{time_cut, final_zero, text_bytes}

-- a word by its two bytes
pub word_put : (b : List ℕ) (at w : ℕ) (r : List ℕ) → w < 65536 → r ≡ to_le_bytes w16 w → set (set b at (get_or r 0 0)) (at + 1) (get_or r 1 0) ≡ sets b at (bytes (w ∷ []))
unfolding bytes
word_put b at w r h e =
    let low : get_or (to_le_bytes w16 w) 0 0 ≡ w % 256 = omega arith in
    let high : get_or (to_le_bytes w16 w) 1 0 ≡ w / 256 = omega arith in
    rw (e, add-one) (ap₂ (λ (x y : ℕ). set (set b at x) (suc at) y) low high)

-- six words are three and three
pub six : (b b₁ b₂ : List ℕ) (at w time n : ℕ) → b₁ ≡ sets b at (bytes (w ∷ long_words (time % 4294967296)))
    → b₂ ≡ sets b₁ (at + 6) (bytes ((time / 4294967296 % 65536) ∷ long_words n)) → b₂ ≡ sets b at (bytes (w ∷ (time_cut time ++ long_words n)))
unfolding bytes
six b b₁ b₂ at w time n e f =
    sets_next b b₁ b₂ at (at + 6) (bytes (w ∷ long_words (time % 4294967296))) (bytes ((time / 4294967296 % 65536) ∷ long_words n)) refl e f
    ∙ ap (sets b at) (sym (bytes_append (w ∷ long_words (time % 4294967296)) ((time / 4294967296 % 65536) ∷ long_words n)) ∙ ap₂ (λ (l m : ℕ). bytes (w ∷ l ∷ m ∷ (time / 4294967296 % 65536) ∷ long_words n)) low middle)
  where
    low : time % 4294967296 % 65536 ≡ time % 65536
    low = omega arith

    middle : time % 4294967296 / 65536 ≡ time / 65536 % 65536
    middle = omega arith

-- ---- texts

-- two letters more leave the same room in the last word
zero_more : (n : ℕ) → final_zero n ≡ final_zero (suc (suc n))
zero_more n =
    let e : n % 2 ≡ suc (suc n) % 2 = omega arith in
    ap (λ (k : ℕ). pick (eqb k 0) (0 ∷ 0 ∷ []) (0 ∷ [])) e

two_bytes : (a b : ℕ) → a < 256 → b < 256 → ((a + 256 * b) % 256 ≡ a) × ((a + 256 * b) / 256 ≡ b)
two_bytes a b h k = (omega arith, omega arith)

-- the bytes of a text's words are the text, its final zero and the padding
pub zero_behind : (s : List ℕ) → Bytes s → bytes (words (s ++ (0 ∷ []))) ≡ s ++ final_zero (length s)
unfolding words bytes
zero_behind [] h = refl
zero_behind (a ∷ []) h =
    let (p, q) = two_bytes a 0 (h 0) (omega arith) in
    ap₂ (λ (x y : ℕ). x ∷ y ∷ []) p q
zero_behind (a ∷ b ∷ s) h =
    let (p, q) = two_bytes a b (h 0) (h 1) in
    let r : bytes (words (s ++ (0 ∷ []))) ≡ s ++ final_zero (suc (suc (length s))) = zero_behind s (λ i. h (suc (suc i))) ∙ ap (λ (z : List ℕ). s ++ z) (zero_more (length s)) in
    rw (p, q, r)

pub text_length : (w : ℕ) (s : List ℕ) → length (text_bytes w s) ≡ 2 + (length s + length (final_zero (length s)))
unfolding text_bytes bytes
text_length w s = omega (arith, length-append s (final_zero (length s)))

pub zero_length : (n : ℕ) → n + length (final_zero n) ≡ (n + 2) / 2 * 2
zero_length n = go (eqb (n % 2) 0) refl
  where
    go : (b : Bool) → eqb (n % 2) 0 ≡ b → n + length (final_zero n) ≡ (n + 2) / 2 * 2
    go true e = rw e (omega (arith, eqb-true (n % 2) 0 e))
    go false e = rw e (omega (arith, eqb-false (n % 2) 0 e))

pub text_size : (w : ℕ) (s : List ℕ) → 2 + (length s + 2) / 2 * 2 ≡ length (text_bytes w s)
text_size w s = omega (arith, text_length w s, zero_length (length s))

-- a word, letters and their zero, stored one behind the other
pub text_stored : (b b₁ b₂ b₃ : List ℕ) (at w : ℕ) (s : List ℕ) → b₁ ≡ sets b at (bytes (w ∷ [])) → b₂ ≡ sets b₁ (at + 2) s
    → b₃ ≡ sets b₂ (at + 2 + length s) (final_zero (length s)) → b₃ ≡ sets b at (text_bytes w s)
unfolding text_bytes bytes
text_stored b b₁ b₂ b₃ at w s e f g =
    let h : b₃ ≡ sets b₁ (at + 2) (s ++ final_zero (length s)) = sets_next b₁ b₂ b₃ (at + 2) (at + 2 + length s) s (final_zero (length s)) refl f g in
    sets_next b b₁ b₃ at (at + 2) (bytes (w ∷ [])) (s ++ final_zero (length s)) refl e h
