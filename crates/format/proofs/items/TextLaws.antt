-- A text's bytes in words: the bytes, the final zero, and a padding zero where that makes them even; written and read back.
-- Assumes nothing.
use Prim.Native.Nat.{ℕ, zero, suc, ◌+◌, ◌-◌, ◌*◌, ◌/◌, ◌%◌, ◌<◌, ◌≤◌}
use mathlib.Core.Path.{◌≡◌, refl, sym, ap, ap₂, ◌∙◌}
use mathlib.Core.List.{List, [], ◌∷◌, ◌++◌}
use mathlib.Core.Bool.{true, ◌&&◌}
use native.Mathlib.Omega.{arith}
use lib.Dec.{leb, ltb, eqb}
use lib.Pow.{are_bytes}
use lib.ListN.{length, take, drop, length-append, length-drop, take-append-drop}
use lib.Seq.{take_at, drop_at, length-take-le}
use borrow.Author.Tests.{leb-true, ltb-true, eqb-true, le-leb, lt-ltb}
use Rattle.format.specs.Words.{Bytes, words, bytes, non_zero, all_zero}
use Rattle.format.specs.Items.{closed}
use Rattle.format.proofs.book.PrefixLaws.{and_left, and_right, and_both}
use Rattle.format.proofs.items.WordLaws.{words_bytes, length_bytes}

-- the final zero, and a second one where the text's length is even
abbrev zeros : List ℕ → List ℕ
zeros [] = 0 ∷ 0 ∷ []
zeros (a ∷ []) = 0 ∷ []
zeros (a ∷ b ∷ s) = zeros s

zeros_zero : (s : List ℕ) → all_zero (zeros s) ≡ true
unfolding all_zero
zeros_zero [] = refl
zeros_zero (a ∷ []) = refl
zeros_zero (a ∷ b ∷ s) = zeros_zero s

pub are_bytes_lem : (s : List ℕ) → are_bytes s ≡ true → Bytes s
are_bytes_lem [] e i = omega arith
are_bytes_lem (b ∷ s) e zero = ltb-true b 256 (and_left (ltb b 256) (are_bytes s) e)
are_bytes_lem (b ∷ s) e (suc i) = are_bytes_lem s (and_right (ltb b 256) (are_bytes s) e) i

pub bytes_are : (s : List ℕ) → Bytes s → are_bytes s ≡ true
bytes_are [] h = refl
bytes_are (b ∷ s) h = and_both _ _ (lt-ltb b 256 (h 0)) (bytes_are s (λ i. h (suc i)))

-- the bytes of a text's words
bytes_text : (s : List ℕ) → Bytes s → bytes (words (s ++ (0 ∷ []))) ≡ s ++ zeros s
unfolding words bytes
bytes_text [] h = refl
bytes_text (a ∷ []) h =
    let p : a < 256 = h 0 in
    ap₂ ◌∷◌ (omega arith) (ap₂ ◌∷◌ (omega arith) refl)
bytes_text (a ∷ b ∷ s) h =
    let p : a < 256 = h 0 in
    let q : b < 256 = h 1 in
    ap₂ ◌∷◌ (omega arith) (ap₂ ◌∷◌ (omega arith) (bytes_text s (λ i. h (suc (suc i)))))

-- what a text is written as is closed by its zero, and its bytes are the text
pub text_there : (s : List ℕ) → non_zero s ≡ true → Bytes s
    → (closed (length s + 1) (bytes (words (s ++ (0 ∷ [])))) ≡ true) × (take (length s) (bytes (words (s ++ (0 ∷ [])))) ≡ s)
text_there s n h =
    let e = bytes_text s h in
    let t : take (length s) (bytes (words (s ++ (0 ∷ [])))) ≡ s = ap (take (length s)) e ∙ take_at s (zeros s) (length s) refl in
    let d : drop (length s) (bytes (words (s ++ (0 ∷ [])))) ≡ zeros s = ap (drop (length s)) e ∙ drop_at s (zeros s) (length s) refl in
    let k : length s + 1 - 1 ≡ length s = omega arith in
    (rw (k, le-leb 1 (length s + 1) (omega arith), t, d, n) (zeros_zero s), t)

-- one or two zeros
one_zero : (z : List ℕ) → all_zero z ≡ true → length z ≡ 1 → z ≡ 0 ∷ []
unfolding all_zero
one_zero [] e h = absurd (omega arith)
one_zero (a ∷ []) e h = ap (λ (x : ℕ). x ∷ []) (eqb-true a 0 (and_left (eqb a 0) true e))
one_zero (a ∷ b ∷ z) e h = absurd (omega arith)

two_zeros : (z : List ℕ) → all_zero z ≡ true → length z ≡ 2 → z ≡ 0 ∷ 0 ∷ []
unfolding all_zero
two_zeros [] e h = absurd (omega arith)
two_zeros (a ∷ z) e h =
    ap₂ ◌∷◌ (eqb-true a 0 (and_left (eqb a 0) (all_zero z) e)) (one_zero z (and_right (eqb a 0) (all_zero z) e) (omega arith))

-- a padding zero makes no other word
padded : (s : List ℕ) → length s % 2 ≡ 0 → words (s ++ (0 ∷ 0 ∷ [])) ≡ words (s ++ (0 ∷ []))
unfolding words
padded [] e = refl
padded (a ∷ []) e = absurd (omega arith)
padded (a ∷ b ∷ s) e = ap (λ (l : List ℕ). (a + 256 * b) ∷ l) (padded s (omega arith))

zero_words : (s z : List ℕ) → all_zero z ≡ true → length (s ++ z) % 2 ≡ 0 → 1 ≤ length z → length z ≤ 2 → words (s ++ z) ≡ words (s ++ (0 ∷ []))
zero_words s [] e h p q = absurd (omega arith)
zero_words s (a ∷ []) e h p q = ap (λ (l : List ℕ). words (s ++ l)) (one_zero (a ∷ []) e refl)
zero_words s (a ∷ b ∷ []) e h p q =
    let l = length-append s (a ∷ b ∷ []) in
    ap (λ (l : List ℕ). words (s ++ l)) (two_zeros (a ∷ b ∷ []) e refl) ∙ padded s (omega arith)
zero_words s (a ∷ b ∷ c ∷ z) e h p q = absurd (omega arith)

pub record TextRead (n : ℕ) (ws : List ℕ) : Type 0 where
  pub least : 1 ≤ n
  pub written : ws ≡ words (take (n - 1) (bytes ws) ++ (0 ∷ []))
  pub long : length (take (n - 1) (bytes ws)) ≡ n - 1
  pub letters : non_zero (take (n - 1) (bytes ws)) ≡ true

-- words that are closed are what their text is written as
pub text_back : (n : ℕ) (ws : List ℕ) → closed n (bytes ws) ≡ true → length ws ≡ (n + 1) / 2 → TextRead n ws
text_back n ws e h =
    let s = take (n - 1) (bytes ws) in
    let z = drop (n - 1) (bytes ws) in
    let f = and_left (leb 1 n && non_zero s) (all_zero z) e in
    let p : 1 ≤ n = leb-true 1 n (and_left (leb 1 n) (non_zero s) f) in
    let l = length_bytes ws in
    let d = length-drop (n - 1) (bytes ws) in
    let j : s ++ z ≡ bytes ws = take-append-drop (n - 1) (bytes ws) in
    let k : length (s ++ z) ≡ length (bytes ws) = ap length j in
    record {
      least = p;
      written = sym (words_bytes ws) ∙ ap words (sym j) ∙ zero_words s z (and_right (leb 1 n && non_zero s) (all_zero z) e) (omega arith) (omega arith) (omega arith);
      long = length-take-le (n - 1) (bytes ws) (omega arith);
      letters = and_right (leb 1 n) (non_zero s) f;
    }
