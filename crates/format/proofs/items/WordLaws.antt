-- Laws of bytes and words.
-- Assumes nothing.
use Prim.Native.Nat.{ℕ, zero, suc, ◌+◌, ◌*◌, ◌/◌, ◌%◌, ◌<◌, ◌≤◌}
use mathlib.Core.Path.{◌≡◌, refl, sym, ap, ap₂, ◌∙◌}
use mathlib.Core.List.{List, [], ◌∷◌, ◌++◌}
use mathlib.Core.Bool.{Bool, true, false}
use native.Mathlib.Omega.{arith}
use lib.ListN.{length, get_or, take, drop, get_or-eq_default}
use lib.Seq.{get_or-drop, drop-nil}
use Rattle.format.specs.Words.{pick, Bytes, words, bytes, word_at, long_at, time_at, long_of, time_of, long_words, time_words}

-- what holds of both branches where each is taken holds of the pick
pub pick_elim : {A : Type 0} (P : A → Type 0) (b : Bool) {x y : A} → (b ≡ true → P x) → (b ≡ false → P y) → P (pick b x y)
pick_elim P true p q = p refl
pick_elim P false p q = q refl

-- the words of bytes, and the bytes of words
pub words_bytes : (ws : List ℕ) → words (bytes ws) ≡ ws
unfolding words bytes
words_bytes [] = refl
words_bytes (w ∷ ws) = ap₂ ◌∷◌ (omega arith) (words_bytes ws)

pub bytes_words : (s : List ℕ) → length s % 2 ≡ 0 → Bytes s → bytes (words s) ≡ s
unfolding words bytes
bytes_words [] e h = refl
bytes_words (a ∷ []) e h = absurd (omega arith)
bytes_words (a ∷ b ∷ s) e h =
    let ha : a < 256 = h 0 in
    let hb : b < 256 = h 1 in
    let e' : length s % 2 ≡ 0 = omega arith in
    ap₂ ◌∷◌ (omega arith) (ap₂ ◌∷◌ (omega arith) (bytes_words s e' (λ i. h (suc (suc i)))))

pub length_words : (s : List ℕ) → length (words s) ≡ (length s + 1) / 2
unfolding words
length_words [] = refl
length_words (a ∷ []) = refl
length_words (a ∷ b ∷ s) = omega (arith, length_words s)

pub length_bytes : (ws : List ℕ) → length (bytes ws) ≡ 2 * length ws
unfolding bytes
length_bytes [] = refl
length_bytes (w ∷ ws) = omega (arith, length_bytes ws)

pub bytes_append : (us vs : List ℕ) → bytes (us ++ vs) ≡ bytes us ++ bytes vs
unfolding bytes
bytes_append [] vs = refl
bytes_append (u ∷ us) vs = ap (λ (l : List ℕ). (u % 256) ∷ (u / 256) ∷ l) (bytes_append us vs)

pub twice : (i : ℕ) → 2 * suc i ≡ suc (suc (2 * i))
twice i = omega arith

twice+1 : (i : ℕ) → 2 * suc i + 1 ≡ suc (suc (2 * i + 1))
twice+1 i = omega arith

-- word i of the bytes is element i of their words, past the end too
pub word_at_lem : (s : List ℕ) (i : ℕ) → get_or (words s) i 0 ≡ word_at s i
unfolding words
word_at_lem [] i = refl
word_at_lem (a ∷ []) zero = omega arith
word_at_lem (a ∷ []) (suc i) = sym (rw (twice+1, twice))
word_at_lem (a ∷ b ∷ s) zero = refl
word_at_lem (a ∷ b ∷ s) (suc i) = word_at_lem s i ∙ sym (rw (twice+1, twice))

-- a word of bytes is below 2 ^ 16
pub word_below : (s : List ℕ) → Bytes s → (i : ℕ) → word_at s i < 65536
word_below s h i = omega (arith, h (2 * i), h (2 * i + 1))

-- and two of them below 2 ^ 32
pub long_fits : (s : List ℕ) → Bytes s → (i : ℕ) → long_at s i < 4294967296
long_fits s h i = omega (arith, word_below s h i, word_below s h (i + 1))

pub words_below : (s : List ℕ) → Bytes s → (i : ℕ) → get_or (words s) i 0 < 65536
words_below s h i = rw (word_at_lem s i) (word_below s h i)

-- the bytes of words below 2 ^ 16
pub bytes_below : (ws : List ℕ) → ((i : ℕ) → get_or ws i 0 < 65536) → Bytes (bytes ws)
unfolding bytes
bytes_below [] h i = omega arith
bytes_below (w ∷ ws) h zero = omega (arith, h 0)
bytes_below (w ∷ ws) h (suc zero) = let b : w < 65536 = h 0 in omega arith
bytes_below (w ∷ ws) h (suc (suc i)) = bytes_below ws (λ i. h (suc i)) i

-- the words from word k on are those of the bytes from byte 2k on
pub drop_words : (k : ℕ) (s : List ℕ) → drop k (words s) ≡ words (drop (2 * k) s)
unfolding words
drop_words zero s = refl
drop_words (suc k) [] = sym (rw twice)
drop_words (suc k) (a ∷ []) = rw twice (drop-nil k)
drop_words (suc k) (a ∷ b ∷ s) = drop_words k s ∙ sym (rw twice)

-- past the end
past : (s : List ℕ) (i : ℕ) → length s ≤ i → get_or s i 0 ≡ 0
past s i h = get_or-eq_default s 0 {n = i} h

pub word_past : (s : List ℕ) (i : ℕ) → length s ≤ 2 * i → 0 ≡ word_at s i
word_past s i h = omega (arith, past s (2 * i) h, past s (2 * i + 1) (omega arith))

pub word_half : (s : List ℕ) (i : ℕ) → length s ≤ 2 * i + 1 → get_or s (2 * i) 0 ≡ word_at s i
word_half s i h = omega (arith, past s (2 * i + 1) h)

-- the numbers of 32 and 48 bits in words
pub long_there : (n : ℕ) (t : List ℕ) → long_of (long_words n ++ t) ≡ n
long_there n t = omega arith

pub long_back : (ws : List ℕ) → length ws ≡ 2 → ((i : ℕ) → get_or ws i 0 < 65536) → ws ≡ long_words (long_of ws)
long_back [] e h = absurd (omega arith)
long_back (a ∷ []) e h = absurd (omega arith)
long_back (a ∷ b ∷ []) e h =
    let p : a < 65536 = h 0 in
    ap₂ ◌∷◌ (omega arith) (ap₂ ◌∷◌ (omega arith) refl)
long_back (a ∷ b ∷ c ∷ ws) e h = absurd (omega arith)

pub long_below : (ws : List ℕ) → ((i : ℕ) → get_or ws i 0 < 65536) → long_of ws < 4294967296
long_below ws h = omega (arith, h 0, h 1)

pub time_there : (n : ℕ) (t : List ℕ) → time_of (time_words n ++ t) ≡ n
time_there n t =
    let d : n / 65536 / 65536 ≡ n / 4294967296 = omega arith in
    omega arith

pub time_back : (ws : List ℕ) → length ws ≡ 3 → ((i : ℕ) → get_or ws i 0 < 65536) → ws ≡ time_words (time_of ws)
time_back [] e h = absurd (omega arith)
time_back (a ∷ []) e h = absurd (omega arith)
time_back (a ∷ b ∷ []) e h = absurd (omega arith)
time_back (a ∷ b ∷ c ∷ []) e h =
    let p : a < 65536 = h 0 in
    let q : b < 65536 = h 1 in
    let x : ℕ = a + 65536 * b + 4294967296 * c in
    let u : x / 65536 ≡ b + 65536 * c = omega arith in
    ap₂ ◌∷◌ (omega arith) (ap₂ ◌∷◌ (omega arith) (ap₂ ◌∷◌ (omega arith) refl))
time_back (a ∷ b ∷ c ∷ d ∷ ws) e h = absurd (omega arith)

pub time_below : (ws : List ℕ) → ((i : ℕ) → get_or ws i 0 < 65536) → time_of ws < 281474976710656
time_below ws h = omega (arith, h 0, h 1, h 2)

pub below_drop : (n : ℕ) (l : List ℕ) (m : ℕ) → ((i : ℕ) → get_or l i 0 < m) → (i : ℕ) → get_or (drop n l) i 0 < m
below_drop n l m h i = rw (get_or-drop n l i 0) (h (n + i))

pub below_take : (n : ℕ) (l : List ℕ) (m : ℕ) → 0 < m → ((i : ℕ) → get_or l i 0 < m) → (i : ℕ) → get_or (take n l) i 0 < m
below_take zero l m p h i = p
below_take (suc n) [] m p h i = p
below_take (suc n) (x ∷ l) m p h zero = h 0
below_take (suc n) (x ∷ l) m p h (suc i) = below_take n l m p (λ i. h (suc i)) i

pub long_past : (s : List ℕ) (i : ℕ) → length s ≤ i → 0 ≡ long_at s i
long_past s i h = omega (arith, word_past s i (omega arith), word_past s (i + 1) (omega arith))

pub time_past : (s : List ℕ) (i : ℕ) → length s ≤ i → 0 ≡ time_at s i
time_past s i h = omega (arith, word_past s i (omega arith), word_past s (i + 1) (omega arith), word_past s (i + 2) (omega arith))
