-- Bytes, and words of 16, 32 and 48 bits in them, low byte first (document 01, "What the record covers"). A word past the end is 0.
-- Assumes nothing.
use Rattle.std.specs.Prelude.{ℕ, ◌+◌, ◌*◌, ◌/◌, ◌%◌, ◌<◌, List, [], ◌∷◌, Bool, true, false, ◌&&◌, get_or, leb, eqb}

-- the first where the test holds, else the second
abbrev pub pick : {A : Type 0} → Bool → A → A → A
pick true a b = a
pick false a b = b

-- every element is a byte, as in each lent slice
abbrev pub Bytes : List ℕ → Type 0
Bytes s = (i : ℕ) → get_or s i 0 < 256

-- the words of some bytes; a last byte alone is the low byte of a word
unfoldable pub words : List ℕ → List ℕ
words [] = []
words (a ∷ []) = a ∷ []
words (a ∷ b ∷ s) = (a + 256 * b) ∷ words s

-- the bytes of some words
unfoldable pub bytes : List ℕ → List ℕ
bytes [] = []
bytes (w ∷ ws) = (w % 256) ∷ (w / 256) ∷ bytes ws

-- word i of some bytes, and the numbers of 32 and 48 bits that begin there
abbrev pub word_at : List ℕ → ℕ → ℕ
word_at s i = get_or s (2 * i) 0 + 256 * get_or s (2 * i + 1) 0

abbrev pub long_at : List ℕ → ℕ → ℕ
long_at s i = word_at s i + 65536 * word_at s (i + 1)

abbrev pub time_at : List ℕ → ℕ → ℕ
time_at s i = word_at s i + 65536 * word_at s (i + 1) + 4294967296 * word_at s (i + 2)

-- the same of words: the number of 32 bits that they begin with, and that of 48
abbrev pub long_of : List ℕ → ℕ
long_of ws = get_or ws 0 0 + 65536 * get_or ws 1 0

abbrev pub time_of : List ℕ → ℕ
time_of ws = get_or ws 0 0 + 65536 * get_or ws 1 0 + 4294967296 * get_or ws 2 0

-- the words of a number of 32 bits, and of one of 48
abbrev pub long_words : ℕ → List ℕ
long_words n = (n % 65536) ∷ (n / 65536) ∷ []

abbrev pub time_words : ℕ → List ℕ
time_words n = (n % 65536) ∷ (n / 65536 % 65536) ∷ (n / 4294967296) ∷ []

-- no byte is zero
unfoldable pub non_zero : List ℕ → Bool
non_zero [] = true
non_zero (b ∷ s) = leb 1 b && non_zero s

-- every byte is zero
unfoldable pub all_zero : List ℕ → Bool
all_zero [] = true
all_zero (b ∷ s) = eqb b 0 && all_zero s
