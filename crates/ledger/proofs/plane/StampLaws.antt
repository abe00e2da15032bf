-- Entries with a time and a desk have the laws that demand 3's theorems ask of a format, whatever a version asks of its desks.
-- Assumes nothing.
use Prim.Native.Nat.{ℕ, zero, suc, ◌+◌, ◌*◌, ◌/◌, ◌%◌, ◌≤◌, ◌<◌}
use mathlib.Core.Path.{◌≡◌, refl, sym, ap, ap₂, ◌∙◌}
use mathlib.Core.Bool.{Bool, true, true≢false}
use mathlib.Core.List.{List, [], ◌∷◌, ◌++◌}
use native.Mathlib.Omega.{arith}
use lib.Dec.{ltb}
use lib.ListN.{length, get_or, take, drop}
use borrow.Author.Tests.{ltb-true, lt-ltb}
use Rattle.format.specs.Words.{Bytes, bytes, word_at, time_at}
use Rattle.format.specs.Answers.{accepted, Done}
use Rattle.format.specs.Spots.{Spot, revalued}
use Rattle.format.proofs.book.PrefixLaws.{and_left, and_right}
use Rattle.format.proofs.items.WordLaws.{word_below, bytes_below}
use Rattle.ledger.specs.Formats.{Entry, LawfulFormat}
use Rattle.ledger.specs.VersionTwo.{time_in, desk_in, stamp_words, stamp_fits, stamped}
use Rattle.ledger.proofs.records.Codecs.{word_bytes}

-- ---- a content that fits is a time and a desk
pub record Stamp (x : List ℕ) : Type 0 where
  pub pair : x ≡ time_in x ∷ desk_in x ∷ []
  pub time : time_in x < 281474976710656
  pub desk : desk_in x < 65536

pub stamp_of : (x : List ℕ) → stamp_fits x ≡ true → Stamp x
stamp_of [] e = absurd (true≢false (sym e))
stamp_of (t ∷ []) e = absurd (true≢false (sym e))
stamp_of (t ∷ d ∷ []) e = record { pair = refl; time = ltb-true _ _ (and_left (ltb t 281474976710656) _ e); desk = ltb-true _ _ (and_right (ltb t 281474976710656) _ e) }
stamp_of (t ∷ d ∷ y ∷ x) e = absurd (true≢false (sym e))

-- ---- written and read
word_there : (w : ℕ) → w % 256 + 256 * (w / 256) ≡ w
word_there w = omega arith

-- a number of 48 bits from its three words
time_whole : (t : ℕ) → t < 281474976710656 → t % 65536 + 65536 * (t / 65536 % 65536) + 4294967296 * (t / 4294967296 % 65536) ≡ t
time_whole t h = omega arith

time_there : (t : ℕ) → t < 281474976710656
    → t % 65536 % 256 + 256 * (t % 65536 / 256) + 65536 * (t / 65536 % 65536 % 256 + 256 * (t / 65536 % 65536 / 256))
    + 4294967296 * (t / 4294967296 % 65536 % 256 + 256 * (t / 4294967296 % 65536 / 256))
    ≡ t
time_there t h = rw (word_there (t % 65536), word_there (t / 65536 % 65536), word_there (t / 4294967296 % 65536)) (time_whole t h)

read_written : (x s : List ℕ) → stamp_fits x ≡ true → time_at (bytes (stamp_words x) ++ s) 0 ∷ word_at (bytes (stamp_words x) ++ s) 3 ∷ [] ≡ x
unfolding bytes
read_written x s g =
    let p = stamp_of x g in
    ap₂ (λ (t d : ℕ). t ∷ d ∷ []) (time_there (time_in x) p.time) (word_there (desk_in x)) ∙ sym p.pair

four_below : (a b c d : ℕ) → a < 65536 → b < 65536 → c < 65536 → d < 65536 → (i : ℕ) → get_or (a ∷ b ∷ c ∷ d ∷ []) i 0 < 65536
four_below a b c d pa pb pc pd zero = pa
four_below a b c d pa pb pc pd (suc zero) = pb
four_below a b c d pa pb pc pd (suc (suc zero)) = pc
four_below a b c d pa pb pc pd (suc (suc (suc zero))) = pd
four_below a b c d pa pb pc pd (suc (suc (suc (suc i)))) = omega arith

written_bytes : (x : List ℕ) → stamp_fits x ≡ true → Bytes (bytes (stamp_words x))
written_bytes x g = bytes_below (stamp_words x) (four_below _ _ _ _ (omega arith) (omega arith) (omega arith) (stamp_of x g).desk)

module _ (a b c : ℕ) (ha : a < 65536) (hb : b < 65536) (hc : c < 65536) where
  low_word : (a + 65536 * b + 4294967296 * c) % 65536 ≡ a
  low_word = omega arith

  next_word : (a + 65536 * b + 4294967296 * c) / 65536 % 65536 ≡ b
  next_word = omega arith

  high_word : (a + 65536 * b + 4294967296 * c) / 4294967296 % 65536 ≡ c
  high_word = omega arith

  pub time_below : a + 65536 * b + 4294967296 * c < 281474976710656
  time_below = omega arith

word : ℕ → List ℕ → List ℕ
word w r = (w % 256) ∷ (w / 256) ∷ r

four_words : (s : List ℕ) → Bytes s → 8 ≤ length s → s ≡ bytes (word_at s 0 ∷ word_at s 1 ∷ word_at s 2 ∷ word_at s 3 ∷ []) ++ drop 8 s
unfolding bytes word
four_words s y h =
    word_bytes s 0 y (omega arith)
    ∙ ap (word (word_at s 0)) (word_bytes s 2 y (omega arith)
    ∙ ap (word (word_at s 1)) (word_bytes s 4 y (omega arith)
    ∙ ap (word (word_at s 2)) (word_bytes s 6 y (omega arith))))

written_read : (s : List ℕ) → Bytes s → 8 ≤ length s → bytes (stamp_words (time_at s 0 ∷ word_at s 3 ∷ [])) ≡ take 8 s
unfolding bytes
written_read s y l =
    let w₀ = word_below s y 0 in
    let w₁ = word_below s y 1 in
    let w₂ = word_below s y 2 in
    rw (low_word (word_at s 0) (word_at s 1) (word_at s 2) w₀ w₁ w₂, next_word (word_at s 0) (word_at s 1) (word_at s 2) w₀ w₁ w₂, high_word (word_at s 0) (word_at s 1) (word_at s 2) w₀ w₁ w₂)
    (sym (ap (take 8) (four_words s y l)))

-- what is read from bytes always fits
pub read_fits : (s : List ℕ) → Bytes s → stamp_fits (time_at s 0 ∷ word_at s 3 ∷ []) ≡ true
read_fits s y =
    let t = time_below (word_at s 0) (word_at s 1) (word_at s 2) (word_below s y 0) (word_below s y 1) (word_below s y 2) in
    rw (lt-ltb _ _ t, lt-ltb _ _ (word_below s y 3))

-- ---- any version of such entries: what it asks of its desks, and of how many entries may stand
module _ (version : ℕ) (suits : ℕ → Spot → Bool) (asked : ℕ → Done) (limit : List Entry → Bool) where
  pub stamped_lawful : version < 65536
      → ((d : ℕ) (s : Spot) (v : ℕ) → suits d (revalued s v) ≡ suits d s)
      → ((d : ℕ) (s : Spot) → suits d s ≡ true → asked d ≡ accepted tt)
      → limit [] ≡ true
      → ((e : Entry) (es : List Entry) → limit (e ∷ es) ≡ true → limit es ≡ true)
      → ((d e : Entry) (es : List Entry) → limit (d ∷ e ∷ es) ≡ true → limit (e ∷ d ∷ es) ≡ true)
      → ((es : List Entry) → limit es ≡ true → length es ≤ 512)
      → LawfulFormat (stamped version suits asked limit)
  unfolding bytes
  stamped_lawful small revalue ask none older swap few = record {
    version_fits = small;
    extra_small = omega arith;
    written_length = λ x g. refl;
    written_bytes = written_bytes;
    read_written = read_written;
    written_read = λ s y l g. written_read s y l;
    suits_revalued = λ x s v. revalue (desk_in x) s v;
    asked_suits = λ x s g t. ask (desk_in x) s t;
    limit_none = none;
    limit_older = older;
    limit_swap = swap;
    limit_few = few;
  }
