-- A legal value stored in the words of its item, and an entry stored word by word.
-- Assumes nothing.
use Prim.Native.Nat.{ℕ, suc, ◌+◌, ◌-◌, ◌*◌, ◌/◌, ◌%◌, ◌≤◌, ◌<◌}
use mathlib.Core.Path.{◌≡◌, refl, sym, ap, ◌∙◌}
use mathlib.Core.Bool.{Bool, true, false}
use mathlib.Core.List.{List, [], ◌∷◌, ◌++◌}
use native.Mathlib.Omega.{arith}
use native.Mathlib.Nat.{add-zero}
use lib.ListN.{length, take, drop, length-drop, take-append-drop, drop_of_length-le}
use lib.Seq.{sets, take_all, length-take-le}
use Rattle.std.proofs.Common.{append-nil}
use borrow.Rule.Slice.PartMut.{put_mid}
use borrow.Author.Tests.{eq-eqb, ne_eqb}
use lib.Dec.{eqb}
use Rattle.format.specs.Words.{pick, bytes, long_words}
use Rattle.format.specs.Spots.{legal_value, value_word, value_words}
use Rattle.format.proofs.items.StoringLaws.{sets_out, sets_next, sets_right, part_whole}
use Rattle.format.proofs.front.Stability.{legal_sample}
use Rattle.ledger.specs.Formats.{Entry}
use Rattle.ledger.specs.Records.{entry_bytes}
use Rattle.ledger.specs.VersionTwo.{stamp_words, version_two}
use Rattle.records.specs.Stored.{stored}

-- the bytes of a word and of a number of 32 bits
pub word_bytes : (w : ℕ) → w < 65536 → w % 256 ∷ w / 256 % 256 ∷ [] ≡ bytes (w ∷ [])
unfolding bytes
word_bytes w h = let e : w / 256 % 256 ≡ w / 256 = omega arith in rw e

pub long_bytes : (n : ℕ) → n < 4294967296 → n % 256 ∷ n / 256 % 256 ∷ n / 65536 % 256 ∷ n / 16777216 % 256 ∷ [] ≡ bytes (long_words n)
unfolding bytes
long_bytes n h =
    let a : n % 65536 % 256 ≡ n % 256 = omega arith in
    let b : n % 65536 / 256 ≡ n / 256 % 256 = omega arith in
    let c : n / 65536 / 256 ≡ n / 16777216 = omega arith in
    let d : n / 16777216 % 256 ≡ n / 16777216 = omega arith in
    rw (a, b, c, d)

-- stored in the part of a slice from byte `at` on
pub stored_from : (xs ys vs : List ℕ) (at : ℕ) → at ≤ length xs → ys ≡ sets (take (length xs - at) (drop at xs)) 0 vs → put_mid at (length xs - at) xs ys ≡ sets xs at vs
stored_from xs ys vs at h e =
    let l : length (drop at xs) ≤ length xs - at = rw length-drop (omega arith) in
    let m = take_all (length xs - at) (drop at xs) l in
    let z : drop (length xs - at) (drop at xs) ≡ [] = drop_of_length-le (drop at xs) l in
    let p : length (take at xs) ≡ at = length-take-le at xs h in
    let s : sets (take at xs ++ drop at xs) at vs ≡ take at xs ++ sets (drop at xs) 0 vs = ap (λ (i : ℕ). sets (take at xs ++ drop at xs) i vs) (sym (add-zero at)) ∙ sets_right (take at xs) (drop at xs) at 0 vs p in
    ap (λ (q : List ℕ). take at xs ++ (ys ++ q)) z ∙ ap (λ (q : List ℕ). take at xs ++ q) (append-nil ys ∙ e ∙ ap (λ (q : List ℕ). sets q 0 vs) m) ∙ sym s
    ∙ ap (λ (q : List ℕ). sets q at vs) (take-append-drop at xs)

-- over a word, and over a number of 32 bits
pub over_word : (f ys : List ℕ) (at to w : ℕ) → to ≡ at + 2 → to ≤ length f → w < 65536 → ys ≡ w % 256 ∷ w / 256 % 256 ∷ [] → put_mid at (to - at) f ys ≡ sets f at (bytes (w ∷ []))
over_word f ys at to w t r h e =
    part_whole f at to ys (omega arith) r (ap length e ∙ (let n : 2 ≡ to - at = omega arith in n)) ∙ ap (sets f at) (e ∙ word_bytes w h)

pub over_long : (f ys : List ℕ) (at to n : ℕ) → to ≡ at + 4 → to ≤ length f → n < 4294967296 → ys ≡ n % 256 ∷ n / 256 % 256 ∷ n / 65536 % 256 ∷ n / 16777216 % 256 ∷ []
    → put_mid at (to - at) f ys ≡ sets f at (bytes (long_words n))
over_long f ys at to n t r h e =
    part_whole f at to ys (omega arith) r (ap length e ∙ (let n : 4 ≡ to - at = omega arith in n)) ∙ ap (sets f at) (e ∙ long_bytes n h)

pub sample_fits : (kind v : ℕ) → legal_value kind v ≡ true → kind ≡ 1 → v ≤ 4095
sample_fits kind v l e = (legal_sample v).0 (ap (λ (k : ℕ). legal_value k v) (sym e) ∙ l)

module _ (f : List ℕ) (kind w v : ℕ) where
  pub illegal_left : legal_value kind v ≡ false → f ≡ stored f kind w v
  unfolding stored
  illegal_left e = rw e

  far : length f / 2 < w → length f ≤ 2 * value_word kind w
  far h = go (eqb kind 1)
    where
      go : (b : Bool) → length f ≤ 2 * pick b w (w + 1)
      go true = omega arith
      go false = omega arith

  -- past the frame nothing is stored
  pub past_left : length f / 2 < w → f ≡ stored f kind w v
  unfolding stored
  past_left h = go (legal_value kind v)
    where
      go : (b : Bool) → f ≡ pick b (sets f (2 * value_word kind w) (bytes (value_words kind v))) f
      go true = sym (sets_out (bytes (value_words kind v)) f (2 * value_word kind w) (far h))
      go false = refl

  module _ (l : legal_value kind v ≡ true) where
    -- a Sample's own word
    pub sample_stored : kind ≡ 1 → (u : ℕ) (g : List ℕ) → u ≡ 0x3000 + v % 4096 → g ≡ sets f (2 * w) (bytes (u ∷ [])) → g ≡ stored f kind w v
    unfolding stored
    sample_stored e u g q s =
        let h = sample_fits kind v l e in
        let m : v % 4096 ≡ v = omega arith in
        rw (s, q, m, l, eq-eqb kind 1 e)

    -- a Bin's count, in the two words after its first
    pub count_stored : (kind ≡ 1 → ⊥) → (g : List ℕ) → g ≡ sets f (2 * w + 2) (bytes (long_words v)) → g ≡ stored f kind w v
    unfolding stored
    count_stored n g s = let i : 2 * (w + 1) ≡ 2 * w + 2 = omega arith in rw (s, l, ne_eqb kind 1 n, i)

    -- the same word by word
    pub bin_stored : (kind ≡ 1 → ⊥) → (g k : List ℕ) → g ≡ sets f (2 * w + 2) (bytes ((v % 65536) ∷ [])) → k ≡ sets g (2 * w + 4) (bytes ((v / 65536) ∷ [])) → k ≡ stored f kind w v
    unfolding stored bytes
    bin_stored n g k s t =
        let i : 2 * (w + 1) ≡ 2 * w + 2 = omega arith in
        let j : 2 * w + 4 ≡ suc (suc (2 * w + 2)) = omega arith in
        rw (t, s, l, ne_eqb kind 1 n, i, j)

-- ---- an entry

pub long_stored : (f f₁ f₂ : List ℕ) (at n : ℕ) → f₁ ≡ sets f at (bytes ((n % 65536) ∷ [])) → f₂ ≡ sets f₁ (at + 2) (bytes ((n / 65536) ∷ []))
    → f₂ ≡ sets f at (bytes (long_words n))
unfolding bytes
long_stored f f₁ f₂ at n e₁ e₂ = sets_next f f₁ f₂ at (at + 2) (bytes ((n % 65536) ∷ [])) (bytes ((n / 65536) ∷ [])) refl e₁ e₂

-- a time in 6 bytes, and a desk
low_long : (t : ℕ) → t % 4294967296 % 65536 ≡ t % 65536
low_long t = omega arith

high_long : (t : ℕ) → t % 4294967296 / 65536 ≡ t / 65536 % 65536
high_long t = omega arith

pub time_stored : (f f₁ f₂ f₃ : List ℕ) (at t d : ℕ) → f₁ ≡ sets f at (bytes (long_words (t % 4294967296))) → f₂ ≡ sets f₁ (at + 4) (bytes ((t / 4294967296 % 65536) ∷ []))
    → f₃ ≡ sets f₂ (at + 6) (bytes (d ∷ [])) → f₃ ≡ sets f at (bytes (stamp_words (t ∷ d ∷ [])))
unfolding bytes
time_stored f f₁ f₂ f₃ at t d e₁ e₂ e₃ =
    let s₁ : f₁ ≡ sets f at (bytes ((t % 65536) ∷ (t / 65536 % 65536) ∷ [])) = e₁ ∙ rw (low_long t, high_long t) in
    let s₂ = sets_next f f₁ f₂ at (at + 4) (bytes ((t % 65536) ∷ (t / 65536 % 65536) ∷ [])) (bytes ((t / 4294967296 % 65536) ∷ [])) refl s₁ e₂ in
    sets_next f f₂ f₃ at (at + 6) (bytes ((t % 65536) ∷ (t / 65536 % 65536) ∷ (t / 4294967296 % 65536) ∷ [])) (bytes (d ∷ [])) refl s₂ e₃

-- past the end nothing is stored
pub entry_out : (f : List ℕ) (at : ℕ) (e : Entry) → length f ≤ at → f ≡ sets f at (entry_bytes version_two e)
entry_out f at e h = sym (sets_out (entry_bytes version_two e) f at h)

-- each field at its own word
pub entry_stored : (f f₁ f₂ f₃ f₄ f₅ f₆ f₇ : List ℕ) (at : ℕ) (e : Entry)
    → f₁ ≡ sets f (at + 2 * 0) (bytes (e.word ∷ [])) → f₂ ≡ sets f₁ (at + 2 * 1) (bytes (e.kind ∷ []))
    → f₃ ≡ sets f₂ (at + 2 * 2) (bytes (long_words e.old)) → f₄ ≡ sets f₃ (at + 2 * 4) (bytes (long_words e.new))
    → f₅ ≡ sets f₄ (at + 2 * 6) (bytes (e.operator ∷ [])) → f₆ ≡ sets f₅ (at + 2 * 7) (bytes (e.reason ∷ []))
    → f₇ ≡ sets f₆ (at + 2 * 8) (bytes (stamp_words e.extra))
    → f₇ ≡ sets f at (entry_bytes version_two e)
unfolding entry_bytes version_two bytes
entry_stored f f₁ f₂ f₃ f₄ f₅ f₆ f₇ at e e₁ e₂ e₃ e₄ e₅ e₆ e₇ =
    let z : at + 2 * 0 ≡ at = omega arith in
    let s₁ : f₁ ≡ sets f at (bytes (e.word ∷ [])) = e₁ ∙ ap (λ (i : ℕ). sets f i (bytes (e.word ∷ []))) z in
    let s₂ = sets_next f f₁ f₂ at (at + 2 * 1) (bytes (e.word ∷ [])) (bytes (e.kind ∷ [])) refl s₁ e₂ in
    let s₃ = sets_next f f₂ f₃ at (at + 2 * 2) (bytes (e.word ∷ e.kind ∷ [])) (bytes (long_words e.old)) refl s₂ e₃ in
    let s₄ = sets_next f f₃ f₄ at (at + 2 * 4) (bytes (e.word ∷ e.kind ∷ long_words e.old)) (bytes (long_words e.new)) refl s₃ e₄ in
    let s₅ = sets_next f f₄ f₅ at (at + 2 * 6) (bytes (e.word ∷ e.kind ∷ (long_words e.old ++ long_words e.new))) (bytes (e.operator ∷ [])) refl s₄ e₅ in
    let s₆ = sets_next f f₅ f₆ at (at + 2 * 7) (bytes (e.word ∷ e.kind ∷ (long_words e.old ++ long_words e.new ++ (e.operator ∷ [])))) (bytes (e.reason ∷ [])) refl s₅ e₆ in
    sets_next f f₆ f₇ at (at + 2 * 8) (bytes (e.word ∷ e.kind ∷ (long_words e.old ++ long_words e.new ++ (e.operator ∷ e.reason ∷ [])))) (bytes (stamp_words e.extra)) refl s₆ e₇
