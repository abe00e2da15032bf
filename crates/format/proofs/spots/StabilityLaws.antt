-- T25, of proofs/front/Stability.antt: what a legal value put in a Sample or Bin of an accepted frame leaves, from the laws of PutLaws and SpotLaws.
-- Assumes nothing.
use Prim.Native.Nat.{ℕ, zero, suc, ◌+◌, ◌*◌, ◌<◌, ◌≤◌}
use mathlib.Core.Path.{◌≡◌, refl, sym, ap, subst, ◌∙◌}
use mathlib.Core.Logic.{◌↔◌, ◌⊎◌, inl, inr}
use mathlib.Core.List.{List, [], ◌∷◌, ◌++◌}
use mathlib.Core.Bool.{Bool, true, false, ◌&&◌}
use mathlib.Core.Option.{Option, none, some}
use native.Mathlib.Omega.{arith}
use lib.Dec.{leb, ltb, eqb}
use lib.ListN.{length, get_or, length-append}
use lib.Seq.{sets, length-sets}
use borrow.Author.Tests.{eqb-true, leb-true, ltb-true, le-leb, lt-ltb}
use Rattle.format.specs.Words.{pick, Bytes, bytes, long_words}
use Rattle.format.specs.Answers.{accepted}
use Rattle.format.specs.Items.{Item}
use Rattle.format.specs.Frames.{Frame, all_words, encode, verdict}
use Rattle.format.specs.Stands.{index_of}
use Rattle.format.specs.Spots.{no_header, Spot, spot, value_word, value_words, put_for, put, legal_value, revalued, with_value, SpotIs, with_items}
use Rattle.format.proofs.book.PrefixLaws.{and_left, and_right, and_both}
use Rattle.format.proofs.items.WordLaws.{bytes_below}
use Rattle.format.proofs.questions.ItemQuestions.{all_words_lem}
use Rattle.format.proofs.spots.SpotLaws.{valued, replaced_elsewhere, replaced_apart, replaced_again, replaced_words}
use Rattle.format.proofs.items.StoringLaws.{sets_outside, sets_bytes}
use Rattle.format.proofs.spots.PutLaws.{length_encode, changed, split, standing_legal, stands, spot_in_lem, spot_is, put_stores, put_encode, put_changed}
use Rattle.format.proofs.verdict.Acceptance.{sound}

-- ---- legal values, in document 01's words

pub legal_sample : (v : ℕ) → (legal_value 1 v ≡ true) ↔ (v ≤ 4095)
unfolding legal_value
legal_sample v = (leb-true v 4095, le-leb v 4095)

pub legal_bin : (v : ℕ) → (legal_value 2 v ≡ true) ↔ ((1 ≤ v) × (v < 4294967296))
unfolding legal_value
legal_bin v = (
  λ e. (leb-true 1 v (and_left (leb 1 v) (ltb v 4294967296) e), ltb-true v 4294967296 (and_right (leb 1 v) (ltb v 4294967296) e)),
  λ h. and_both _ _ (le-leb 1 v h.0) (lt-ltb v 4294967296 h.1),
)

-- no other kind has one
pub legal_kind : (k v : ℕ) → legal_value k v ≡ true → (k ≡ 1) ⊎ (k ≡ 2)
unfolding legal_value
legal_kind k v e = go (eqb k 1) refl e
  where
    go : (b : Bool) → eqb k 1 ≡ b → pick b (leb v 4095) (eqb k 2 && leb 1 v && ltb v 4294967296) ≡ true → (k ≡ 1) ⊎ (k ≡ 2)
    go true q h = inl (eqb-true k 1 q)
    go false q h = inr (eqb-true k 2 (and_left (eqb k 2) (leb 1 v) (and_left (eqb k 2 && leb 1 v) (ltb v 4294967296) h)))

-- what holds of a legal value holds of every sample up to 4,095 and every count of 1 and more
by_kind : (A : ℕ → Type 0) (k v : ℕ) → legal_value k v ≡ true → (v ≤ 4095 → A 1) → (1 ≤ v → v < 4294967296 → A 2) → A k
by_kind A k v e f g = go (legal_kind k v e)
  where
    go : (k ≡ 1) ⊎ (k ≡ 2) → A k
    go (inl q) = subst A (sym q) (f ((legal_sample v).0 (ap (λ (i : ℕ). legal_value i v) (sym q) ∙ e)))
    go (inr q) = let h = (legal_bin v).0 (ap (λ (i : ℕ). legal_value i v) (sym q) ∙ e) in subst A (sym q) (g h.0 h.1)

pub value_small : (k v : ℕ) → legal_value k v ≡ true → v < 4294967296
value_small k v e = by_kind (λ k. v < 4294967296) k v e (λ h. omega arith) (λ h i. i)

words_small : (k v : ℕ) → legal_value k v ≡ true → (i : ℕ) → get_or (value_words k v) i 0 < 65536
words_small k v e = by_kind (λ k. (i : ℕ) → get_or (value_words k v) i 0 < 65536) k v e sample_words bin_words
  where
    sample_words : v ≤ 4095 → (i : ℕ) → get_or ((0x3000 + v) ∷ []) i 0 < 65536
    sample_words h zero = omega arith
    sample_words h (suc i) = omega arith

    bin_words : 1 ≤ v → v < 4294967296 → (i : ℕ) → get_or (long_words v) i 0 < 65536
    bin_words h l zero = omega arith
    bin_words h l (suc zero) = omega arith
    bin_words h l (suc (suc i)) = omega arith

-- ---- the bytes of a put: bytes outside the value's own are as they were, and so is the length
pub put_length : (s : List ℕ) (w v : ℕ) → length (put s w v) ≡ length s
unfolding put
put_length s w v = go (spot s w)
  where
    go : (o : Option Spot) → length (put_for o s w v) ≡ length s
    go none = refl
    go (some p) = length-sets s (2 * value_word p.kind w) (bytes (value_words p.kind v))

module _ (s : List ℕ) (w : ℕ) (p : Spot) (e : spot s w ≡ some p) (v : ℕ) where
  -- a Sample's are those of its word
  pub put_sample : p.kind ≡ 1 → (j : ℕ) → (2 * w ≤ j → j < 2 * w + 2 → ⊥) → get_or (put s w v) j 0 ≡ get_or s j 0
  unfolding bytes
  put_sample k j n =
      ap (λ (l : List ℕ). get_or l j 0) (put_stores s w v p e ∙ ap (λ (i : ℕ). sets s (2 * value_word i w) (bytes (value_words i v))) k)
      ∙ sets_outside (bytes (value_words 1 v)) s (2 * w) j n

  -- a Bin's are those of the two words after its first
  pub put_bin : p.kind ≡ 2 → (j : ℕ) → (2 * w + 2 ≤ j → j < 2 * w + 6 → ⊥) → get_or (put s w v) j 0 ≡ get_or s j 0
  unfolding bytes
  put_bin k j n =
      ap (λ (l : List ℕ). get_or l j 0) (put_stores s w v p e ∙ ap (λ (i : ℕ). sets s (2 * value_word i w) (bytes (value_words i v))) k)
      ∙ sets_outside (bytes (value_words 2 v)) s (2 * (w + 1)) j (λ a b. n (omega arith) (omega arith))

-- ---- the frame

module _ (s : List ℕ) (y : Bytes s) (w : ℕ) (p : Spot) (e : spot s w ≡ some p) where
  -- the value that stands is legal, and the index below 4,096
  pub standing : legal_value p.kind p.value ≡ true
  standing = let h = stands s w p e in standing_legal h.frame w p h.is (sound s y h.frame h.accepted).0

  pub index_small : w < 4096
  index_small =
      let h = stands s w p e in
      let f : Frame = h.frame in
      let is = h.is in
      let (l, q) = sound s y f h.accepted in
      let short = l.short in
      let index = is.index in
      let n = length_encode f in
      let m : length (all_words f.items) ≡ length (all_words is.before ++ all_words (is.item ∷ is.after)) =
      ap (λ (xs : List Item). length (all_words xs)) is.items ∙ ap length (all_words_lem is.before (is.item ∷ is.after)) in
      omega (arith, length-append (all_words is.before) (all_words (is.item ∷ is.after)))

  -- putting the present value changes no byte
  pub put_back : put s w p.value ≡ s
  put_back =
      let h = stands s w p e in
      let f : Frame = h.frame in
      put_encode s y f h.accepted w p e p.value
      ∙ ap (λ (xs : List Item). encode (with_items f xs)) (split f w p h.is p.value ∙ ap (λ (x : Item). h.is.before ++ (x ∷ h.is.after)) (valued _ h.is.item p h.is.spot).own ∙ sym h.is.items)
      ∙ sym (sound s y f h.accepted).1

  module _ (v : ℕ) (l : legal_value p.kind v ≡ true) where
    pub put_bytes : Bytes (put s w v)
    put_bytes = subst Bytes (sym (put_stores s w v p e)) (sets_bytes (bytes (value_words p.kind v)) s (2 * value_word p.kind w) y (bytes_below (value_words p.kind v) (words_small p.kind v l)))

    -- the frame is accepted: same kind, card and sequence word, and the same items but for that one's value
    pub put_accepted : (f : Frame) → verdict s ≡ accepted f → (is : SpotIs f.items w p)
        → verdict (put s w v) ≡ accepted (with_items f (is.before ++ (with_value is.item v ∷ is.after)))
    put_accepted f a is = put_changed s y f a w p e v l ∙ ap (λ (xs : List Item). accepted (with_items f xs)) (split f w p is v)

    -- each begins at the word where it began
    pub put_indexes : (f : Frame) → verdict s ≡ accepted f → (is : SpotIs f.items w p) (n : ℕ)
        → index_of (is.before ++ (with_value is.item v ∷ is.after)) n ≡ index_of f.items n
    put_indexes f a is n = ap (λ (xs : List Item). index_of xs n) (sym (split f w p is v)) ∙ ap (λ (k : ℕ). 3 + k) (replaced_words n 3 f.items w v)

    -- the value stands there, and every other spot is as it was: kind, value and key
    pub put_there : spot (put s w v) w ≡ some (revalued p v)
    put_there =
        let h = stands s w p e in
        let is = h.is in
        (spot_is (put s w v) (with_items h.frame (is.before ++ (with_value is.item v ∷ is.after))) w (revalued p v) (put_accepted h.frame h.accepted is)).1
        (record { before = is.before; item = with_value is.item v; after = is.after; items = refl; index = is.index; spot = (valued _ is.item p is.spot).other v })

    pub put_elsewhere : (u : ℕ) → (u ≡ w → ⊥) → spot (put s w v) u ≡ spot s u
    put_elsewhere u n =
        let h = stands s w p e in
        let f : Frame = h.frame in
        spot_in_lem (put s w v) (changed f w v) u (put_changed s y f h.accepted w p e v l)
        ∙ replaced_elsewhere no_header 3 f.items w v u n
        ∙ sym (spot_in_lem s f u h.accepted)

    -- of two puts in one item the later decides, and the first value put back gives the first bytes
    pub put_again : (x : ℕ) → put (put s w v) w x ≡ put s w x
    put_again x =
        let h = stands s w p e in
        let f : Frame = h.frame in
        put_encode (put s w v) put_bytes (changed f w v) (put_changed s y f h.accepted w p e v l) w (revalued p v) put_there x
        ∙ ap (λ (xs : List Item). encode (with_items f xs)) (replaced_again 3 f.items w v x)
        ∙ sym (put_encode s y f h.accepted w p e x)

    pub put_undone : put (put s w v) w p.value ≡ s
    put_undone = put_again p.value ∙ put_back

-- puts in two items may change places
pub put_apart : (s : List ℕ) → Bytes s → (w : ℕ) (p : Spot) → spot s w ≡ some p → (v : ℕ) → legal_value p.kind v ≡ true
    → (u : ℕ) (q : Spot) → spot s u ≡ some q → (x : ℕ) → legal_value q.kind x ≡ true → (u ≡ w → ⊥)
    → put (put s w v) u x ≡ put (put s u x) w v
put_apart s y w p e v l u q d x k n =
    let h = stands s w p e in
    let f : Frame = h.frame in
    let a = h.accepted in
    put_encode (put s w v) (put_bytes s y w p e v l) (changed f w v) (put_changed s y f a w p e v l) u q (put_elsewhere s y w p e v l u n ∙ d) x
    ∙ ap (λ (xs : List Item). encode (with_items f xs)) (replaced_apart 3 f.items w v u x n)
    ∙ sym (put_encode (put s u x) (put_bytes s y u q d x k) (changed f u x) (put_changed s y f a u q d x k) w p (put_elsewhere s y u q d x k w (λ c. n (sym c)) ∙ e) v)
