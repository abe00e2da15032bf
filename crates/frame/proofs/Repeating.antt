-- Runs: each item of a run takes a turn, and the turns add up.
-- Assumes nothing.
use Prim.Native.Nat.{ℕ, suc, ◌+◌, ◌-◌, ◌*◌, ◌/◌, ◌%◌, ◌≤◌, ◌<◌}
use mathlib.Core.Path.{◌≡◌, refl, sym, ap, subst, ◌∙◌}
use mathlib.Core.List.{List}
use mathlib.Core.Bool.{true, ◌&&◌}
use native.Mathlib.Omega.{arith}
use lib.ListN.{length}
use lib.Dec.{eqb}
use borrow.Author.Tests.{le-leb, lt-ltb, eqb-true}
use Rattle.format.proofs.book.PrefixLaws.{and_left, and_right}
use Rattle.format.proofs.items.WordLaws.{word_below}
use Rattle.format.specs.Words.{Bytes, word_at, long_at}
use Rattle.format.specs.Items.{in_range, whole, Sample, Bin, HitCount}
use Rattle.format.specs.Rules.{ReaderMode, inside, after_sample, headed}
use Rattle.format.specs.Steps.{Marks, ReaderState, moved, marked, check_by, step_of}
use Rattle.format.proofs.book.RangeLaws.{bin_is, sample_is, hits_is}
use Rattle.book.specs.Fields.{hits_of, hits_item}
use Rattle.book.specs.declared.items.HitCount as hc
use Rattle.frame.specs.Repeats.{turns_of, Turns, Repeated}
use Rattle.frame.proofs.Steps.{sample_step, hit_step, bin_step}

-- whole Bins behind us, and before us
pub bin_past : (at i : ℕ) → at ≤ i → (i - at) % 3 ≡ 0 → (i + 3 - at) % 3 ≡ 0
bin_past at i h e = omega arith

pub bin_left : (i stop : ℕ) → i < stop → (stop - i) % 3 ≡ 0 → (i + 3 ≤ stop) × ((stop - (i + 3)) % 3 ≡ 0)
bin_left i stop h e = (omega arith, omega arith)

module _ (card : ℕ) (s : List ℕ) (last : ℕ) where
  -- one turn more
  more : (k at : ℕ) (st st₁ st₂ : ReaderState) (i j : ℕ) → turns_of card s last k at st ≡ moved st₁ i → i < last → moved st₂ j ≡ step_of card s last i st₁
      → turns_of card s last (suc k) at st ≡ moved st₂ j
  unfolding turns_of
  more k at st st₁ st₂ i j e h f = rw (e, lt-ltb i last h) (sym f)

  more_at : (k m at : ℕ) (st st₁ st₂ : ReaderState) (i j : ℕ) → m ≡ k + 1 → turns_of card s last k at st ≡ moved st₁ i → i < last → moved st₂ j ≡ step_of card s last i st₁
      → turns_of card s last m at st ≡ moved st₂ j
  more_at k m at st st₁ st₂ i j q e h f = subst (λ (m : ℕ). turns_of card s last m at st ≡ moved st₂ j) (let z : suc k ≡ m = omega arith in z) (more k at st st₁ st₂ i j e h f)

  none : (at : ℕ) (mode : ReaderMode) (key next : ℕ) (marks : Marks) → Turns card s last 0 mode key next marks at next at
  unfolding turns_of
  none at mode key next marks = refl

  -- no turn yet
  pub none_from : (at : ℕ) (mode : ReaderMode) (key next : ℕ) (marks : Marks) (k next' : ℕ) → k ≡ 0 → next' ≡ next → Turns card s last k mode key next marks at next' at
  none_from at mode key next marks k next' e f = rw (e, f) (none at mode key next marks)

  pub ran_none : (at : ℕ) (mode : ReaderMode) (key next : ℕ) (marks : Marks) (most : ℕ) → Repeated card s last at mode key next marks most at 0 next
  ran_none at mode key next marks most = record { turns = none at mode key next marks; few = omega arith; onwards = omega arith }

  module _ (at key : ℕ) (marks : Marks) where
    sample_turn : (next w v : ℕ) → next ≤ 511 → v ≤ 4095
        → moved (record { mode = after_sample; key = key; next = next + 1; marks = marks }) (w + 1)
        ≡ marked (w + 1) (check_by 0 0 (record { mode = after_sample; key = key; next = next; marks = marks }) (whole (Sample v)))
    unfolding check_by
    sample_turn next w v h b = rw (le-leb next 511 h, le-leb v 4095 b)

    -- a Sample more
    pub sample_more : (next n i w : ℕ) → at ≤ i → i < last → w ≡ word_at s i → 0x3000 ≤ w → w < 0x4000 → n ≤ 511 → n ≡ next + (i - at)
        → Turns card s last (i - at) after_sample key next marks at n i
        → Turns card s last (i + 1 - at) after_sample key next marks at (next + (i + 1 - at)) (i + 1)
    sample_more next n i w a l e p q h m t =
        more_at (i - at) (i + 1 - at) at _ _ _ i (i + 1) (omega arith) t l
        (ap (λ (n : ℕ). moved (record { mode = after_sample; key = key; next = n; marks = marks }) (i + 1)) (let z : next + (i + 1 - at) ≡ n + 1 = omega arith in z)
        ∙ sample_step card s last i w _ e _ (w % 4096) (sample_is w p q) refl (sample_turn n i (w % 4096) h (omega arith)))

    -- two Samples more, by the number that their words make
    pub pair_more : (next i x : ℕ) → at ≤ i → i + 2 ≤ last → x ≡ long_at s i → Bytes s → eqb (x / 4096 % 16) 3 && eqb (x / 268435456) 3 ≡ true → next + (i + 2 - at) ≤ 512
        → Turns card s last (i - at) after_sample key next marks at (next + (i - at)) i
        → Turns card s last (i + 2 - at) after_sample key next marks at (next + (i + 2 - at)) (i + 2)
    pair_more next i x h l e y g m t =
        let low : x / 4096 % 16 ≡ 3 = eqb-true _ _ (and_left (eqb (x / 4096 % 16) 3) (eqb (x / 268435456) 3) g) in
        let high : x / 268435456 ≡ 3 = eqb-true _ _ (and_right (eqb (x / 4096 % 16) 3) (eqb (x / 268435456) 3) g) in
        let p = word_below s y i in
        let q = word_below s y (i + 1) in
        let z : word_at s i + 65536 * word_at s (i + 1) ≡ x = sym e in
        let one = sample_more next (next + (i - at)) i (word_at s i) h (omega arith) refl (omega arith) (omega arith) (omega arith) refl t in
        let two = sample_more next (next + (i + 1 - at)) (i + 1) (word_at s (i + 1)) (omega arith) (omega arith) refl (omega arith) (omega arith) (omega arith) refl one in
        subst (λ (j : ℕ). Turns card s last (j - at) after_sample key next marks at (next + (j - at)) j) (let z : i + 1 + 1 ≡ i + 2 = omega arith in z) two

    hit_turn : (next w a b c : ℕ) → true ≡ in_range card (HitCount a b c)
        → moved (record { mode = inside; key = key; next = next; marks = marks }) (w + 1)
        ≡ marked (w + 1) (check_by card 0 (record { mode = inside; key = key; next = next; marks = marks }) (whole (HitCount a b c)))
    unfolding check_by
    hit_turn next w a b c h = rw (sym h)

    -- a Hit count more
    pub hit_more : (next i w : ℕ) (x : hc.HitCount) → at ≤ i → i < last → w ≡ word_at s i → 0x4000 ≤ w → w < 0x8000 → x ≡ hits_of w → true ≡ in_range card (hits_item x)
        → Turns card s last (i - at) inside key next marks at next i
        → Turns card s last (i + 1 - at) inside key next marks at next (i + 1)
    hit_more next i w x a l e p q f v t =
        more_at (i - at) (i + 1 - at) at _ _ _ i (i + 1) (omega arith) t l
        (hit_step card s last i w _ e _ x (hits_is w p q) f (hit_turn next i _ _ _ v))

    bin_turn : (next i b n : ℕ) → next ≤ b → b ≤ 4095 → 1 ≤ n → n < 4294967296
        → moved (record { mode = headed; key = key; next = b + 1; marks = marks }) (i + 3)
        ≡ marked (i + 3) (check_by 0 0 (record { mode = headed; key = key; next = next; marks = marks }) (whole (Bin b n)))
    unfolding check_by
    bin_turn next i b n h l k m = rw (le-leb next b h, le-leb b 4095 l, le-leb 1 n k, lt-ltb n 4294967296 m)

    -- a Bin more: its word is above `past`
    pub bin_more : 2 * last ≤ length s → (least past i w n : ℕ) → at ≤ i → (i - at) % 3 ≡ 0 → i + 3 ≤ last → w ≡ word_at s i → 8191 ≤ past → past < w → w < 0x3000
        → n ≡ long_at s (i + 1) → 1 ≤ n → n < 4294967296
        → Turns card s last ((i - at) / 3) headed key least marks at (past - 8191) i
        → Turns card s last ((i + 3 - at) / 3) headed key least marks at (w - 8191) (i + 3)
    bin_more room least past i w n a d l e p h q g k m t =
        more_at ((i - at) / 3) ((i + 3 - at) / 3) at _ _ _ i (i + 3) (omega arith) t (omega arith)
        (ap (λ (n : ℕ). moved (record { mode = headed; key = key; next = n; marks = marks }) (i + 3)) (let z : w - 8191 ≡ w % 4096 + 1 = omega arith in z)
        ∙ bin_step card s last i w _ e room _ (w % 4096) n (bin_is w (omega arith) q) l refl g (bin_turn (past - 8191) i (w % 4096) n (omega arith) (omega arith) k m))

    -- the word before the first one that a Bin may have tells its least number
    pub from_word : (k next next' at' : ℕ) → Turns card s last k headed key (8191 + next - 8191) marks at next' at' → Turns card s last k headed key next marks at next' at'
    from_word k next next' at' t = subst (λ (n : ℕ). Turns card s last k headed key n marks at next' at') (let z : 8191 + next - 8191 ≡ next = omega arith in z) t
