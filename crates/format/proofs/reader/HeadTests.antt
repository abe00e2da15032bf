-- The first five rules for a reader that tests them in order, and the start word by its high bits.
-- Assumes nothing.
use Prim.Native.Nat.{ℕ, ◌+◌, ◌/◌, ◌%◌, ◌<◌, ◌≤◌}
use mathlib.Core.Path.{◌≡◌, refl, sym, subst, ◌∙◌}
use mathlib.Core.List.{List}
use mathlib.Core.Bool.{Bool, true, false, ◌||◌, true≢false}
use native.Mathlib.Omega.{arith}
use lib.Dec.{leb, eqb}
use lib.ListN.{length}
use borrow.Author.Tests.{eqb-true, le-leb, lt-leb, eq-eqb, ne_eqb}
use Rattle.format.specs.Words.{pick, word_at}
use Rattle.format.specs.Book.{class_of}
use Rattle.format.specs.Rules.{Kind, data_kind, monitor_kind, command_kind}
use Rattle.format.specs.Frames.{start_word, kind_of, start_fits, last_of, head_fault}
use Rattle.format.proofs.verdict.HeadLaws.{head_of, start_word_lem, starts}

-- ---- the start word: its kind and version are its high eleven bits

abbrev pub start_high : ℕ → Bool
start_high w = eqb (w / 32) 0x40 || (eqb (w / 32) 0x30 || eqb (w / 32) 0x20)

one_of : (w k : ℕ) → k ≡ 0x40 → w / 32 ≡ k → start_high w ≡ true
one_of w k e f = rw (eq-eqb (w / 32) 0x40 (f ∙ e))

is_high : (kind : Kind) (card : ℕ) → card ≤ 31 → start_high (start_word kind card) ≡ true
is_high data_kind card h =
    let d : (0x0800 + card) / 32 ≡ 0x40 = omega arith in
    rw d
is_high monitor_kind card h =
    let d : (0x0600 + card) / 32 ≡ 0x30 = omega arith in
    rw d
is_high command_kind card h =
    let d : (0x0400 + card) / 32 ≡ 0x20 = omega arith in
    rw d

below_32 : (w : ℕ) → w % 32 ≤ 31
below_32 w = omega arith

-- one of the three
high_fits : (w : ℕ) (kind : Kind) → w ≡ start_word kind (w % 32) → start_fits w ≡ true
high_fits w kind e = subst (λ (v : ℕ). start_fits v ≡ true) (sym e) (starts kind (w % 32) (below_32 w)).fits

from_high : (w : ℕ) → start_high w ≡ true → start_fits w ≡ true
from_high w h = go (eqb (w / 32) 0x40) refl (eqb (w / 32) 0x30) refl
  where
    go : (a : Bool) → eqb (w / 32) 0x40 ≡ a → (b : Bool) → eqb (w / 32) 0x30 ≡ b → start_fits w ≡ true
    go true p b q = high_fits w data_kind (omega (arith, eqb-true (w / 32) 0x40 p))
    go false p true q = high_fits w monitor_kind (omega (arith, eqb-true (w / 32) 0x30 q))
    go false p false q =
        let r : eqb (w / 32) 0x20 ≡ true = rw (p, q) at h in
        high_fits w command_kind (omega (arith, eqb-true (w / 32) 0x20 r))

pub start_high_lem : (w : ℕ) → start_high w ≡ start_fits w
start_high_lem w = go (start_high w) refl (start_fits w) refl
  where
    go : (a : Bool) → start_high w ≡ a → (b : Bool) → start_fits w ≡ b → start_high w ≡ start_fits w
    go true p b q = p ∙ sym (from_high w p)
    go false p false q = p ∙ sym q
    go false p true q =
        absurd (true≢false (sym (subst (λ (v : ℕ). start_high v ≡ true) (sym (start_word_lem w q)) (is_high (kind_of (class_of w)) (w % 32) (below_32 w))) ∙ p))

-- the kind of a start word, by its high bits
kind_is : (w : ℕ) (kind : Kind) → w ≡ start_word kind (w % 32) → kind ≡ kind_of (class_of w)
kind_is w kind e = sym (subst (λ (v : ℕ). kind_of (class_of v) ≡ kind) (sym e) (starts kind (w % 32) (below_32 w)).kind_is)

pub kind_data : (w : ℕ) → w / 32 ≡ 0x40 → data_kind ≡ kind_of (class_of w)
kind_data w e = kind_is w data_kind (omega arith)

pub kind_monitor : (w : ℕ) → w / 32 ≡ 0x30 → monitor_kind ≡ kind_of (class_of w)
kind_monitor w e = kind_is w monitor_kind (omega arith)

pub kind_command : (w : ℕ) → start_fits w ≡ true → (w / 32 ≡ 0x40 → ⊥) → (w / 32 ≡ 0x30 → ⊥) → command_kind ≡ kind_of (class_of w)
kind_command w f a b =
    let h : start_high w ≡ true = start_high_lem w ∙ f in
    let r : eqb (w / 32) 0x20 ≡ true = rw (ne_eqb (w / 32) 0x40 a, ne_eqb (w / 32) 0x30 b) at h in
    kind_is w command_kind (omega (arith, eqb-true (w / 32) 0x20 r))

-- a frame whose first five rules hold has a start word
pub started : (s : List ℕ) → 0 ≡ head_fault s → (start_fits (word_at s 0) ≡ true) × (8 ≤ length s) × (length s ≤ 8192) × (length s % 2 ≡ 0)
started s e = let h = head_of s (sym e) in (h.started, h.least, h.most, h.even)

-- ---- the rules in their order

module _ (s : List ℕ) where
  pub odd : (length s % 2 ≡ 0 → ⊥) → 1 ≡ head_fault s
  unfolding head_fault
  odd h = rw (ne_eqb (length s % 2) 0 h)

  pub low : length s % 2 ≡ 0 → length s < 8 → 1 ≡ head_fault s
  unfolding head_fault
  low e h = rw (eq-eqb (length s % 2) 0 e, lt-leb 8 (length s) h)

  pub high : length s % 2 ≡ 0 → 8192 < length s → 1 ≡ head_fault s
  unfolding head_fault
  high e h = rw (eq-eqb (length s % 2) 0 e, le-leb 8 (length s) (omega arith), lt-leb (length s) 8192 h)

  module _ (e : length s % 2 ≡ 0) (l : 8 ≤ length s) (m : length s ≤ 8192) where
    pub start_wrong : start_fits (word_at s 0) ≡ false → 2 ≡ head_fault s
    unfolding head_fault
    start_wrong h = rw (eq-eqb (length s % 2) 0 e, le-leb 8 (length s) l, le-leb (length s) 8192 m, h)

    module _ (k : start_fits (word_at s 0) ≡ true) where
      size_stage : head_fault s ≡ pick (eqb (word_at s 1) (length s)) (pick (leb (word_at s 2) 0x0100) (pick (eqb (word_at s (last_of s)) 0x000F) 0 5) 4) 3
      unfolding head_fault
      size_stage = rw (eq-eqb (length s % 2) 0 e, le-leb 8 (length s) l, le-leb (length s) 8192 m, k)

      pub size_wrong : (word_at s 1 ≡ length s → ⊥) → 3 ≡ head_fault s
      size_wrong h = rw (size_stage, ne_eqb (word_at s 1) (length s) h)

      pub sequence_wrong : word_at s 1 ≡ length s → 0x0100 < word_at s 2 → 4 ≡ head_fault s
      sequence_wrong z h = rw (size_stage, eq-eqb (word_at s 1) (length s) z, lt-leb (word_at s 2) 0x0100 h)

      pub end_wrong : word_at s 1 ≡ length s → word_at s 2 ≤ 0x0100 → (word_at s (last_of s) ≡ 0x000F → ⊥) → 5 ≡ head_fault s
      end_wrong z q h = rw (size_stage, eq-eqb (word_at s 1) (length s) z, le-leb (word_at s 2) 0x0100 q, ne_eqb (word_at s (last_of s)) 0x000F h)

      pub head_right : word_at s 1 ≡ length s → word_at s 2 ≤ 0x0100 → word_at s (last_of s) ≡ 0x000F → 0 ≡ head_fault s
      head_right z q h = rw (size_stage, eq-eqb (word_at s 1) (length s) z, le-leb (word_at s 2) 0x0100 q, eq-eqb (word_at s (last_of s)) 0x000F h)
