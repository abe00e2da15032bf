-- A frame's first five rules, and its words: the start word, the front, the last word.
-- Assumes nothing.
use Prim.Native.Nat.{ℕ, suc, ◌+◌, ◌/◌, ◌%◌, ◌<◌, ◌≤◌}
use mathlib.Core.Path.{◌≡◌, refl, sym, ap, ◌∙◌}
use mathlib.Core.List.{List, [], ◌∷◌, ◌++◌}
use mathlib.Core.Bool.{Bool, true, false, ◌&&◌}
use native.Mathlib.Omega.{arith}
use lib.Dec.{leb, eqb, lit<}
use lib.ListN.{length, get_or, take, drop}
use lib.Seq.{take-suc, take_all, get_or-take, length-take-le}
use borrow.Author.Tests.{leb-true, eqb-true, le-leb, eq-eqb}
use Rattle.format.specs.Words.{pick, Bytes, words, word_at}
use Rattle.format.specs.Book.{Class, channel, histogram, hit_count, sample, bin, last_cell, time_bin, data_frame, monitor_frame, command_frame, text, start_event, continue_event, end_event, frame_end, unassigned, class_of}
use Rattle.format.specs.Rules.{Kind, data_kind, monitor_kind, command_kind}
use Rattle.format.specs.Frames.{start_word, is_start, kind_of, start_fits, last_of, head_fault, front}
use Rattle.format.proofs.book.PrefixLaws.{and_left, and_right}
use Rattle.format.proofs.book.BookLaws.{ranged, in_range}
use Rattle.format.proofs.items.WordLaws.{length_words, word_at_lem, words_below, below_take}

-- what the first five rules say
pub record Head (s : List ℕ) : Type 0 where
  pub even : length s % 2 ≡ 0
  pub least : 8 ≤ length s
  pub most : length s ≤ 8192
  pub started : start_fits (word_at s 0) ≡ true
  pub sized : word_at s 1 ≡ length s
  pub sequence : word_at s 2 ≤ 0x0100
  pub ended : word_at s (last_of s) ≡ 0x000F

kept : (b : Bool) (x n : ℕ) → pick b x (suc n) ≡ 0 → (b ≡ true) × (x ≡ 0)
kept true x n e = (refl, e)
kept false x n e = absurd (omega arith)

pub head_of : (s : List ℕ) → head_fault s ≡ 0 → Head s
unfolding head_fault
head_of s e =
    let (t₁, e₁) = kept _ _ 0 e in
    let (t₂, e₂) = kept _ _ 1 e₁ in
    let (t₃, e₃) = kept _ _ 2 e₂ in
    let (t₄, e₄) = kept _ _ 3 e₃ in
    let (t₅, e₅) = kept _ _ 4 e₄ in
    let n : ℕ = length s in
    let u = and_left (eqb (n % 2) 0 && leb 8 n) (leb n 8192) t₁ in
    record {
      even = eqb-true _ _ (and_left (eqb (n % 2) 0) (leb 8 n) u);
      least = leb-true _ _ (and_right (eqb (n % 2) 0) (leb 8 n) u);
      most = leb-true _ _ (and_right (eqb (n % 2) 0 && leb 8 n) (leb n 8192) t₁);
      started = t₂;
      sized = eqb-true _ _ t₃;
      sequence = leb-true _ _ t₄;
      ended = eqb-true _ _ t₅;
    }

pub head_zero : (s : List ℕ) → Head s → head_fault s ≡ 0
unfolding head_fault
head_zero s h =
    rw (
      eq-eqb (length s % 2) 0 h.even,
      le-leb 8 (length s) h.least,
      le-leb (length s) 8192 h.most,
      h.started,
      eq-eqb (word_at s 1) (length s) h.sized,
      le-leb (word_at s 2) 0x0100 h.sequence,
      eq-eqb (word_at s (last_of s)) 0x000F h.ended,
    )

-- ---- the start word

no_start : {A : Type 0} → false ≡ true → A
no_start e = let z : ◌≡◌ {A = ℕ} 0 1 = cc in absurd (omega arith)

start_of : (c : Class) (w : ℕ) → class_of w ≡ c → is_start c ≡ true → w / 32 % 16 ≡ 0 → w ≡ start_word (kind_of c) (w % 32)
start_of data_frame w k t v = let (p, q) = ranged w data_frame k refl in omega arith
start_of monitor_frame w k t v = let (p, q) = ranged w monitor_frame k refl in omega arith
start_of command_frame w k t v = let (p, q) = ranged w command_frame k refl in omega arith
start_of channel w k t v = no_start t
start_of histogram w k t v = no_start t
start_of hit_count w k t v = no_start t
start_of sample w k t v = no_start t
start_of bin w k t v = no_start t
start_of last_cell w k t v = no_start t
start_of time_bin w k t v = no_start t
start_of text w k t v = no_start t
start_of start_event w k t v = no_start t
start_of continue_event w k t v = no_start t
start_of end_event w k t v = no_start t
start_of frame_end w k t v = no_start t
start_of unassigned w k t v = no_start t

-- a word that may start a frame is the start word of its kind and card
pub start_word_lem : (w : ℕ) → start_fits w ≡ true → w ≡ start_word (kind_of (class_of w)) (w % 32)
start_word_lem w e =
    start_of (class_of w) w refl (and_left (is_start (class_of w)) (eqb (w / 32 % 16) 0) e)
    (eqb-true _ _ (and_right (is_start (class_of w)) (eqb (w / 32 % 16) 0) e))

-- and the start word of a kind and a card may
pub record Starts (kind : Kind) (card w : ℕ) : Type 0 where
  pub fits : start_fits w ≡ true
  pub kind_is : kind_of (class_of w) ≡ kind
  pub card_is : w % 32 ≡ card

pub starts : (kind : Kind) (card : ℕ) → card ≤ 31 → Starts kind card (start_word kind card)
starts data_kind card h =
    let c : class_of (0x0800 + card) ≡ data_frame = in_range _ 7 (lit< tt) (omega arith, omega arith) in
    let v : (0x0800 + card) / 32 % 16 ≡ 0 = omega arith in
    record { fits = rw (c, v); kind_is = rw c; card_is = omega arith }
starts monitor_kind card h =
    let c : class_of (0x0600 + card) ≡ monitor_frame = in_range _ 8 (lit< tt) (omega arith, omega arith) in
    let v : (0x0600 + card) / 32 % 16 ≡ 0 = omega arith in
    record { fits = rw (c, v); kind_is = rw c; card_is = omega arith }
starts command_kind card h =
    let c : class_of (0x0400 + card) ≡ command_frame = in_range _ 9 (lit< tt) (omega arith, omega arith) in
    let v : (0x0400 + card) / 32 % 16 ≡ 0 = omega arith in
    record { fits = rw (c, v); kind_is = rw c; card_is = omega arith }

-- ---- the front and the last word

-- a word before the last one, read from the bytes
pub front_word : (s : List ℕ) (i : ℕ) → i < last_of s → get_or (front s) i 0 ≡ word_at s i
unfolding front
front_word s i h = get_or-take (last_of s) (words s) i 0 h ∙ word_at_lem s i

pub length_front : (s : List ℕ) → length (front s) ≡ last_of s
unfolding front
length_front s = length-take-le (last_of s) (words s) (omega (arith, length_words s))

-- the words are those before the last, and the last
pub front_last : (s : List ℕ) → length s % 2 ≡ 0 → 2 ≤ length s → words s ≡ front s ++ (word_at s (last_of s) ∷ [])
unfolding front
front_last s v h =
    let n : ℕ = last_of s in
    let e = length_words s in
    sym (take_all (suc n) (words s) (omega arith)) ∙ take-suc (words s) n 0 (omega arith)
    ∙ ap (λ (w : ℕ). take n (words s) ++ (w ∷ [])) (word_at_lem s n)

pub front_below : (s : List ℕ) → Bytes s → (i : ℕ) → get_or (front s) i 0 < 65536
unfolding front
front_below s h = below_take (last_of s) (words s) 65536 (omega arith) (words_below s h)

pub three_first : (l : List ℕ) → 3 ≤ length l → l ≡ get_or l 0 0 ∷ get_or l 1 0 ∷ get_or l 2 0 ∷ drop 3 l
three_first [] h = absurd (omega arith)
three_first (a ∷ []) h = absurd (omega arith)
three_first (a ∷ b ∷ []) h = absurd (omega arith)
three_first (a ∷ b ∷ c ∷ l) h = refl
