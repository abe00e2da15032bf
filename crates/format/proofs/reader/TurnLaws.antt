-- What stands at a word, by its class, for a reader that makes the tests in order.
-- Assumes nothing.
use Prim.Native.Nat.{ℕ, ◌+◌, ◌-◌, ◌*◌, ◌%◌, ◌<◌, ◌≤◌}
use mathlib.Core.Path.{◌≡◌, refl, sym, ap, ap₂, ◌∙◌}
use mathlib.Core.List.{List, []}
use mathlib.Core.Bool.{true, false}
use native.Mathlib.Nat.{add-zero, add_assoc}
use native.Mathlib.Omega.{arith}
use lib.ListN.{length, get_or, take, drop}
use lib.Seq.{get_or-drop, get_or-take}
use borrow.Author.Tests.{le-leb, lt-leb, eq-eqb, ne_eqb}
use Rattle.format.specs.Words.{words, bytes, word_at, long_at, time_at, long_of, time_of}
use Rattle.format.specs.Book.{Class, bin, text, start_event, continue_event, end_event, unassigned, class_of, after, assigned, text_words}
use Rattle.format.specs.Items.{Bin, Text, StartEvent, ContinueEvent, EndEvent, closed, decode, Token, whole, broken, flawed, token_for, token_of}
use Rattle.format.specs.Rules.{bad}
use Rattle.format.specs.Steps.{ReaderState, check_by, token_at, next_at, stopped, marked, step_of}
use Rattle.format.proofs.items.WordLaws.{word_at_lem}
use Rattle.format.proofs.reader.StepLaws.{left_after}

-- a token at a word, and the index of the next
pub record Stands (s : List ℕ) (last at : ℕ) (t : Token) (next : ℕ) : Type 0 where
  pub token : token_at s last at ≡ t
  pub follow : next_at s at ≡ next

-- what a turn makes of it
pub step_at : (card : ℕ) (s : List ℕ) (last at : ℕ) (st : ReaderState) (t : Token) (next : ℕ) → Stands s last at t next
    → marked next (check_by card at st t) ≡ step_of card s last at st
unfolding step_of
step_at card s last at st t next w = rw (w.token, w.follow)

pub stop_at : (card : ℕ) (s : List ℕ) (last at : ℕ) (st : ReaderState) (t : Token) (k : ℕ) → token_at s last at ≡ t → check_by card at st t ≡ bad k
    → stopped k ≡ step_of card s last at st
unfolding step_of
stop_at card s last at st t k e f = rw (e, f)

module _ (s : List ℕ) (last at : ℕ) where
  -- the words after a word of the class c
  module _ (c : Class) (k : c ≡ class_of (word_at s at)) (a : assigned c ≡ true) where
    reads : after c (word_at s at) ≤ length (drop (at + 1) (take last (words s)))
        → token_at s last at ≡ token_for c (decode c (word_at s at) (take (after c (word_at s at)) (drop (at + 1) (take last (words s)))))
    unfolding token_at token_of
    reads h = rw (← k, a, le-leb (after c (word_at s at)) (length (drop (at + 1) (take last (words s)))) h)

    follows : next_at s at ≡ at + 1 + after c (word_at s at)
    unfolding next_at
    follows = rw (← k)

    pub cut : length (drop (at + 1) (take last (words s))) < after c (word_at s at) → token_at s last at ≡ flawed 7
    unfolding token_at token_of
    cut h = rw (← k, a, lt-leb (after c (word_at s at)) (length (drop (at + 1) (take last (words s)))) h)

  -- a class with no words after it
  pub alone : (c : Class) (t : Token) → c ≡ class_of (word_at s at) → assigned c ≡ true → after c (word_at s at) ≡ 0
      → token_for c (decode c (word_at s at) []) ≡ t → Stands s last at t (at + 1)
  alone c t k a z d = record {
    token = reads c k a (omega arith) ∙ ap (λ (n : ℕ). token_for c (decode c (word_at s at) (take n (drop (at + 1) (take last (words s)))))) z ∙ d;
    follow = follows c k a ∙ ap (λ (n : ℕ). at + 1 + n) z ∙ add-zero (at + 1);
  }

  pub no_class : unassigned ≡ class_of (word_at s at) → token_at s last at ≡ flawed 6
  unfolding token_at token_of
  no_class k = rw (← k)

  -- a class with words after it, which are there
  module _ (room : 2 * last ≤ length s + 1) where
    word_after : (n i : ℕ) → i < n → at + 1 + n ≤ last → get_or (take n (drop (at + 1) (take last (words s)))) i 0 ≡ word_at s (at + 1 + i)
    word_after n i h l =
        get_or-take n (drop (at + 1) (take last (words s))) i 0 h ∙ get_or-drop (at + 1) (take last (words s)) i 0
        ∙ get_or-take last (words s) (at + 1 + i) 0 (omega arith) ∙ word_at_lem s (at + 1 + i)

    pub there : (c : Class) (t : Token) (n : ℕ) → c ≡ class_of (word_at s at) → assigned c ≡ true → after c (word_at s at) ≡ n → at + 1 + n ≤ last
        → token_for c (decode c (word_at s at) (take n (drop (at + 1) (take last (words s))))) ≡ t → Stands s last at t (at + 1 + n)
    there c t n k a z l d =
        let m = left_after s last room at in
        record {
          token = reads c k a (omega arith) ∙ ap (λ (n : ℕ). token_for c (decode c (word_at s at) (take n (drop (at + 1) (take last (words s)))))) z ∙ d;
          follow = follows c k a ∙ ap (λ (n : ℕ). at + 1 + n) z;
        }

    pub not_there : (c : Class) (n : ℕ) → c ≡ class_of (word_at s at) → assigned c ≡ true → after c (word_at s at) ≡ n → at < last → last < at + 1 + n
        → token_at s last at ≡ flawed 7
    not_there c n k a z h l = let m = left_after s last room at in cut c k a (omega arith)

    pub long_after : (n : ℕ) → 2 ≤ n → at + 1 + n ≤ last → long_of (take n (drop (at + 1) (take last (words s)))) ≡ long_at s (at + 1)
    long_after n h l =
        ap₂ (λ (x y : ℕ). x + 65536 * y) (word_after n 0 (omega arith) l ∙ ap (λ (i : ℕ). word_at s i) (add-zero (at + 1))) (word_after n 1 (omega arith) l)

    pub bin_there : (n : ℕ) → bin ≡ class_of (word_at s at) → at + 3 ≤ last → n ≡ long_at s (at + 1)
        → Stands s last at (whole (Bin (word_at s at % 4096) n)) (at + 3)
    unfolding decode
    bin_there n k l e =
        let w = there bin (whole (Bin (word_at s at % 4096) n)) 2 k refl refl (omega arith) (ap (λ (m : ℕ). whole (Bin (word_at s at % 4096) m)) (long_after 2 (omega arith) (omega arith) ∙ sym e)) in
        record { token = w.token; follow = w.follow ∙ add_assoc at 1 2 }

    pub start_there : (ts n : ℕ) → start_event ≡ class_of (word_at s at) → at + 6 ≤ last → ts ≡ time_at s (at + 1) → n ≡ long_at s (at + 4)
        → Stands s last at (whole (StartEvent (word_at s at % 16) ts n)) (at + 6)
    unfolding decode
    start_there ts n k l e f =
        let ws = drop (at + 1) (take last (words s)) in
        let a : time_of (take 5 ws) ≡ ts = ap₂ (λ (x y : ℕ). x + 4294967296 * y) (long_after 5 (omega arith) (omega arith)) (word_after 5 2 (omega arith) (omega arith)) ∙ sym e in
        let b : long_of (drop 3 (take 5 ws)) ≡ n =
        ap₂ (λ (x y : ℕ). x + 65536 * y)
        (get_or-drop 3 (take 5 ws) 0 0 ∙ word_after 5 3 (omega arith) (omega arith) ∙ ap (λ (i : ℕ). word_at s i) (add_assoc at 1 3))
        (get_or-drop 3 (take 5 ws) 1 0 ∙ word_after 5 4 (omega arith) (omega arith) ∙ ap (λ (i : ℕ). word_at s i) (omega arith)) ∙ sym f in
        let w = there start_event (whole (StartEvent (word_at s at % 16) ts n)) 5 k refl refl (omega arith) (ap₂ (λ (x y : ℕ). whole (StartEvent (word_at s at % 16) x y)) a b) in
        record { token = w.token; follow = w.follow ∙ add_assoc at 1 5 }

    pub continue_there : (n : ℕ) → continue_event ≡ class_of (word_at s at) → at + 3 ≤ last → word_at s at % 512 ≡ 0 → n ≡ long_at s (at + 1)
        → Stands s last at (whole (ContinueEvent n)) (at + 3)
    unfolding decode
    continue_there n k l z e =
        let w = there continue_event (whole (ContinueEvent n)) 2 k refl refl (omega arith) (rw (eq-eqb (word_at s at % 512) 0 z) (ap (λ (m : ℕ). whole (ContinueEvent m)) (long_after 2 (omega arith) (omega arith) ∙ sym e))) in
        record { token = w.token; follow = w.follow ∙ add_assoc at 1 2 }

    pub continue_broken : continue_event ≡ class_of (word_at s at) → at + 3 ≤ last → (word_at s at % 512 ≡ 0 → ⊥) → Stands s last at (broken continue_event) (at + 3)
    unfolding decode
    continue_broken k l z =
        let w = there continue_event (broken continue_event) 2 k refl refl (omega arith) (rw (ne_eqb (word_at s at % 512) 0 z)) in
        record { token = w.token; follow = w.follow ∙ add_assoc at 1 2 }

    pub end_there : (n : ℕ) → end_event ≡ class_of (word_at s at) → at + 3 ≤ last → word_at s at % 16 ≡ 0 → n ≡ long_at s (at + 1)
        → Stands s last at (whole (EndEvent n)) (at + 3)
    unfolding decode
    end_there n k l z e =
        let w = there end_event (whole (EndEvent n)) 2 k refl refl (omega arith) (rw (eq-eqb (word_at s at % 16) 0 z) (ap (λ (m : ℕ). whole (EndEvent m)) (long_after 2 (omega arith) (omega arith) ∙ sym e))) in
        record { token = w.token; follow = w.follow ∙ add_assoc at 1 2 }

    pub end_broken : end_event ≡ class_of (word_at s at) → at + 3 ≤ last → (word_at s at % 16 ≡ 0 → ⊥) → Stands s last at (broken end_event) (at + 3)
    unfolding decode
    end_broken k l z =
        let w = there end_event (broken end_event) 2 k refl refl (omega arith) (rw (ne_eqb (word_at s at % 16) 0 z)) in
        record { token = w.token; follow = w.follow ∙ add_assoc at 1 2 }

    -- a text's bytes stand right after its word
    pub text_there : text ≡ class_of (word_at s at) → at + 1 + text_words (word_at s at) ≤ last
        → closed (word_at s at % 256) (bytes (take (text_words (word_at s at)) (drop (at + 1) (take last (words s))))) ≡ true
        → Stands s last at (whole (Text (take (word_at s at % 256 - 1) (bytes (take (text_words (word_at s at)) (drop (at + 1) (take last (words s)))))))) (at + 1 + text_words (word_at s at))
    unfolding decode
    text_there k l e = there text _ (text_words (word_at s at)) k refl refl l (rw e)

    pub text_broken : text ≡ class_of (word_at s at) → at + 1 + text_words (word_at s at) ≤ last
        → closed (word_at s at % 256) (bytes (take (text_words (word_at s at)) (drop (at + 1) (take last (words s))))) ≡ false
        → Stands s last at (broken text) (at + 1 + text_words (word_at s at))
    unfolding decode
    text_broken k l e = there text (broken text) (text_words (word_at s at)) k refl refl l (rw e)
