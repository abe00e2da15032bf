-- T35. The numbers and places of a partial frame's refusals, the numbers that each call of the writer can refuse by, and 12 of add exactly.
-- Assumes nothing.
use Prim.Native.Nat.{ℕ, ◌/◌}
use mathlib.Core.Path.{◌≡◌, refl, sym, ap, ◌∙◌}
use mathlib.Core.List.{List, [], ◌∷◌}
use mathlib.Core.Logic.{◌↔◌}
use mathlib.Core.Bool.{Bool, true, false, ◌&&◌, ◌||◌}
use native.Mathlib.Omega.{arith}
use lib.Dec.{eqb}
use borrow.Author.Tests.{eqb-true}
use Rattle.format.specs.Words.{Bytes}
use Rattle.format.specs.Answers.{Outcome, refused}
use Rattle.format.specs.Book.{Class}
use Rattle.format.specs.Items.{ItemOf, Item, Channel, Histogram, HitCount, Sample, Bin, LastCell, TimeBin, Text, StartEvent, ContinueEvent, EndEvent, Token, whole}
use Rattle.format.specs.Rules.{Kind}
use Rattle.format.specs.Frames.{earlier_then}
use Rattle.format.specs.Faults.{ItemBroken, no_class, cut, misplaced, misvalued, disordered, FirstFaulty, NewBroken, out_of_place, wrong_value, out_of_order, EmptyBroken, empty_out_of_place, no_content}
use Rattle.format.specs.Writing.{Partial, partial_verdict, begin_answer, given, add_answer, close_answer}
use Rattle.format.specs.WriterCases.{PartialAnswer, stands, wrong_length, wrong_kind, wrong_size, wrong_sequence, faulty, one_of, head_numbers, item_numbers, PartialRefused, by_head, by_item, handed, Begin, begins, card_wide, sequence_wide, begin_short, Add, adds, add_partial, add_breaks, add_empty, add_flawed, add_short, Short, Close, closes, close_partial, close_open, close_short}
use Rattle.format.proofs.book.PrefixLaws.{and_left, and_right}
use Rattle.format.proofs.verdict.WalkFaults.{not_refused, refused_is}
use Rattle.format.proofs.writer.PartialRefusals.{partial_exactly}
use Rattle.format.proofs.writer.WriterLaws.{begin_exactly, add_exactly, close_exactly}

-- ---- closed lists of numbers

-- each of these is one of those
abbrev included : List ℕ → List ℕ → Bool
included [] ms = true
included (n ∷ ns) ms = one_of n ms && included ns ms

widen : (k : ℕ) (ns ms : List ℕ) → included ns ms ≡ true → one_of k ns ≡ true → one_of k ms ≡ true
widen k [] ms i e = let z : ◌≡◌ {A = ℕ} 0 1 = cc in absurd (omega arith)
widen k (n ∷ ns) ms i e = go (eqb k n) refl e (widen k ns ms (and_right (one_of n ms) (included ns ms) i))
  where
    go : (b : Bool) → eqb k n ≡ b → b || one_of k ns ≡ true → (one_of k ns ≡ true → one_of k ms ≡ true) → one_of k ms ≡ true
    go true p e f = ap (λ (m : ℕ). one_of m ms) (eqb-true k n p) ∙ and_left (one_of n ms) (included ns ms) i
    go false p e f = f e

-- ---- an item

-- the rules that an item handed over can break
abbrev rule_numbers : List ℕ
rule_numbers = 8 ∷ 9 ∷ 10 ∷ []

new_number : (kind : Kind) (card : ℕ) (q : List Item) (x : Item) (k : ℕ) → NewBroken kind card q x k → one_of k rule_numbers ≡ true
new_number kind card q x k (out_of_place e) = refl
new_number kind card q x k (wrong_value e) = refl
new_number kind card q x k (out_of_order e) = refl

empty_number : (kind : Kind) (q : List Item) (c : Class) (k : ℕ) → EmptyBroken kind q c k → one_of k rule_numbers ≡ true
empty_number kind q c k (empty_out_of_place e) = refl
empty_number kind q c k no_content = refl

fault_number : (s : List ℕ) (end : ℕ) (q : List Item) (p k : ℕ) → ItemBroken s end q p k → one_of k item_numbers ≡ true
fault_number s end q p k (no_class e) = refl
fault_number s end q p k (cut e) = refl
fault_number s end q p k (misplaced e) = refl
fault_number s end q p k (misvalued e) = refl
fault_number s end q p k (disordered x e f g) = refl

-- ---- a partial frame

pub partial_refused : (buf : List ℕ) → Bytes buf → (n k q : ℕ) → partial_verdict buf n ≡ refused k q → PartialRefused n k q
partial_refused buf bs n k q e = go _ ((partial_exactly buf bs n (refused k q)).0 e) refl
  where
    head : (j : ℕ) → one_of j head_numbers ≡ true → ◌≡◌ {A = Outcome Partial} (refused j 0) (refused k q) → PartialRefused n k q
    head j o e = let (a, b) = refused_is j k 0 q e in by_head (ap (λ (k : ℕ). one_of k head_numbers) (sym a) ∙ o) (sym b)

    item : (j r : ℕ) → FirstFaulty buf (n / 2) j r → (j ≡ k) × (r ≡ q) → PartialRefused n k q
    item j r f (a, b) =
        by_item (ap (λ (k : ℕ). one_of k item_numbers) (sym a) ∙ fault_number buf (n / 2) (earlier_then [] f.items) r j f.first.broken)
        (omega (arith, f.begins)) (omega (arith, f.inside))

    go : (o : Outcome Partial) → PartialAnswer buf n o → o ≡ refused k q → PartialRefused n k q
    go o (stands f xs b) e = not_refused _ _ _ e
    go o (wrong_length a) e = head 1 refl e
    go o (wrong_kind a b) e = head 2 refl e
    go o (wrong_size a b c) e = head 3 refl e
    go o (wrong_sequence a b c d) e = head 4 refl e
    go o (faulty j r h f) e = item j r f (refused_is j k r q e)

-- its numbers, which 11 and 12 are not among
abbrev pub partial_numbers : List ℕ
partial_numbers = 1 ∷ 2 ∷ 3 ∷ 4 ∷ 6 ∷ 7 ∷ 8 ∷ 9 ∷ 10 ∷ []

pub partial_numbers_lem : (buf : List ℕ) → Bytes buf → (n k q : ℕ) → partial_verdict buf n ≡ refused k q → one_of k partial_numbers ≡ true
partial_numbers_lem buf bs n k q e = go (partial_refused buf bs n k q e)
  where
    go : PartialRefused n k q → one_of k partial_numbers ≡ true
    go (by_head o z) = widen k head_numbers partial_numbers refl o
    go (by_item o a b) = widen k item_numbers partial_numbers refl o

-- ---- the three calls

-- a refusal by a number of the list
by_one : (ns : List ℕ) (j r k p : ℕ) → one_of j ns ≡ true → ◌≡◌ {A = Outcome ℕ} (refused j r) (refused k p) → one_of k ns ≡ true
by_one ns j r k p o e = ap (λ (k : ℕ). one_of k ns) (sym (refused_is j k r p e).0) ∙ o

abbrev pub begin_numbers : List ℕ
begin_numbers = 9 ∷ 4 ∷ 12 ∷ []

abbrev pub add_numbers : List ℕ
add_numbers = 1 ∷ 2 ∷ 3 ∷ 4 ∷ 6 ∷ 7 ∷ 8 ∷ 9 ∷ 10 ∷ 12 ∷ []

abbrev pub close_numbers : List ℕ
close_numbers = 1 ∷ 2 ∷ 3 ∷ 4 ∷ 6 ∷ 7 ∷ 8 ∷ 9 ∷ 10 ∷ 11 ∷ 12 ∷ []

pub begin_numbers_lem : (buf : List ℕ) (card sequence k p : ℕ) → begin_answer buf card sequence ≡ refused k p → (one_of k begin_numbers ≡ true) × (p ≡ 0)
begin_numbers_lem buf card sequence k p e = go _ ((begin_exactly buf card sequence (refused k p)).0 e) refl
  where
    go : (o : Outcome ℕ) → Begin buf card sequence o → o ≡ refused k p → (one_of k begin_numbers ≡ true) × (p ≡ 0)
    go o (begins a b c) q = not_refused _ _ _ q
    go o (card_wide a) q = (by_one begin_numbers 9 0 k p refl q, sym (refused_is 9 k 0 p q).1)
    go o (sequence_wide a b) q = (by_one begin_numbers 4 0 k p refl q, sym (refused_is 4 k 0 p q).1)
    go o (begin_short a b c) q = (by_one begin_numbers 12 0 k p refl q, sym (refused_is 12 k 0 p q).1)

-- every item that a caller can hand over
pub given_handed : (x : ItemOf ℕ) → handed (given x) ≡ true
given_handed (Channel a b c) = refl
given_handed (Histogram a b c) = refl
given_handed (HitCount a b c) = refl
given_handed (Sample v) = refl
given_handed (Bin b n) = refl
given_handed (LastCell a b) = refl
given_handed (TimeBin t) = refl
given_handed (Text n) = refl
given_handed (StartEvent a b c) = refl
given_handed (ContinueEvent n) = refl
given_handed (EndEvent n) = refl

pub add_numbers_lem : (buf : List ℕ) → Bytes buf → (n : ℕ) (t : Token) → handed t ≡ true → (k p : ℕ) → add_answer buf n t ≡ refused k p → one_of k add_numbers ≡ true
add_numbers_lem buf bs n t h k p e = go t _ h ((add_exactly buf n t (refused k p)).0 e) refl
  where
    go : (t : Token) (o : Outcome ℕ) → handed t ≡ true → Add buf n t o → o ≡ refused k p → one_of k add_numbers ≡ true
    go t o h (adds f x e a r s) q = not_refused _ _ _ q
    go t o h (add_partial u j r e) q = by_one add_numbers j r k p (widen j partial_numbers add_numbers refl (partial_numbers_lem buf bs n j r e)) q
    go t o h (add_breaks f x j e b) q = by_one add_numbers j (n / 2) k p (widen j rule_numbers add_numbers refl (new_number _ _ _ x j b.broken)) q
    go t o h (add_empty f c j e b) q = by_one add_numbers j (n / 2) k p (widen j rule_numbers add_numbers refl (empty_number _ _ c j b.broken)) q
    go t o h (add_flawed f j e) q = let z : ◌≡◌ {A = ℕ} 0 1 = cc in absurd (omega arith)
    go t o h (add_short f x e a r) q = by_one add_numbers 12 0 k p refl q

pub close_numbers_lem : (buf : List ℕ) → Bytes buf → (n k p : ℕ) → close_answer buf n ≡ refused k p → one_of k close_numbers ≡ true
close_numbers_lem buf bs n k p e = go _ ((close_exactly buf n (refused k p)).0 e) refl
  where
    go : (o : Outcome ℕ) → Close buf n o → o ≡ refused k p → one_of k close_numbers ≡ true
    go o (closes f e d r) q = not_refused _ _ _ q
    go o (close_partial j r e) q = by_one close_numbers j r k p (widen j partial_numbers close_numbers refl (partial_numbers_lem buf bs n j r e)) q
    go o (close_open f e d) q = by_one close_numbers 11 (n / 2) k p refl q
    go o (close_short f e d r) q = by_one close_numbers 12 0 k p refl q

-- ---- 12 is given exactly where nothing else is wrong and the item does not fit with an end word

pub add_room : (buf : List ℕ) → Bytes buf → (n : ℕ) (t : Token) → handed t ≡ true → (p : ℕ) → (add_answer buf n t ≡ refused 12 p) ↔ Short buf n t p
add_room buf bs n t h p = (λ e. go t _ h ((add_exactly buf n t (refused 12 p)).0 e) refl, back)
  where
    other : (j r : ℕ) (ns : List ℕ) → one_of j ns ≡ true → one_of 12 ns ≡ false → ◌≡◌ {A = Outcome ℕ} (refused j r) (refused 12 p) → ⊥
    other j r ns o m e =
        let x = by_one ns j r 12 p o e in
        let z : ◌≡◌ {A = ℕ} 0 1 = cc in omega arith

    go : (t : Token) (o : Outcome ℕ) → handed t ≡ true → Add buf n t o → o ≡ refused 12 p → Short buf n t p
    go t o h (adds f x e a r s) q = not_refused _ _ _ q
    go t o h (add_partial u j r e) q = absurd (other j r partial_numbers (partial_numbers_lem buf bs n j r e) refl q)
    go t o h (add_breaks f x j e b) q = absurd (other j (n / 2) rule_numbers (new_number _ _ _ x j b.broken) refl q)
    go t o h (add_empty f c j e b) q = absurd (other j (n / 2) rule_numbers (empty_number _ _ c j b.broken) refl q)
    go t o h (add_flawed f j e) q = let z : ◌≡◌ {A = ℕ} 0 1 = cc in absurd (omega arith)
    go t o h (add_short f x e a r) q =
        record { partial = f; item = x; token = refl; judged = e; allowed = a; short = r; at = sym (refused_is 12 12 0 p q).1 }

    back : Short buf n t p → add_answer buf n t ≡ refused 12 p
    back s =
        ap (add_answer buf n) s.token
        ∙ (add_exactly buf n (whole s.item) (refused 12 0)).1 (add_short s.partial s.item s.judged s.allowed s.short)
        ∙ ap (refused 12) (sym s.at)
