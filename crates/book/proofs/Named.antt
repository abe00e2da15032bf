-- A refusal of a frame, of a partial frame or of a list of tests is by the number of a fault, whatever the bytes: so every answer in the documents is
-- an answer of the code.
-- Assumes nothing.
use Prim.Native.Nat.{ℕ, zero, suc, ◌+◌, ◌%◌}
use mathlib.Core.Path.{◌≡◌, refl, ap, ap₂, ◌∙◌}
use mathlib.Core.List.{List, [], ◌∷◌}
use mathlib.Core.Bool.{Bool, true, false, ◌&&◌}
use mathlib.Core.Logic.{◌⊎◌, inl, inr}
use mathlib.Core.Option.{Option, some, none}
use native.Mathlib.Omega.{arith}
use lib.Dec.{eqb, leb}
use lib.ListN.{length, take, drop}
use borrow.Author.Tests.{eqb-false}
use Rattle.std.specs.Prelude.{Result, Ok, Err}
use Rattle.format.specs.Words.{pick, words, word_at}
use Rattle.format.specs.Answers.{Outcome, accepted, refused, and_then, Done, need, first_of}
use Rattle.format.specs.Book.{Class, class_of, assigned, after}
use Rattle.format.specs.Items.{Item, Token, whole, broken, flawed, class_for, token_for, token_of, tokens, decode}
use Rattle.format.specs.Rules.{Kind, may_end, Checked, good, bad, place, value, order, check}
use Rattle.format.specs.Frames.{Frame, last_of, length_fits, start_fits, head_fault, kind_in, card_in, front, body, width, walk, ending, judged, verdict}
use Rattle.format.specs.Writing.{partial_body, partial_of, partial_fault, partial_judged, partial_verdict}
use Rattle.book.specs.declared.refusal.Fault.{Fault}
use Rattle.book.specs.declared.refusal.Fault.TheVariants as fault
use Rattle.book.specs.declared.refusal.Refusal.{Refusal}
use Rattle.book.specs.Refusals.{number_of}
use Rattle.book.specs.Refuses.{Refuses}
use Rattle.book.specs.Views.{view_result}

abbrev pub Numbered : ℕ → Type 0
Numbered n = (f : Fault) × (number_of f ≡ n)

abbrev pub Named : {A : Type 0} → Outcome A → Type 0
Named (accepted x) = Unit {0}
Named (refused n p) = Numbered n

-- an answer of the code's that says so
pub answer_for : {A : Type 0} (o : Outcome A) → Named o → (r : Result A Refusal) × (view_result (λ x. x) r ≡ o)
answer_for (accepted x) h = (Ok x, refl)
answer_for (refused n p) (f, e) = (Err (record { fault = f; place = p }), ap (λ (k : ℕ). refused k p) e)

-- an answer is a refusal where what it says on paper is one
module _ {A B : Type 0} (look : A → B) where
  pub refuses_told : (r : Result A Refusal) (n p : ℕ) → Refuses r n p → view_result look r ≡ refused n p
  refuses_told r n p (q, e, i, j) = ap (view_result look) e ∙ ap₂ (λ (k m : ℕ). refused k m) i j

  pub told_refuses : (r : Result A Refusal) (n p : ℕ) → view_result look r ≡ refused n p → Refuses r n p
  told_refuses (Ok x) n p e = let z : ◌≡◌ {A = ℕ} 0 1 = cc in absurd (omega arith)
  told_refuses (Err q) n p e = (q, refl, cc, cc)

-- ---- answers put together

pub named_then : {A B : Type 0} (o : Outcome A) (g : A → Outcome B) → Named o → ((x : A) → Named (g x)) → Named (and_then o g)
named_then (accepted x) g h k = k x
named_then (refused n p) g h k = h

pub named_pick : {A : Type 0} (b : Bool) (x y : Outcome A) → Named x → Named y → Named (pick b x y)
named_pick true x y h k = h
named_pick false x y h k = k

pub named_need : (b : Bool) (f : Fault) (p : ℕ) → Named (need b (number_of f) p)
named_need true f p = tt
named_need false f p = (f, refl)

pub data AllNamed : List Done → Type 0 where
  no_tests : AllNamed []
  more : {o : Done} {os : List Done} → Named o → AllNamed os → AllNamed (o ∷ os)

pub named_first : {os : List Done} → AllNamed os → Named (first_of os)
unfolding first_of
named_first no_tests = tt
named_first (more {o = o} {os = os} h k) = named_then o (λ u. first_of os) h (λ u. named_first k)

-- ---- the first rules of a frame: 0 where none is broken

abbrev OrNone : ℕ → Type 0
OrNone n = (n ≡ 0) ⊎ Numbered n

-- the answer of bytes by their first rules and, where none of them is broken, by what is judged behind
behind_rules : {A : Type 0} (n : ℕ) (o : Outcome A) → OrNone n → Named o → Named (pick (eqb n 0) o (refused n 0))
behind_rules n o h k = go (eqb n 0) refl h
  where
    go : (b : Bool) → eqb n 0 ≡ b → OrNone n → Named (pick b o (refused n 0))
    go true e j = k
    go false e (inl z) = absurd (eqb-false n 0 e z)
    go false e (inr f) = f

-- ---- the walk

abbrev pub Fair : Token → Type 0
Fair (whole x) = Unit {0}
Fair (broken c) = Unit {0}
Fair (flawed n) = Numbered n

abbrev pub Checks : {A : Type 0} → Checked A → Type 0
Checks (good x) = Unit {0}
Checks (bad n) = Numbered n

tested : (place value order : Bool) (q : List Item) → Checks (pick place (pick value (pick order (good q) (bad 10)) (bad 9)) (bad 8))
tested true true true q = tt
tested true true false q = (fault.Order, refl)
tested true false order q = (fault.Value, refl)
tested false value order q = (fault.Place, refl)

placed : (place : Bool) → Checks {A = List Item} (pick place (bad 9) (bad 8))
placed true = (fault.Value, refl)
placed false = (fault.Place, refl)

pub checks : (kind : Kind) (card : ℕ) (p : List Item) (t : Token) → Fair t → Checks (check kind card p t)
unfolding check
checks kind card p (whole x) h = tested (place kind p (class_for x)) (value card p x) (order p x) (x ∷ p)
checks kind card p (broken c) h = placed (place kind p c)
checks kind card p (flawed n) h = h

fair : (w : ℕ) (ws : List ℕ) → Fair (token_of w ws)
unfolding token_of
fair w ws = go (assigned (class_of w)) (leb (after (class_of w) w) (length ws)) (class_of w) (decode (class_of w) w (take (after (class_of w) w) ws))
  where
    go : (a b : Bool) (c : Class) (o : Option Item) → Fair (pick a (pick b (token_for c o) (flawed 7)) (flawed 6))
    go true true c none = tt
    go true true c (some x) = tt
    go true false c o = (fault.Cut, refl)
    go false b c o = (fault.Class, refl)

walked : (kind : Kind) (card : ℕ) (p : List Item) (at k : ℕ) (ws : List ℕ) → Named (walk kind card p at (tokens k ws))
unfolding walk tokens
walked kind card p at k [] = tt
walked kind card p at zero (w ∷ ws) =
    go (check kind card p (token_of w ws)) (checks kind card p (token_of w ws) (fair w ws)) (λ q. walked kind card q (at + width (token_of w ws)) (after (class_of w) w) ws)
  where
    go : (c : Checked (List Item)) → Checks c → ((q : List Item) → Named (walk kind card q (at + width (token_of w ws)) (tokens (after (class_of w) w) ws)))
        → Named (elim c [ good q ↦ walk kind card q (at + width (token_of w ws)) (tokens (after (class_of w) w) ws) | bad n ↦ refused n at ])
    go (good q) h k = k q
    go (bad n) h k = h
walked kind card p at (suc k) (w ∷ ws) = walked kind card p at k ws

-- ---- the verdicts

head_number : (s : List ℕ) → OrNone (head_fault s)
unfolding head_fault
head_number s = go (length_fits (length s)) (start_fits (word_at s 0)) (eqb (word_at s 1) (length s)) (leb (word_at s 2) 0x0100) (eqb (word_at s (last_of s)) 0x000F)
  where
    go : (a b c d e : Bool) → OrNone (pick a (pick b (pick c (pick d (pick e 0 5) 4) 3) 2) 1)
    go true true true true true = inl refl
    go true true true true false = inr (fault.End, refl)
    go true true true false e = inr (fault.Sequence, refl)
    go true true false d e = inr (fault.Size, refl)
    go true false c d e = inr (fault.Kind, refl)
    go false b c d e = inr (fault.Length, refl)

pub verdict_named : (s : List ℕ) → Named (verdict s)
unfolding verdict judged
verdict_named s =
    behind_rules (head_fault s) (and_then (walk (kind_in s) (card_in s) [] 3 (body s)) (ending s)) (head_number s)
    (named_then (walk (kind_in s) (card_in s) [] 3 (body s)) (ending s) (walked (kind_in s) (card_in s) [] 3 0 (drop 3 (front s))) (λ p. go (may_end p) _ (last_of s)))
  where
    go : (b : Bool) (f : Frame) (p : ℕ) → Named (pick b (accepted f) (refused 11 p))
    go true f p = tt
    go false f p = (fault.Open, refl)

partial_number : (buf : List ℕ) (n : ℕ) → OrNone (partial_fault buf n)
unfolding partial_fault
partial_number buf n =
    go (eqb (n % 2) 0 && leb 6 n && leb n 8190 && leb n (length buf)) (start_fits (word_at buf 0)) (eqb (word_at buf 1) 0) (leb (word_at buf 2) 0x0100)
  where
    go : (a b c d : Bool) → OrNone (pick a (pick b (pick c (pick d 0 4) 3) 2) 1)
    go true true true true = inl refl
    go true true true false = inr (fault.Sequence, refl)
    go true true false d = inr (fault.Size, refl)
    go true false c d = inr (fault.Kind, refl)
    go false b c d = inr (fault.Length, refl)

pub partial_named : (buf : List ℕ) (n : ℕ) → Named (partial_verdict buf n)
unfolding partial_verdict partial_judged
partial_named buf n =
    behind_rules (partial_fault buf n) (and_then (walk (kind_in buf) (card_in buf) [] 3 (partial_body buf n)) (partial_of buf)) (partial_number buf n)
    (named_then (walk (kind_in buf) (card_in buf) [] 3 (partial_body buf n)) (partial_of buf) (walked (kind_in buf) (card_in buf) [] 3 0 (drop 3 (words (take n buf)))) (λ p. tt))
