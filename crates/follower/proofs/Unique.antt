-- What an answer says on paper fixes the answer. Assumes nothing.
use Prim.Native.Nat.{ℕ}
use mathlib.Core.Path.{◌≡◌, refl, sym, ap, ◌∙◌}
use Rattle.std.specs.Prelude.{Result, Ok, Err}
use native.Mathlib.Omega.{arith}
use Rattle.follower.specs.declared.Follower.{Follower}
use Rattle.follower.specs.declared.Follower.TheVariants.{Idle, Expecting}
use Rattle.follower.specs.declared.Followed.{Followed}
use Rattle.follower.specs.declared.SequenceError.{SequenceError}
use Rattle.follower.specs.declared.SequenceError.TheVariants.{NoSequence, NoStart}
use Rattle.follower.specs.Follow.{State, accepted, refused}
use Rattle.follower.specs.Paper.{state_of, number_of, view}

-- a contract that is an equation, seen through an injective view, has one answer
pub one : {A B : Type 0} (look : A → B) → ((r q : A) → look r ≡ look q → r ≡ q) → (b : B) (r q : A) → look r ≡ b → look q ≡ b → r ≡ q
one look injective b r q e f = injective r q (e ∙ sym f)

-- a contract that is an equation of the answer itself, too
pub equal_once : {A : Type 0} (b r q : A) → r ≡ b → q ≡ b → r ≡ q
equal_once b r q e f = e ∙ sym f

pub same_state : (r q : Follower) → state_of r ≡ state_of q → r ≡ q
same_state Idle Idle e = refl
same_state Idle (Expecting n) e = let z : ◌≡◌ {A = ℕ} 0 1 = cc in absurd (omega arith)
same_state (Expecting n) Idle e = let z : ◌≡◌ {A = ℕ} 0 1 = cc in absurd (omega arith)
same_state (Expecting n) (Expecting m) e = cc

pub same_error : (r q : SequenceError) → number_of r ≡ number_of q → r ≡ q
same_error NoSequence NoSequence e = refl
same_error NoSequence NoStart e = absurd (omega arith)
same_error NoStart NoSequence e = absurd (omega arith)
same_error NoStart NoStart e = refl

next_of : (l m : ℕ) (s t : State) → accepted l s ≡ accepted m t → s ≡ t
next_of l m s t e = cc

number_in : (n m : ℕ) → refused n 0 ≡ refused m 0 → n ≡ m
number_in n m e = cc

pub same_answer : (r q : Result Followed SequenceError) → view r ≡ view q → r ≡ q
same_answer (Ok x) (Ok y) e = let h = same_state x.next y.next (next_of _ _ _ _ e) in let l : x.lost ≡ y.lost = cc in ap Ok (λ i. record { lost = l i; next = h i })
same_answer (Ok x) (Err f) e = let z : ◌≡◌ {A = ℕ} 0 1 = cc in absurd (omega arith)
same_answer (Err f) (Ok x) e = let z : ◌≡◌ {A = ℕ} 0 1 = cc in absurd (omega arith)
same_answer (Err f) (Err g) e = ap Err (same_error f g (number_in _ _ e))
