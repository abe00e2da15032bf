-- What `?` passes on: a refusal as it is, and 13 where nothing was found.
-- Assumes nothing.
use Prim.Native.Nat.{ℕ}
use mathlib.Core.Path.{◌≡◌, refl, sym, ap, subst, ◌∙◌}
use native.Mathlib.Omega.{arith}
use Rattle.std.specs.Option.{ok_or}
use Rattle.std.specs.Prelude.{Option, Some, None, Result, Ok, Err, MatchResult, IsErrAnd}
use Rattle.std.proofs.lemmas.Result.{err_from_is_err_and}
use Rattle.book.specs.declared.refusal.Fault.{Fault}
use Rattle.book.specs.declared.refusal.Fault.TheVariants.{Absent}
use Rattle.book.specs.declared.refusal.Refusal.{Refusal}
use Rattle.book.specs.Refusals.{AtStart}

pub passed : {T : Type 0} (r : Result T Refusal) (f : Refusal) → IsErrAnd r (λ y. y ≡ f) → r ≡ Err f
passed r f q = let p = err_from_is_err_and r q in p.1 ∙ ap Err p.2

pub passed_by : {T : Type 0} (P : T → Type 0) (Q : Refusal → Type 0) (r : Result T Refusal) (f : Refusal) → IsErrAnd r (λ y. y ≡ f) → Q f → MatchResult r P Q
passed_by P Q r f q h = subst (λ (r : Result _ Refusal). MatchResult r P Q) (sym (passed r f q)) h

fault_is : (f : Fault) → ◌≡◌ {A = Result ℕ Fault} (Err f) (Err Absent) → f ≡ Absent
fault_is f e = cc

place_is : (p q : ℕ) → ◌≡◌ {A = Result ℕ Fault} (Ok p) (Ok q) → p ≡ q
place_is p q e = cc

pub found : (o : Option ℕ) (q : ℕ) → Ok q ≡ ok_or o Absent → o ≡ Some q
found None q e = let z : ◌≡◌ {A = ℕ} 0 1 = cc in absurd (omega arith)
found (Some p) q e = ap Some (sym (place_is q p e))

pub nothing : (o : Option ℕ) (f : Fault) → Err f ≡ ok_or o Absent → o ≡ None
nothing None f e = refl
nothing (Some p) f e = let z : ◌≡◌ {A = ℕ} 0 1 = cc in absurd (omega arith)

pub absent : {T : Type 0} (o : Option ℕ) (f : Fault) (r : Result T Refusal) → Err f ≡ ok_or o Absent → IsErrAnd r (AtStart f) → r ≡ Err (record { fault = Absent; place = 0 })
absent None f r e q = let p = err_from_is_err_and r q in p.1 ∙ ap Err p.2 ∙ ap (λ (f : Fault). Err (record { fault = f; place = 0 })) (fault_is f e)
absent (Some p) f r e q = let z : ◌≡◌ {A = ℕ} 0 1 = cc in absurd (omega arith)
