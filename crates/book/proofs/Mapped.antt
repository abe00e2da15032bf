-- What an answer whose error `map_err` made another one tells of the answer before it.
-- Assumes nothing.
use mathlib.Core.Path.{◌≡◌, refl, sym, subst, ◌∙◌}
use Rattle.std.specs.Prelude.{Result, Ok, Err, MatchResult, IsErrAnd}

module _ {T E D : Type 0} (P : E → D → Type 0) where
  pub as_accepted : (r : Result T E) (q : Result T D) → MatchResult r (λ x. q ≡ Ok x) (λ e. IsErrAnd q (P e)) → (x : T) → q ≡ Ok x → r ≡ Ok x
  as_accepted (Ok y) q h x e = let z : ◌≡◌ {A = Result _ _} (Ok y) (Ok x) = sym h ∙ e in cc
  as_accepted (Err y) (Ok z) h x e = absurd h
  as_accepted (Err y) (Err z) h x e = cc

  pub as_refused : (r : Result T E) (q : Result T D) → MatchResult r (λ x. q ≡ Ok x) (λ e. IsErrAnd q (P e)) → (d : D) → q ≡ Err d → (e : E) × (r ≡ Err e) × P e d
  as_refused (Ok y) q h d e = let z : ◌≡◌ {A = Result _ _} (Ok y) (Err d) = sym h ∙ e in cc
  as_refused (Err y) (Ok z) h d e = absurd h
  as_refused (Err y) (Err z) h d e = let k : z ≡ d = cc in (y, refl, subst (P y) k h)
