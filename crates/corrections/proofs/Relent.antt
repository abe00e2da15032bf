-- A `&mut [T]` that a function holds and lends to a call for a lifetime of that call: what stands while it is lent, and how it comes back. The kit's
-- own laws say it of a slice without its machine value; here it has one, as a parameter of a function that is proved by hand has. (No function here is today.)
-- Assumes `Logic`.
use mathlib.Core.Path.{◌≡◌, refl}
use Prim.Native.Nat.{ℕ}
use mathlib.Core.List.{List, [], ◌∷◌}
use lib.ListN.{length}
use seplogic.Ra.Ura.{Ura}
use mir.Syntax.{Lifetime}
use mir.Val.{Val}
use base.Logic.{ent, sep, ex, ex_i}
use base.Fml.{Lft, GName, Share, Fml, flft, fdead}
use types.Logic.{Logic, sem}
use types.Kit.{‵, ◌⊛◌, some, later, ◌$◌, ◌∵◌, !, qed, by, move, use1, use2, use3, drop, split, join, pick, fsplit, fjoin, feq_i, await, updating, given, learn, mean, now as at_once, keep, done}
use denote.RattleType.{RattleType}
use denote.Ref.{MutBor}
use denote.Slice.{slice_val, MutSlice, finally}
use borrow.Table.Owned as bare
use borrow.Rule.Slice.Lend.{kept_f, sl_relend, sl_relent_backˡ}

module _ {M : Type 1} {𝓤 : Ura M} (𝓛 : Logic 𝓤) (R : RattleType) (ℓ : Lifetime) (κ κ' : Lft) (q : Share) (b o : ℕ) (γ : GName) where
  open 𝓛 use {H, A}

  abbrev slice : GName → List R.Denot → MutBor (List R.Denot)
  slice δ xs = record { ref_ptr = (b, o); ghost_name = δ; now = xs }

  abbrev values : List R.Denot → List Val
  values xs = slice_val (b, o) (length xs) ∷ []

  -- what the slice owns as a parameter, at the lifetime k and under the name δ; and with no machine value
  abbrev Held : Lft → GName → List R.Denot → Fml
  Held k δ xs = (MutSlice ℓ k R).own_val (slice δ xs) (values xs)

  abbrev Bare : Lft → GName → List R.Denot → Fml
  Bare k δ xs = (bare.MutSlice ℓ k R).own_val (slice δ xs)

  -- lent for κ': the callee's slice, under a new name, and what is kept meanwhile
  pub lent_out : (xs : List R.Denot) → ent 𝓤 (sep 𝓤 (sem 𝓛 (Held κ γ xs)) (A.lft κ q)) (H.⇛ (ex 𝓤 (λ (δ : GName). sep 𝓤 (sem 𝓛 (Held κ' δ xs)) (mean 𝓛 (kept_f 𝓛 R κ q κ' γ δ xs b o)))))
  lent_out xs =
      qed 𝓛 (‵ (Held κ γ xs) ∷ ‵ (flft κ q) ∷ []) ∵ updating ! $ fsplit ! $ fsplit ! $ drop ! $ fjoin ! $
      use2 𝓛 (later (some (λ (δ : GName). ‵ (Bare κ' δ xs) ⊛ kept_f 𝓛 R κ q κ' γ δ xs b o))) (sl_relend 𝓛 R κ q κ' b o γ xs) $ await ! tt $ pick ! (λ δ. split ! $ fsplit ! $
      feq_i ! (List Val) (values xs) (values xs) refl $ fjoin ! $ fjoin ! $ at_once ! $
      by ! (ex_i 𝓤 (λ (η : GName). sep 𝓤 (sem 𝓛 (Held κ' η xs)) (mean 𝓛 (kept_f 𝓛 R κ q κ' γ η xs b o))) δ))

  -- the callee's lifetime is over: the slice is held again, at the list that the callee left
  pub got_back : (δ : GName) (xs zs : List R.Denot) → ent 𝓤 (sep 𝓤 (A.dead κ') (sep 𝓤 (mean 𝓛 (kept_f 𝓛 R κ q κ' γ δ xs b o)) (sem 𝓛 (finally R δ zs))))
      (H.⇛ (sep 𝓤 (sem 𝓛 (Held κ γ zs)) (A.lft κ q)))
  got_back δ xs zs =
      qed 𝓛 (‵ (fdead κ') ∷ kept_f 𝓛 R κ q κ' γ δ xs b o ∷ ‵ (finally R δ zs) ∷ []) ∵ updating ! $
      use3 𝓛 (later (given (length zs ≡ length xs) (‵ (Bare κ γ zs) ⊛ ‵ (flft κ q)))) (sl_relent_backˡ 𝓛 R κ q κ' b o γ δ xs zs) $ await ! tt $ learn ! (λ same.
      split ! $ fsplit ! $ feq_i ! (List Val) (values zs) (values zs) refl $ fjoin ! $ fjoin ! $ at_once ! $ done !)
