-- What is handed over flat and is no kind of frame, or no item: its number, and that nothing is written.
-- Assumes nothing.
use Prim.Native.Nat.{ℕ, ◌/◌, ◌<◌}
use mathlib.Core.Path.{◌≡◌, refl, sym, subst}
use mathlib.Core.Logic.{◌⊎◌, ⊎_elim}
use mathlib.Core.List.{List, []}
use mathlib.Core.Option.{none}
use native.Mathlib.Omega.{arith}
use borrow.Author.Tests.{ne_eqb}
use lib.Seq.{sets}
use Rattle.format.specs.Answers.{Outcome, accepted, refused, and_then, leaves}
use Rattle.format.specs.Items.{Token, flawed}
use Rattle.format.specs.Rules.{check}
use Rattle.format.specs.Writing.{Partial, partial_verdict, add_answer, add_left}
use Rattle.format.specs.PartialSteps.{PartialOverview, partial_read_of}
use Rattle.format.proofs.reader.PartialJudging.{add_refused, contained}
use Rattle.exports.specs.declared.answers.PlaneWritten.{PlaneWritten}
use Rattle.exports.specs.Flat.{flat_written}
use Rattle.exports.specs.Given.{kind_of}
use Rattle.exports.specs.Promises.{Leaves}

-- a number that no kind has
pub no_kind : (k : ℕ) → (k ≡ 0) ⊎ (3 < k) → kind_of k ≡ none
no_kind k = ⊎_elim (λ e. rw e) (λ l. rw (ne_eqb k 1 (omega arith), ne_eqb k 2 (omega arith), ne_eqb k 3 (omega arith)))

module _ (buf : List ℕ) (n k : ℕ) where
  pub flawed_refused : (j p : ℕ) → refused j p ≡ partial_read_of buf n → refused j p ≡ add_answer buf n (flawed k)
  flawed_refused j p e = rw (add_refused buf n j p (sym e) (flawed k))

  pub flawed_here : (v : PartialOverview) → accepted v ≡ partial_read_of buf n → refused k (n / 2) ≡ add_answer buf n (flawed k)
  unfolding add_answer check
  flawed_here v e = rw (contained buf n v (sym e)).1

  pub flawed_left : add_left buf n (flawed k) ≡ buf
  unfolding add_left add_answer check
  flawed_left = go (partial_verdict buf n)
    where
      go : (o : Outcome Partial) → leaves (and_then {B = ℕ} o (λ f. refused k (n / 2))) buf (sets buf n []) ≡ buf
      go (accepted f) = refl
      go (refused j p) = refl

-- what is promised of a token is promised of one that equals it
pub answered_alike : (buf : List ℕ) (n : ℕ) (t u : Token) → t ≡ u → (r : PlaneWritten) (l : List ℕ)
    → Leaves (flat_written (add_answer buf n t)) (add_left buf n t) r l → Leaves (flat_written (add_answer buf n u)) (add_left buf n u) r l
answered_alike buf n t u e r l = subst (λ (v : Token). Leaves (flat_written (add_answer buf n v)) (add_left buf n v) r l) e
