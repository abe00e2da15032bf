-- What an export's `refused` says: where it is not 0, lent memory is as found, since document 01's call leaves it so, but for a list of corrections,
-- whose earlier ones stand; and of the follower, where it is 0.
-- Assumes nothing.
use Prim.Native.Nat.{ℕ, ◌≤◌}
use mathlib.Core.Path.{◌≡◌, refl, sym, ap, subst, ◌∙◌}
use mathlib.Core.Logic.{◌↔◌}
use mathlib.Core.List.{List, map}
use mathlib.Core.Option.{Option, none, some}
use native.Mathlib.Omega.{arith}
use Rattle.format.specs.Words.{Bytes}
use Rattle.format.specs.Answers.{Outcome, accepted, refused}
use Rattle.format.specs.Items.{Item}
use Rattle.format.specs.Rules.{Kind}
use Rattle.format.specs.Questions.{samples_left, counts_left, done}
use Rattle.format.proofs.front.Writing.{begin_refused_leaves}
use Rattle.follower.specs.Follow as follow
use Rattle.follower.proofs.front.Sequence.{refusals}
use Rattle.ledger.specs.VersionTwo.{version_two}
use Rattle.ledger.specs.Versions.{format_in}
use Rattle.ledger.specs.PlaneFrames.{plane_frames}
use Rattle.book.specs.declared.refusal.Refusal.{Refusal}
use Rattle.book.specs.Refusals.{number_of}
use Rattle.editor.specs.declared.editing.Correction.{Correction}
use Rattle.editor.specs.Views.{asked}
use Rattle.corrections.specs.Lists as lists
use Rattle.corrections.specs.Lists.{ListAnswer, list_answer}
use Rattle.corrections.specs.Singly.{StoppedAt}
use Rattle.corrections.proofs.front.Corrections.{stopped_exactly}
use Rattle.exports.specs.declared.answers.PlaneFollower.{PlaneFollower}
use Rattle.exports.specs.declared.answers.PlaneFollowed.{PlaneFollowed}
use Rattle.exports.specs.declared.answers.PlaneStopped.{PlaneStopped}
use Rattle.exports.specs.Flat.{flat_followed}
use Rattle.exports.specs.Given.{follower_of, begun, begun_left}
use Rattle.exports.specs.Promises.{Leaves, EditedAll}
use Rattle.exports.specs.FlatTells.{Tells}
use Rattle.exports.proofs.NumberLaws.{edit_all_numbered, edit_all_named}
use Rattle.exports.proofs.Unique.{refuses, stopped_told, all_told}

-- of any call: what document 01's call leaves where it is refused, the export leaves
pub kept : {A B R : Type 0} (seen : A → B) (flat : Outcome A → R) (number place : R → ℕ) (content : R → B) → Tells seen flat number place content
    → (o : Outcome A) (exit found : List ℕ) → ((n p : ℕ) → o ≡ refused n p → exit ≡ found)
    → (r : R) (left : List ℕ) → Leaves (flat o) exit r left → 1 ≤ number r → left ≡ found
kept seen flat number place content t o exit found k r left w l =
    let (n, p, h) = refuses seen flat number place content t o r w.answered l in
    w.written ∙ k n p h

-- ---- refused, document 01's calls leave what they found

pub samples_found : (o : Outcome (List Item)) (out : List ℕ) (n p : ℕ) → done o ≡ refused n p → samples_left o out ≡ out
samples_found (accepted xs) out n p e = let z : ◌≡◌ {A = ℕ} 0 1 = cc in absurd (omega arith)
samples_found (refused m q) out n p e = refl

pub counts_found : (o : Outcome (List Item)) (out : List ℕ) (n p : ℕ) → done o ≡ refused n p → counts_left o out ≡ out
counts_found (accepted xs) out n p e = let z : ◌≡◌ {A = ℕ} 0 1 = cc in absurd (omega arith)
counts_found (refused m q) out n p e = refl

pub begin_found : (k : Option Kind) (buf : List ℕ) (card sequence n p : ℕ) → begun k buf card sequence ≡ refused n p → begun_left k buf card sequence ≡ buf
begin_found none buf card sequence n p e = refl
begin_found (some k) buf card sequence n p e = begin_refused_leaves buf k card sequence n p e

-- ---- the follower

pub follow_accepts : (x : PlaneFollower) (word : ℕ) (r : PlaneFollowed) → r ≡ flat_followed x (follow.follow (follower_of x) word)
    → (r.refused ≡ 0) ↔ ((lost : ℕ) × (next : follow.State) × (follow.follow (follower_of x) word ≡ follow.accepted lost next))
unfolding flat_followed
follow_accepts x word r e =
    ((λ z. go (follow.follow (follower_of x) word) refl (sym (ap (λ (q : PlaneFollowed). q.refused) e) ∙ z)), (λ w. ap (λ (q : PlaneFollowed). q.refused) e ∙ ap (λ (a : follow.Answer). (flat_followed x a).refused) w.2))
  where
    from_one : (s : follow.State) (w n p : ℕ) → follow.Given s w n p → n ≡ 0 → ⊥
    from_one s w n p (follow.sequence h) z = omega arith
    from_one s w n p (follow.no_start h i) z = omega arith

    go : (a : follow.Answer) → follow.follow (follower_of x) word ≡ a → (flat_followed x a).refused ≡ 0 → (lost : ℕ) × (next : follow.State) × (a ≡ follow.accepted lost next)
    go (follow.accepted lost next) i z = (lost, next, refl)
    go (follow.refused n p) i z = absurd (from_one _ _ n p ((refusals (follower_of x) word n p).0 i) z)

-- ---- a list of corrections

module _ (b : List ℕ) (cs : List Correction) (r : PlaneStopped) (left : List ℕ) (w : EditedAll b (map asked cs) r left) where
  pub edit_all_accepts : Bytes b → (r.refused ≡ 0) ↔ (list_answer plane_frames version_two b (map asked cs) ≡ lists.done)
  edit_all_accepts bs = ((λ z. go (list_answer plane_frames version_two b (map asked cs)) refl z), (λ e. ap (λ (q : PlaneStopped). q.refused) w.answered ∙ all_told _ e))
    where
      go : (x : ListAnswer) → list_answer plane_frames version_two b (map asked cs) ≡ x → r.refused ≡ 0 → x ≡ lists.done
      go lists.done e z = refl
      go (lists.stopped i n p) e z =
          let h : 1 ≤ n = edit_all_numbered cs 0 b bs i n p e in
          let k : r.refused ≡ n = ap (λ (q : PlaneStopped). q.refused) (w.answered ∙ stopped_told _ i n p e) in
          absurd (omega arith)

  pub edit_all_leaves : 1 ≤ r.refused → (q : Refusal) × ((number_of q.fault ≡ r.refused) × ((q.place ≡ r.place) × StoppedAt b cs r.position q left))
  edit_all_leaves l = go (list_answer plane_frames version_two b (map asked cs)) refl
    where
      go : (x : ListAnswer) → list_answer plane_frames version_two b (map asked cs) ≡ x
          → (q : Refusal) × ((number_of q.fault ≡ r.refused) × ((q.place ≡ r.place) × StoppedAt b cs r.position q left))
      go lists.done e = let z : r.refused ≡ 0 = ap (λ (q : PlaneStopped). q.refused) w.answered ∙ all_told _ e in absurd (omega arith)
      go (lists.stopped i n p) e =
          let s : record { refused = n; place = p; position = i } ≡ r = sym (w.answered ∙ stopped_told _ i n p e) in
          let (f, h) = edit_all_named cs 0 b i n p e in
          let given : lists.stopped i (number_of f) p ≡ list_answer plane_frames version_two b (map asked cs) = ap (λ (k : ℕ). lists.stopped i k p) h ∙ sym e in
          subst (λ (x : PlaneStopped). (q : Refusal) × ((number_of q.fault ≡ x.refused) × ((q.place ≡ x.place) × StoppedAt b cs x.position q left))) s
          (record { fault = f; place = p }, (h, (refl, (stopped_exactly b cs left i (record { fault = f; place = p })).0 (record { answered = given; left = w.written }))))
