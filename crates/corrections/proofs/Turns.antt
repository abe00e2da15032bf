-- What one correction does to what the list from its position on answers and leaves: the facts that the loop of `edit_all` carries.
-- Assumes nothing.
use Prim.Native.Nat.{ℕ, zero, suc, ◌+◌, ◌<◌, ◌≤◌}
use mathlib.Core.Path.{◌≡◌, refl, sym, ap, subst, ◌∙◌}
use native.Mathlib.Nat.{not-suc-le-zero, le_of_suc-le-suc}
use native.Mathlib.Numerals.{add-one}
use mathlib.Core.List.{List, [], ◌∷◌, map}
use lib.ListN.{length, get_or, drop, drop_of_length-le}
use Rattle.format.specs.Answers.{Done, accepted, refused}
use Rattle.ledger.specs.Frames.{FrameBook}
use Rattle.ledger.specs.Formats as formats
use Rattle.ledger.specs.Formats.{Format}
use Rattle.ledger.specs.Calls.{edit_answer, edit_exit}
use Rattle.ledger.specs.VersionTwo.{version_two}
use Rattle.ledger.specs.PlaneFrames.{plane_frames}
use Rattle.ledger.proofs.calls.Writes.{edit_found}
use Rattle.editor.specs.declared.editing.Correction.{Correction}
use Rattle.editor.specs.Views.{Answer, view_done, asked}
use Rattle.editor.specs.Promises.{Edited}
use Rattle.corrections.specs.Lists.{ListAnswer, done, stopped, at_position, or_later, answer_from, list_exit}
use Rattle.corrections.specs.Promises.{CorrectedAt}

-- ---- over any frame book and format
module _ (B : FrameBook) (F : Format) where
  pub answer_none : (i : ℕ) (b : List ℕ) → answer_from B F i b [] ≡ done
  unfolding answer_from
  answer_none i b = refl

  pub exit_none : (b : List ℕ) → list_exit B F b [] ≡ b
  unfolding list_exit
  exit_none b = refl

  -- the first correction is made
  pub answer_made : (i : ℕ) (b : List ℕ) (c : formats.Correction) (cs : List formats.Correction) → edit_answer B F b c ≡ accepted tt
      → answer_from B F i b (c ∷ cs) ≡ answer_from B F (i + 1) (edit_exit B F b c) cs
  unfolding answer_from
  answer_made i b c cs e = rw e

  pub exit_made : (b : List ℕ) (c : formats.Correction) (cs : List formats.Correction) → edit_answer B F b c ≡ accepted tt
      → list_exit B F b (c ∷ cs) ≡ list_exit B F (edit_exit B F b c) cs
  unfolding list_exit
  exit_made b c cs e = rw e

  -- the first correction is refused
  pub answer_refused : (i : ℕ) (b : List ℕ) (c : formats.Correction) (cs : List formats.Correction) (n p : ℕ) → edit_answer B F b c ≡ refused n p
      → answer_from B F i b (c ∷ cs) ≡ stopped i n p
  unfolding answer_from
  answer_refused i b c cs n p e = rw e

  pub exit_refused : (b : List ℕ) (c : formats.Correction) (cs : List formats.Correction) (n p : ℕ) → edit_answer B F b c ≡ refused n p
      → list_exit B F b (c ∷ cs) ≡ b
  unfolding list_exit
  exit_refused b c cs n p e = rw e

-- ---- one correction, by what the single edit answered
pub at_position_lem : (i : ℕ) (b z : List ℕ) (c : formats.Correction) (r d : Answer) → r ≡ d → Edited b c (view_done r) z → CorrectedAt b c i (at_position i (view_done d)) z
at_position_lem i b z c r d e o = record { answered = ap (λ (x : Answer). at_position i (view_done x)) (sym e) ∙ ap (at_position i) o.answered; left = o.left }

-- ---- a turn of the loop
-- the buffer after a correction that was answered so: what the later ones leave, or what it left itself
abbrev pub left_then : ListAnswer → List ℕ → List ℕ → List ℕ
left_then done z later = later
left_then (stopped i n p) z later = z

-- one correction, which answered a and left z, before the others
pub one_turn : (i : ℕ) (b z : List ℕ) (c : formats.Correction) (cs : List formats.Correction) (a : ListAnswer) → CorrectedAt b c i a z
    → (or_later a (answer_from plane_frames version_two (i + 1) z cs) ≡ answer_from plane_frames version_two i b (c ∷ cs))
    × (left_then a z (list_exit plane_frames version_two z cs) ≡ list_exit plane_frames version_two b (c ∷ cs))
one_turn i b z c cs a t = go (edit_answer plane_frames version_two b c) refl
  where
    go : (d : Done) → edit_answer plane_frames version_two b c ≡ d
        → (or_later a (answer_from plane_frames version_two (i + 1) z cs) ≡ answer_from plane_frames version_two i b (c ∷ cs))
        × (left_then a z (list_exit plane_frames version_two z cs) ≡ list_exit plane_frames version_two b (c ∷ cs))
    go (accepted u) e = (
      (λ k. or_later ((t.answered ∙ ap (at_position i) e) k) (answer_from plane_frames version_two (i + 1) (t.left k) cs)) ∙ sym (answer_made plane_frames version_two i b c cs e),
      (λ k. left_then ((t.answered ∙ ap (at_position i) e) k) z (list_exit plane_frames version_two (t.left k) cs)) ∙ sym (exit_made plane_frames version_two b c cs e),
    )
    go (refused n p) e = (
      (λ k. or_later ((t.answered ∙ ap (at_position i) e) k) (answer_from plane_frames version_two (i + 1) z cs)) ∙ sym (answer_refused plane_frames version_two i b c cs n p e),
      (λ k. left_then ((t.answered ∙ ap (at_position i) e) k) z (list_exit plane_frames version_two z cs))
          ∙ t.left
          ∙ edit_found plane_frames version_two b c n p e
          ∙ sym (exit_refused plane_frames version_two b c cs n p e),
    )

-- ---- positions of the list
drop_suc : {X : Type 0} (cs : List X) (i : ℕ) (d : X) → i < length cs → drop i cs ≡ get_or cs i d ∷ drop (suc i) cs
drop_suc [] i d l = absurd (not-suc-le-zero l)
drop_suc (c ∷ cs) zero d l = refl
drop_suc (c ∷ cs) (suc i) d l = drop_suc cs i d (le_of_suc-le-suc l)

drop_at : {X : Type 0} (cs : List X) (i : ℕ) (d : X) → i < length cs → drop i cs ≡ get_or cs i d ∷ drop (i + 1) cs
drop_at cs i d l = subst (λ (j : ℕ). drop i cs ≡ get_or cs i d ∷ drop j cs) (sym (add-one i)) (drop_suc cs i d l)

-- what the corrections from position i on answer and leave, from the buffer b
abbrev pub AnswerFrom : List ℕ → List Correction → ℕ → ListAnswer
AnswerFrom b cs i = answer_from plane_frames version_two i b (map asked (drop i cs))

abbrev pub ExitFrom : List ℕ → List Correction → ℕ → List ℕ
ExitFrom b cs i = list_exit plane_frames version_two b (map asked (drop i cs))

module _ (b : List ℕ) (cs : List Correction) (i : ℕ) where
  -- the correction at position i, which answered a and left z
  pub turn : (d : Correction) (z : List ℕ) (a : ListAnswer) → i < length cs → CorrectedAt b (asked (get_or cs i d)) i a z
      → (or_later a (AnswerFrom z cs (i + 1)) ≡ AnswerFrom b cs i) × (left_then a z (ExitFrom z cs (i + 1)) ≡ ExitFrom b cs i)
  turn d z a l t =
      let w = one_turn i b z (asked (get_or cs i d)) (map asked (drop (i + 1) cs)) a t in (
        w.0 ∙ sym (ap (λ (r : List Correction). answer_from plane_frames version_two i b (map asked r)) (drop_at cs i d l)),
        w.1 ∙ sym (ap (λ (r : List Correction). list_exit plane_frames version_two b (map asked r)) (drop_at cs i d l)),
      )

  -- of the correction at position i, which left z: it was made, and the others are left; or it was refused, and the list stops there
  module _ (d : Correction) (z : List ℕ) (l : i < length cs) where
    pub turn_made : Edited b (asked (get_or cs i d)) (accepted tt) z → (AnswerFrom z cs (i + 1) ≡ AnswerFrom b cs i) × (ExitFrom z cs (i + 1) ≡ ExitFrom b cs i)
    turn_made o = turn d z done l (record { answered = ap (at_position i) o.answered; left = o.left })

    pub turn_refused : (n p : ℕ) → Edited b (asked (get_or cs i d)) (refused n p) z → (stopped i n p ≡ AnswerFrom b cs i) × (z ≡ ExitFrom b cs i)
    turn_refused n p o = turn d z (stopped i n p) l (record { answered = ap (at_position i) o.answered; left = o.left })

  -- the list is through
  pub through : length cs ≤ i → (done ≡ AnswerFrom b cs i) × (b ≡ ExitFrom b cs i)
  through l = (
    sym (ap (λ (r : List Correction). answer_from plane_frames version_two i b (map asked r)) (drop_of_length-le cs l) ∙ answer_none plane_frames version_two i b),
    sym (ap (λ (r : List Correction). list_exit plane_frames version_two b (map asked r)) (drop_of_length-le cs l) ∙ exit_none plane_frames version_two b),
  )
