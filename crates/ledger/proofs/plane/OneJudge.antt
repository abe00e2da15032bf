-- One judge over two versions: the format that the version word says, and what is refused before anything else is looked at.
-- Assumes nothing.
use Prim.Native.Nat.{ℕ}
use mathlib.Core.Path.{◌≡◌, sym, ap, ◌∙◌}
use mathlib.Core.Logic.{◌↔◌, ◌⊎◌, inl, inr, ⊎_elim}
use mathlib.Core.List.{List, ◌∷◌}
use native.Mathlib.Omega.{arith}
use Rattle.format.specs.Words.{Bytes, word_at}
use Rattle.format.specs.Answers.{Done, accepted, refused, first_of}
use Rattle.ledger.specs.Formats.{Format, Correction}
use Rattle.ledger.specs.Records.{record_verdict}
use Rattle.ledger.specs.Calls.{edit_tests, edit_answer, edit_exit}
use Rattle.ledger.specs.Histories.{Sequence}
use Rattle.ledger.specs.Versions.{Version, v1, v2, format_of, format_in}
use Rattle.ledger.specs.PlaneFrames.{plane_frames}
use Rattle.ledger.specs.Layout.{number_of}
use Rattle.ledger.proofs.records.Judging.{record_chain, header_refused}
use Rattle.ledger.proofs.calls.Writes.{edit_found}
use Rattle.ledger.proofs.histories.Backward as backward
use Rattle.ledger.proofs.plane.VersionLaws.{number_is, for_one, for_two, for_other, for_which}
use Rattle.ledger.proofs.plane.PlaneFrames.{plane_lawful}

pub by_word : (v : Version) (b : List ℕ) → word_at b 0 ≡ number_of v → format_in b ≡ format_of v
by_word v1 b e = for_one (word_at b 0) e
by_word v2 b e = for_two (word_at b 0) e

-- a buffer that does not name a version is none of it
pub not_named : (v : Version) (b : List ℕ) → (word_at b 0 ≡ number_of v → ⊥) → record_verdict plane_frames (format_of v) b ≡ refused 20 0
not_named v b n = header_refused plane_frames (format_of v) b (λ h. n (h.version ∙ number_is v))

pub other_word : (b : List ℕ) → (word_at b 0 ≡ 1 → ⊥) → (word_at b 0 ≡ 2 → ⊥) → record_verdict plane_frames (format_in b) b ≡ refused 20 0
other_word b n m = ap (λ (F : Format). record_verdict plane_frames F b) (for_other (word_at b 0) n) ∙ not_named v2 b m

pub names_version : (v : Version) (b : List ℕ) → record_verdict plane_frames (format_of v) b ≡ accepted tt → word_at b 0 ≡ number_of v
names_version v b e = ((record_chain plane_frames (format_of v) b).0 e).0.version ∙ number_is v

-- an accepted record is judged by its own version
pub own_format : (v : Version) (b : List ℕ) → record_verdict plane_frames (format_of v) b ≡ accepted tt → format_in b ≡ format_of v
own_format v b e = by_word v b (names_version v b e)

first_word : (o : Done) (os : List Done) (n p : ℕ) → o ≡ refused n p → first_of (o ∷ os) ≡ refused n p
unfolding first_of
first_word o os n p e = rw e

pub not_edited : (b : List ℕ) (c : Correction) → (word_at b 0 ≡ 2 → ⊥)
    → (edit_answer plane_frames (format_of v2) b c ≡ refused 20 0) × (edit_exit plane_frames (format_of v2) b c ≡ b)
unfolding edit_answer edit_tests
not_edited b c n =
    let e = first_word _ _ 20 0 (not_named v2 b n) in
    (e, edit_found plane_frames (format_of v2) b c 20 0 e)

pub not_both_versions : (b : List ℕ) → record_verdict plane_frames (format_of v1) b ≡ accepted tt → record_verdict plane_frames (format_of v2) b ≡ refused 20 0
not_both_versions b e = not_named v2 b (λ q. let w = names_version v1 b e in omega arith)

module _ (b : List ℕ) (y : Bytes b) where
  made_by : (v : Version) → format_in b ≡ format_of v → (record_verdict plane_frames (format_in b) b ≡ accepted tt) → Sequence plane_frames (format_of v) b
  made_by v q e = (backward.accepted_exactly plane_frames (format_of v) (plane_lawful v) b y).0 (ap (λ (F : Format). record_verdict plane_frames F b) (sym q) ∙ e)

  accepted_by : (v : Version) → Sequence plane_frames (format_of v) b → record_verdict plane_frames (format_in b) b ≡ accepted tt
  accepted_by v S =
      let e = (backward.accepted_exactly plane_frames (format_of v) (plane_lawful v) b y).1 S in
      ap (λ (F : Format). record_verdict plane_frames F b) (own_format v b e) ∙ e

  pub either_made : (record_verdict plane_frames (format_in b) b ≡ accepted tt) ↔ (Sequence plane_frames (format_of v1) b ⊎ Sequence plane_frames (format_of v2) b)
  either_made = (
    λ e. ⊎_elim (λ w. inl (made_by v1 w.1 e)) (λ w. inr (made_by v2 w.1 e)) (for_which (word_at b 0)),
    ⊎_elim (accepted_by v1) (accepted_by v2),
  )
