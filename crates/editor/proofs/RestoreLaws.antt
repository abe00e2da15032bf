-- Restoring, as laws over plain lists: what is left of its tests where the record was judged.
-- Assumes nothing.
use Prim.Native.Nat.{ℕ}
use mathlib.Core.Path.{◌≡◌, ◌∙◌}
use mathlib.Core.List.{List, [], ◌∷◌}
use lib.ListN.{length}
use lib.Dec.{leb}
use Rattle.format.specs.Answers.{Done, refused, need, first_of}
use Rattle.ledger.specs.Records.{record_verdict}
use Rattle.ledger.specs.Calls.{Summary, restore_answer}
use Rattle.ledger.specs.Versions.{format_in}
use Rattle.ledger.specs.PlaneFrames.{plane_frames}
use Rattle.editor.specs.Writes.{Known}

module _ (b : List ℕ) (k : ℕ) (out : List ℕ) where
  -- of all tests of restoring, two are left where the record is accepted
  pub restore_left : (x : Summary) → Known (format_in b) b x → (a : Done) → a ≡ first_of (need (leb k x.count) 26 0 ∷ need (leb x.length (length out)) 12 0 ∷ [])
      → a ≡ restore_answer plane_frames (format_in b) b k out
  unfolding restore_answer first_of
  restore_left x j a e = e ∙ rw (j.judged, j.count, j.length)

  pub restore_unknown : (n p : ℕ) → record_verdict plane_frames (format_in b) b ≡ refused n p → refused n p ≡ restore_answer plane_frames (format_in b) b k out
  unfolding restore_answer first_of
  restore_unknown n p e = rw e
