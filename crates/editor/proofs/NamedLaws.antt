-- A refusal of an edit is by the number of a fault, whatever the bytes: so there is an answer of the code's for every correction.
-- Assumes nothing.
use Prim.Native.Nat.{ℕ, suc}
use mathlib.Core.List.{List, [], ◌∷◌}
use lib.ListN.{length}
use Rattle.format.specs.Answers.{Outcome, accepted, refused, need}
use Rattle.format.specs.Frames.{verdict}
use Rattle.format.specs.Questions.{done}
use Rattle.book.specs.declared.refusal.Fault.TheVariants as fault
use Rattle.book.proofs.Named.{Named, named_then, named_need, no_tests, more, named_first, verdict_named}
use Rattle.ledger.specs.Formats.{Correction, Entry}
use Rattle.ledger.specs.Records.{header_right, frame_in, entries_in, fits, before, history_verdict, record_verdict}
use Rattle.ledger.specs.Calls.{edit_tests, edit_answer}
use Rattle.ledger.specs.VersionTwo.{version_two}
use Rattle.ledger.specs.PlaneFrames.{plane_frames}

judge_named : (f : List ℕ) → Named (plane_frames.judge f)
unfolding plane_frames
judge_named f = go (verdict f) (verdict_named f)
  where
    go : {A : Type 0} (o : Outcome A) → Named o → Named (done o)
    go (accepted x) h = tt
    go (refused n p) h = h

history_named : (f : List ℕ) (es : List Entry) → Named (history_verdict plane_frames version_two f es)
unfolding history_verdict
history_named f [] = tt
history_named f (e ∷ es) =
    named_then (need (fits plane_frames version_two f e) 21 (suc (length es))) (λ u. history_verdict plane_frames version_two (before plane_frames f e) es)
    (named_need (fits plane_frames version_two f e) fault.Entry (suc (length es))) (λ u. history_named (before plane_frames f e) es)

record_named : (b : List ℕ) → Named (record_verdict plane_frames version_two b)
unfolding record_verdict
record_named b =
    named_first
    (more (named_need (header_right version_two b) fault.Header 0) (more (judge_named (frame_in b)) (more (history_named (frame_in b) (entries_in version_two b)) no_tests)))

pub edit_named : (b : List ℕ) (c : Correction) → Named (edit_answer plane_frames version_two b c)
unfolding edit_answer edit_tests version_two
edit_named b c =
    named_first
    (more (record_named b)
    (more tt
    (more (named_need _ fault.Target 0)
    (more (named_need _ fault.NewValue 0)
    (more (named_need _ fault.Signer 0)
    (more (named_need _ fault.Full 0)
    (more (named_need _ fault.Room 0)
    no_tests)))))))
