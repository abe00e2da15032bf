-- What the questions tell of a record after any calls: its lengths and its count, and the j-th accepted edit as it was asked, with the value that
-- stood before it.
-- Assumes nothing but the laws of the book and the format.
use Prim.Native.Nat.{ℕ, zero, suc, ◌+◌, ◌*◌, ◌<◌}
use mathlib.Core.Path.{◌≡◌, refl, ap, ◌∙◌}
use mathlib.Core.List.{List, [], ◌∷◌}
use native.Mathlib.Omega.{arith}
use lib.ListN.{length, get_or, take}
use Rattle.format.specs.Words.{Bytes}
use Rattle.format.specs.Answers.{accepted}
use Rattle.ledger.specs.Frames.{FrameBook}
use Rattle.ledger.specs.Formats.{Entry, Correction, Format, Lawful, size}
use Rattle.ledger.specs.Calls.{entry_for, record_answer, entry_answer, open_answer}
use Rattle.ledger.specs.Histories.{frame_after, entries_of, record_after, accepted_edits}
use Rattle.ledger.proofs.histories.Forward.{forward_accepted, forward_length, forward_count, forward_entries, forward_total}
use Rattle.ledger.proofs.calls.Restoring.{record_answers, entry_tells}

entries_nth : (B : FrameBook) (f : List ℕ) (cs : List Correction) (j : ℕ) (d : Correction) (x : Entry) → j < length cs
    → get_or (entries_of B f cs) j x ≡ entry_for B (frame_after B f (take j cs)) (get_or cs j d)
unfolding entries_of frame_after
entries_nth B f [] j d x h = absurd (omega arith)
entries_nth B f (c ∷ cs) zero d x h = refl
entries_nth B f (c ∷ cs) (suc j) d x h = entries_nth B (B.put f c.word c.value) cs j d x (omega arith)

module _ (B : FrameBook) (F : Format) (L : Lawful B F) (f buf : List ℕ) (y : Bytes f) (e : open_answer B F f buf ≡ accepted tt) (cs : List Correction) where
  pub record_tells : record_answer B F (record_after B F f buf cs)
      ≡ accepted (record {
        length = length f;
        count = length (accepted_edits B F f buf cs);
        total = 16 + length f + size F * length (accepted_edits B F f buf cs);
      })
  record_tells =
      record_answers B F (record_after B F f buf cs) (forward_accepted B F L f buf y e cs)
      ∙ rw (forward_total B F L f buf y e cs, forward_length B F L f buf y e cs, forward_count B F L f buf y e cs)

  pub entry_asked : (j : ℕ) (d : Correction) → j < length (accepted_edits B F f buf cs)
      → entry_answer B F (record_after B F f buf cs) (suc j)
      ≡ accepted (entry_for B (frame_after B f (take j (accepted_edits B F f buf cs))) (get_or (accepted_edits B F f buf cs) j d))
  entry_asked j d h =
      let x = entry_for B f d in
      entry_tells B F (record_after B F f buf cs) j x (forward_accepted B F L f buf y e cs) (let n = forward_count B F L f buf y e cs in omega arith)
      ∙ ap accepted (ap (λ (l : List Entry). get_or l j x) (forward_entries B F L f buf y e cs) ∙ entries_nth B f (accepted_edits B F f buf cs) j d x h)
