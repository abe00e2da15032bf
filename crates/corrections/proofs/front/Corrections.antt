-- Document 02, request 2, "Many corrections in one call", sentence by sentence: of the answer of `edit_all` and of the buffer that it leaves, against
-- calls of `edit` made singly. `CorrectedAll` (specs/Promises.antt) is what the function's contract says, `Edited`, `Opened`, `Restored` and `Calls`
-- are editor's.
-- Assumes nothing.
use Prim.Native.Nat.{ℕ, suc, ◌+◌, ◌*◌, ◌≤◌}
use mathlib.Core.Path.{◌≡◌}
use mathlib.Core.Logic.{◌↔◌, ◌⊎◌}
use mathlib.Core.List.{List, [], ◌++◌, map}
use lib.ListN.{length, take, drop}
use Rattle.std.specs.Prelude.{Result, Ok}
use Rattle.format.specs.Words.{Bytes}
use Rattle.book.specs.declared.refusal.Refusal.{Refusal}
use Rattle.book.specs.Refusals.{number_of}
use Rattle.ledger.specs.Tests.{Plain}
use Rattle.ledger.specs.Records.{entries_in}
use Rattle.ledger.specs.Histories.{oldest_first}
use Rattle.ledger.specs.VersionTwo.{version_two}
use Rattle.ledger.specs.Versions.{v2}
use Rattle.ledger.specs.Layout.{header_for, history_written}
use Rattle.records.specs.declared.answers.Record.{Record}
use Rattle.records.specs.Promises.{Recorded}
use Rattle.editor.specs.declared.editing.Correction.{Correction}
use Rattle.editor.specs.Views as edits
use Rattle.editor.specs.Views.{view_done, asked}
use Rattle.editor.specs.Promises.{Opened, Restored}
use Rattle.editor.specs.Sequences.{Calls, made_by, corrected, entries_for}
use Rattle.corrections.specs.Views.{Answer, stopped_at, view_corrected}
use Rattle.corrections.specs.Promises.{CorrectedAll}
use Rattle.corrections.specs.Singly.{accepts, StoppedAt, tried, replies, standing, behind, Call, Mixed, asked_by, answers_to, made_in}
use Rattle.corrections.proofs.SinglyLaws as law
use Rattle.corrections.proofs.MixedLaws as mixed

-- > "Take a lent list of corrections (word index, new value, operator, reason) and apply it in order."
-- it accepts the list and leaves e exactly where the single calls, in order, are all accepted and leave e
pub made_exactly : (b : List ℕ) (cs : List Correction) (e : List ℕ) → CorrectedAll b (map asked cs) (view_corrected (Ok tt)) e ↔ Calls b cs (accepts (length cs)) e
made_exactly = law.made_exactly

-- > "It stops at the first refusal and returns its position (from 0); the earlier ones stand,"
-- it answers position i with a refusal and leaves e exactly where the single calls before position i are all accepted and leave e, and the one at
-- position i is refused there by that number and place. This is the exception to demand 1, and all that a stopped call has changed: e is the buffer
-- with the earlier corrections made, and nothing of the refused one and those behind it
pub stopped_exactly : (b : List ℕ) (cs : List Correction) (e : List ℕ) (i : ℕ) (q : Refusal)
    → CorrectedAll b (map asked cs) (view_corrected (stopped_at i q)) e ↔ StoppedAt b cs i q e
stopped_exactly = law.stopped_exactly

-- so a call that stops at the first correction has changed nothing
pub stopped_first : (b : List ℕ) (cs : List Correction) (q : Refusal) (e : List ℕ) → CorrectedAll b (map asked cs) (view_corrected (stopped_at 0 q)) e → e ≡ b
stopped_first = law.stopped_first

-- > "and record and answers equal making the calls singly."
-- the corrections that were tried, made singly, are answered so and leave the same buffer; those among them that were made are the whole list, or the
-- part before the position
pub made_singly : (b : List ℕ) (cs : List Correction) (r : Answer) (e : List ℕ) → CorrectedAll b (map asked cs) (view_corrected r) e → Calls b (tried cs r) (replies cs r) e
made_singly = law.singly

pub made_of_list : (cs : List Correction) (r : Answer) → made_by (tried cs r) (replies cs r) ≡ standing cs r
made_of_list = law.standing_made

-- > "An empty list is accepted and changes nothing, whatever the record holds."
pub empty_list : (b : List ℕ) (r : Answer) (e : List ℕ) → CorrectedAll b [] (view_corrected r) e → (r ≡ Ok tt) × (e ≡ b)
empty_list = law.empty_list

-- > "Refusals: those of a single edit."
-- at the first correction any of them; behind it, since a correction that was made leaves an accepted record, only those of the correction itself, at place 0
pub later_refusals : (b : List ℕ) → Bytes b → (cs : List Correction) (i : ℕ) (q : Refusal) (e : List ℕ) → CorrectedAll b (map asked cs) (view_corrected (stopped_at (suc i) q)) e
    → Plain 22 (number_of q.fault) q.place ⊎ (Plain 23 (number_of q.fault) q.place ⊎ (Plain 24 (number_of q.fault) q.place ⊎ (Plain 25 (number_of q.fault) q.place ⊎ Plain 12 (number_of q.fault) q.place)))
later_refusals = law.later_refusals

-- a list in two halves: behind a first half that was made the second does what it does alone, its positions counted on; behind one that stopped nothing
-- of it is done
pub halves_made : (b m e : List ℕ) (cs ds : List Correction) (r : Answer) → CorrectedAll b (map asked cs) (view_corrected (Ok tt)) m
    → CorrectedAll m (map asked ds) (view_corrected r) e → CorrectedAll b (map asked (cs ++ ds)) (view_corrected (behind (length cs) r)) e
halves_made = law.halves_made

pub halves_stopped : (b m : List ℕ) (cs ds : List Correction) (i : ℕ) (q : Refusal) → CorrectedAll b (map asked cs) (view_corrected (stopped_at i q)) m
    → CorrectedAll b (map asked (cs ++ ds)) (view_corrected (stopped_at i q)) m
halves_stopped = law.halves_stopped

-- ---- with demand 3
-- > "Put an accepted frame into a record with no history, then make any sequence of edit calls on it, some refused, with nothing else writing to it."
-- calls of `edit` and of `edit_all`, in any order: they are calls of `edit`, and what editor's page says of those holds of them
pub sequence_singly : (b : List ℕ) (ks : List Call) (e : List ℕ) → Mixed b ks e → Calls b (asked_by ks) (answers_to ks) e
sequence_singly b ks e k = mixed.made_singly k

pub sequence_made : (b : List ℕ) (ks : List Call) (e : List ℕ) → Mixed b ks e → made_by (asked_by ks) (answers_to ks) ≡ made_in ks
sequence_made b ks e k = mixed.made_in_lem k

-- in its words: the record after them tells as many entries as corrections were made, by lists or singly
module _ (f buf : List ℕ) (y : Bytes f) (b : List ℕ) (o : Opened f buf (view_done (Ok tt)) b) (ks : List Call) (e : List ℕ) (k : Mixed b ks e) where
  pub record_told : (r : Result Record Refusal) → Recorded e r
      → r ≡ Ok (record { length = length f; count = length (made_in ks); total = 16 + length f + 24 * length (made_in ks) })
  record_told = mixed.record_told f buf y b o ks e k

  -- every byte of the buffer
  pub whole_record : e
      ≡ header_for v2 (length f) (length (made_in ks)) ++ (corrected f (made_in ks) ++ (history_written v2 (entries_for f (made_in ks)) ++ drop (16 + length f + 24 * length (made_in ks)) buf))
  whole_record = mixed.whole_record f buf y b o ks e k

  -- > "restoring to k, into a buffer with room, gives the exact frame that stood after the k-th accepted edit"
  pub restores_to : (n : ℕ) (out : List ℕ) (r : edits.Answer) (left : List ℕ) → Restored e n out (view_done r) left → n ≤ length (made_in ks) → length f ≤ length out
      → (r ≡ Ok tt) × (left ≡ corrected f (take n (made_in ks)) ++ drop (length f) out)
  restores_to = mixed.restores_to f buf y b o ks e k

  -- > "The history holds those edits in order and nothing more."
  pub history_in_order : oldest_first (entries_in version_two e) ≡ entries_for f (made_in ks)
  history_in_order = mixed.history_in_order f buf y b o ks e k
