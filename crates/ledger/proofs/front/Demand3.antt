-- Demand 3 in the client's words, sentence by sentence, each a theorem. They hold for ANY book of frames and ANY format of entries that have the
-- laws of specs/Frames.antt and specs/Formats.antt; those of the two versions are shown lawful in plane/VersionLaws.antt. What a name means stands in
-- specs/; how a theorem is proved, in the file it cites. Nothing else is assumed.
--
-- Everywhere: `Bytes x` says that x is a list of bytes, as every lent slice is. `open_answer`, `edit_answer`, `restore_answer` are what the calls
-- answer; `open_exit`, `edit_exit`, `restore_exit` are the whole of what they leave in the buffer they may write. `record_after f buf cs` is the buffer
-- buf after f was opened in it and the edit calls cs were made, accepted or refused; `accepted_edits f buf cs` are the accepted ones, in order.
use Prim.Native.Nat.{ℕ, suc, ◌+◌, ◌*◌, ◌≤◌, ◌<◌}
use mathlib.Core.Path.{◌≡◌}
use mathlib.Core.Logic.{◌↔◌, ◌⊎◌}
use mathlib.Core.List.{List, ◌++◌, map}
use mathlib.Core.Option.{some}
use lib.ListN.{length, get_or, take, drop}
use Rattle.format.specs.Words.{Bytes}
use Rattle.format.specs.Answers.{accepted, refused}
use Rattle.format.specs.Spots.{Spot, revalued}
use Rattle.ledger.specs.Tests.{FirstRefusal, Plain}
use Rattle.ledger.specs.Frames.{FrameBook}
use Rattle.ledger.specs.Formats.{Entry, Correction, Format, Lawful, size}
use Rattle.ledger.specs.Records.{header, length_in, count_in, total_in, frame_in, entry_bytes, numbered, entries_in, record_verdict}
use Rattle.ledger.specs.Calls.{entry_for, record_answer, entry_answer, open_answer, open_exit, edit_tests, edit_answer, edit_exit, restored, restore_answer, restore_exit}
use Rattle.ledger.specs.Chains.{Header, Fits, Chain, Allowed}
use Rattle.ledger.specs.Histories.{oldest_first, bytes_of, correction_of, frame_after, entries_of, edit_all, record_after, accepted_edits, Point, Sequence}
use Rattle.ledger.proofs.calls.Opening as opening
use Rattle.ledger.proofs.calls.Editing as editing
use Rattle.ledger.proofs.calls.Changing as changing
use Rattle.ledger.proofs.records.Judging as judging
use Rattle.ledger.proofs.histories.Forward as forward
use Rattle.ledger.proofs.histories.Backward as backward
use Rattle.ledger.proofs.calls.Restoring as restoring
use Rattle.ledger.proofs.calls.Telling as telling
use Rattle.ledger.proofs.calls.Writes as writes
use Rattle.ledger.proofs.answers.Refusals as refusals

module _ (B : FrameBook) (F : Format) (L : Lawful B F) where
  -- > "Put an accepted frame into a record with no history,"
  -- every byte: header, the frame, and the buffer's own beyond
  pub put_into_a_record : (f buf : List ℕ) → open_answer B F f buf ≡ accepted tt → open_exit B F f buf ≡ header F (length f) 0 ++ (f ++ drop (16 + length f) buf)
  put_into_a_record f buf = opening.open_whole B F f buf

  -- > "then make any sequence of edit calls on it, some refused, with nothing else writing to it."
  -- the record is accepted after any of them; a refused call leaves it as it was; and the bytes beyond it are the caller's own
  pub accepted_after : (f buf : List ℕ) → Bytes f → open_answer B F f buf ≡ accepted tt → (cs : List Correction) → record_verdict B F (record_after B F f buf cs) ≡ accepted tt
  accepted_after f buf y e cs = forward.forward_accepted B F L f buf y e cs

  pub refused_edit : (b : List ℕ) (c : Correction) (n p : ℕ) → edit_answer B F b c ≡ refused n p → edit_exit B F b c ≡ b
  refused_edit b c n p = writes.edit_found B F b c n p

  pub own_beyond : (f buf : List ℕ) → Bytes f → open_answer B F f buf ≡ accepted tt → (cs : List Correction)
      → drop (total_in F (record_after B F f buf cs)) (record_after B F f buf cs) ≡ drop (total_in F (record_after B F f buf cs)) buf
  own_beyond f buf y e cs = forward.forward_rest B F L f buf y e cs

  -- > "An accepted frame is refused a record only where the buffer is too short,"
  pub opened_exactly : (f buf : List ℕ) → B.judge f ≡ accepted tt → (open_answer B F f buf ≡ accepted tt) ↔ (16 + length f ≤ length buf)
  opened_exactly f buf j = opening.open_room B F f buf j

  pub too_short : (f buf : List ℕ) → B.judge f ≡ accepted tt → length buf < 16 + length f → open_answer B F f buf ≡ refused 12 0
  too_short f buf = opening.open_no_room B F f buf

  pub refused_opening : (f buf : List ℕ) (n p : ℕ) → open_answer B F f buf ≡ refused n p → open_exit B F f buf ≡ buf
  refused_opening f buf n p = writes.open_found B F f buf n p

  -- > "and an edit only for a listed reason;"
  -- on an accepted record it is accepted exactly where no listed reason forbids it (specs/Chains.antt, `Allowed`); and any refusal is that of the
  -- first of the tests, in document 01's order (specs/Calls.antt, `edit_tests`), that refuses
  pub edited_exactly : (b : List ℕ) (c : Correction) → record_verdict B F b ≡ accepted tt → (edit_answer B F b c ≡ accepted tt) ↔ Allowed B F b c
  edited_exactly b c = editing.edit_exactly B F b c

  pub refused_by_the_first : (b : List ℕ) (c : Correction) (n p : ℕ) → (edit_answer B F b c ≡ refused n p) ↔ FirstRefusal (edit_tests B F b c) n p
  refused_by_the_first b c n p = editing.edit_refused B F b c n p

  -- so it is a record refusal (20, a frame's own, 21), one that the format asks first, or 22, 23, 24, 25, 12 at place 0
  pub listed_reasons : (b : List ℕ) (c : Correction) (n p : ℕ) → edit_answer B F b c ≡ refused n p
      → (record_verdict B F b ≡ refused n p)
      ⊎ ((F.asked c.extra ≡ refused n p) ⊎ (Plain 22 n p ⊎ (Plain 23 n p ⊎ (Plain 24 n p ⊎ (Plain 25 n p ⊎ Plain 12 n p)))))
  listed_reasons b c n p = refusals.edit_refusals B F b c n p

  -- > "otherwise the edit puts the value asked for in the item asked for and nowhere else in the frame."
  pub value_there : (b : List ℕ) (c : Correction) → Bytes b → edit_answer B F b c ≡ accepted tt
      → (s : Spot) → B.spot (frame_in b) c.word ≡ some s → B.spot (frame_in (edit_exit B F b c)) c.word ≡ some (revalued s c.value)
  value_there b c y e s q = changing.edit_there B F L b c y e s q

  pub nowhere_else : (b : List ℕ) (c : Correction) → Bytes b → edit_answer B F b c ≡ accepted tt
      → (w : ℕ) → (w ≡ c.word → ⊥) → B.spot (frame_in (edit_exit B F b c)) w ≡ B.spot (frame_in b) w
  nowhere_else b c y e = changing.edit_elsewhere B F L b c y e

  -- every byte: header, the frame with the value put, the entries that stood, the new one, and the buffer's own beyond
  pub edited_bytes : (b : List ℕ) (c : Correction) → Bytes b → edit_answer B F b c ≡ accepted tt
      → edit_exit B F b c
      ≡ header F (length_in b) (suc (count_in b))
      ++ (B.put (frame_in b) c.word c.value
      ++ (take (size F * count_in b) (drop (16 + length_in b) b) ++ (entry_bytes F (entry_for B (frame_in b) c) ++ drop (total_in F b + size F) b)))
  edited_bytes b c y e = changing.edit_whole B F L b c y e

  -- > "For every number k from 0 to the count of accepted edits, restoring to k, into a buffer with room, gives the exact frame that stood after
  -- > the k-th accepted edit;"
  -- for every such k there is a point among the calls with k accepted before it; and at every such point, whatever calls followed, restoring to
  -- k is accepted and gives the frame that stood in the record at that point, and leaves the rest of the second buffer
  pub point_for_every_k : (f buf : List ℕ) (cs : List Correction) (k : ℕ) → k ≤ length (accepted_edits B F f buf cs) → Point B F (open_exit B F f buf) cs k
  point_for_every_k f buf cs k = forward.point B F (open_exit B F f buf) cs k

  pub restores_what_stood : (f buf : List ℕ) → Bytes f → open_answer B F f buf ≡ accepted tt → (earlier later : List Correction) (out : List ℕ)
      → length f ≤ length out
      → (restore_answer B F (record_after B F f buf (earlier ++ later)) (length (accepted_edits B F f buf earlier)) out ≡ accepted tt)
      × (restore_exit B F (record_after B F f buf (earlier ++ later)) (length (accepted_edits B F f buf earlier)) out
      ≡ frame_in (record_after B F f buf earlier) ++ drop (length f) out)
  restores_what_stood f buf y e earlier later out r = forward.stood B F L f buf y e earlier later out r

  -- the same in other words: it is the frame f after the first k of the accepted edits
  pub restores_to_k : (f buf : List ℕ) → Bytes f → open_answer B F f buf ≡ accepted tt → (cs : List Correction) (k : ℕ) (out : List ℕ)
      → k ≤ length (accepted_edits B F f buf cs) → length f ≤ length out
      → (restore_answer B F (record_after B F f buf cs) k out ≡ accepted tt)
      × (restore_exit B F (record_after B F f buf cs) k out ≡ frame_after B f (take k (accepted_edits B F f buf cs)) ++ drop (length f) out)
  restores_to_k f buf y e cs k out h r = forward.forward_restores B F L f buf y e cs k out h r

  -- > "k = 0 gives the frame as recorded."
  pub restores_as_recorded : (f buf : List ℕ) → Bytes f → open_answer B F f buf ≡ accepted tt → (cs : List Correction) (out : List ℕ)
      → length f ≤ length out → restore_exit B F (record_after B F f buf cs) 0 out ≡ f ++ drop (length f) out
  restores_as_recorded f buf y e cs out r = forward.forward_first B F L f buf y e cs out r

  -- above the count 26, into a buffer without room 12; and a refused restore leaves that buffer
  pub no_entry : (f buf : List ℕ) → Bytes f → open_answer B F f buf ≡ accepted tt → (cs : List Correction) (k : ℕ) (out : List ℕ)
      → length (accepted_edits B F f buf cs) < k → restore_answer B F (record_after B F f buf cs) k out ≡ refused 26 0
  no_entry f buf y e cs k out h = forward.forward_no_entry B F L f buf y e cs k out h

  pub no_room : (f buf : List ℕ) → Bytes f → open_answer B F f buf ≡ accepted tt → (cs : List Correction) (k : ℕ) (out : List ℕ)
      → k ≤ length (accepted_edits B F f buf cs) → length out < length f → restore_answer B F (record_after B F f buf cs) k out ≡ refused 12 0
  no_room f buf y e cs k out h r = forward.forward_no_room B F L f buf y e cs k out h r

  pub refused_restore : (b : List ℕ) (k : ℕ) (out : List ℕ) (n p : ℕ) → restore_answer B F b k out ≡ refused n p → restore_exit B F b k out ≡ out
  refused_restore b k out n p = writes.restore_found B F b k out n p

  -- > "The history holds those edits in order and nothing more."
  -- as many entries as accepted edits, and they are, oldest first, those that these make, each with the value that stood before it
  pub history_count : (f buf : List ℕ) → Bytes f → open_answer B F f buf ≡ accepted tt → (cs : List Correction)
      → count_in (record_after B F f buf cs) ≡ length (accepted_edits B F f buf cs)
  history_count f buf y e cs = forward.forward_count B F L f buf y e cs

  pub history_in_order : (f buf : List ℕ) → Bytes f → open_answer B F f buf ≡ accepted tt → (cs : List Correction)
      → oldest_first (entries_in F (record_after B F f buf cs)) ≡ entries_of B f (accepted_edits B F f buf cs)
  history_in_order f buf y e cs = forward.forward_entries B F L f buf y e cs

  -- every byte of the buffer: header, the frame after the accepted edits, their entries in order, and the caller's own beyond
  pub whole_record : (f buf : List ℕ) → Bytes f → open_answer B F f buf ≡ accepted tt → (cs : List Correction)
      → record_after B F f buf cs
      ≡ header F (length f) (length (accepted_edits B F f buf cs))
      ++ (frame_after B f (accepted_edits B F f buf cs)
      ++ (bytes_of F (entries_of B f (accepted_edits B F f buf cs)) ++ drop (16 + length f + size F * length (accepted_edits B F f buf cs)) buf))
  whole_record f buf y e cs = forward.forward_whole B F L f buf y e cs

  -- and the entry question tells them by their numbers, from 1
  pub entry_told : (b : List ℕ) (j : ℕ) (d : Entry) → record_verdict B F b ≡ accepted tt → j < count_in b
      → entry_answer B F b (suc j) ≡ accepted (get_or (oldest_first (entries_in F b)) j d)
  entry_told b j d v h = restoring.entry_tells B F b j d v h

  -- so of a record after any calls: the record question tells its lengths and the count, and the entry question the j-th accepted edit as it was
  -- asked, with the kind and the value that stood there before it
  pub record_told : (f buf : List ℕ) → Bytes f → open_answer B F f buf ≡ accepted tt → (cs : List Correction)
      → record_answer B F (record_after B F f buf cs)
      ≡ accepted (record {
        length = length f;
        count = length (accepted_edits B F f buf cs);
        total = 16 + length f + size F * length (accepted_edits B F f buf cs);
      })
  record_told f buf y e cs = telling.record_tells B F L f buf y e cs

  pub entry_asked : (f buf : List ℕ) → Bytes f → open_answer B F f buf ≡ accepted tt → (cs : List Correction) (j : ℕ) (d : Correction)
      → j < length (accepted_edits B F f buf cs)
      → entry_answer B F (record_after B F f buf cs) (suc j)
      ≡ accepted (entry_for B (frame_after B f (take j (accepted_edits B F f buf cs))) (get_or (accepted_edits B F f buf cs) j d))
  entry_asked f buf y e cs j d h = telling.entry_asked B F L f buf y e cs j d h

  -- > "And a record is accepted exactly when some such sequence makes its bytes."
  pub accepted_exactly : (b : List ℕ) → Bytes b → (record_verdict B F b ≡ accepted tt) ↔ Sequence B F b
  accepted_exactly b y = backward.accepted_exactly B F L b y

  -- more than that: the frame that it restores to, opened in that very buffer, and its own entries as calls, all accepted, make every byte of it
  pub made_again : (b : List ℕ) → Bytes b → record_verdict B F b ≡ accepted tt
      → (open_answer B F (restored B F b 0) b ≡ accepted tt)
      × (record_after B F (restored B F b 0) b (map correction_of (oldest_first (entries_in F b))) ≡ b)
      × (accepted_edits B F (restored B F b 0) b (map correction_of (oldest_first (entries_in F b))) ≡ map correction_of (oldest_first (entries_in F b)))
  made_again b y e = backward.backward_again B F L b y e

  -- so calls on any accepted record are calls that follow its own history, and every sentence above holds of them too
  pub continued : (b : List ℕ) → Bytes b → record_verdict B F b ≡ accepted tt → (cs : List Correction)
      → edit_all B F b cs ≡ record_after B F (restored B F b 0) b (map correction_of (oldest_first (entries_in F b)) ++ cs)
  continued b y e cs = backward.backward_continues B F L b y e cs

  -- and no other frame and no other accepted edits make it
  pub the_only_ones : (b : List ℕ) (S : Sequence B F b)
      → (S.origin ≡ restored B F b 0) × (accepted_edits B F S.origin S.buffer S.calls ≡ map correction_of (oldest_first (entries_in F b)))
  the_only_ones b S = backward.sequence_only B F L b S

  -- ---- what an accepted record is, with no word of calls (document 01, "A record is tested")
  -- a right header, an accepted frame, and a chain of frames from the one that stands back to the first, the only one
  pub accepted_record : (b : List ℕ)
      → (record_verdict B F b ≡ accepted tt) ↔ (Header F b × (B.judge (frame_in b) ≡ accepted tt) × ((f : ℕ → List ℕ) × Chain B F b 0 f))
  accepted_record b = judging.record_chain B F b

  pub one_chain : (b : List ℕ) (low : ℕ) (f g : ℕ → List ℕ) → Chain B F b low f → Chain B F b low g → (j : ℕ) → low ≤ j → j ≤ count_in b → f j ≡ g j
  one_chain b low f g = judging.chain_unique B F b low f g

  -- else 20; or the frame's own refusal; or 21 with the number of the newest entry that does not fit
  pub wrong_header : (b : List ℕ) → (Header F b → ⊥) → record_verdict B F b ≡ refused 20 0
  wrong_header b = judging.header_refused B F b

  pub refused_frame : (b : List ℕ) (n p : ℕ) → Header F b → B.judge (frame_in b) ≡ refused n p → record_verdict B F b ≡ refused n p
  refused_frame b n p = judging.frame_refused B F b n p

  pub unfit_entry : (b : List ℕ) (j : ℕ) → Header F b → B.judge (frame_in b) ≡ accepted tt
      → (record_verdict B F b ≡ refused 21 j) ↔ ((1 ≤ j) × (j ≤ count_in b) × ((f : ℕ → List ℕ) × Chain B F b j f × (Fits B F (f j) (numbered F b j) → ⊥)))
  unfit_entry b j h a = judging.entry_refused B F b j h a
