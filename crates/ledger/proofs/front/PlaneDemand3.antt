-- Demand 3 of document 01's frames and the entries of BOTH versions, in the client's words: Demand3's theorems at `plane_frames` and `format_of v`, with
-- nothing left open. At `v2` these are the calls of today; at `v1` the questions and restoring are, and opening and edits are those of the old
-- editor, kept as these definitions (document 02, request 3: "for version 1 its opening and edits are those of the old editor, over the present
-- book"). An accepted frame is one that the frame judge accepts, `verdict f ≡ accepted g`, and what stands in it is said by its items.
--
-- Everywhere: `Bytes x` says that x is a list of bytes, as every lent slice is. `open_answer`, `edit_answer`, `restore_answer` are what the calls
-- answer; `open_exit`, `edit_exit`, `restore_exit` are the whole of what they leave in the buffer they may write. `record_after f buf cs` is the buffer
-- buf after f was opened in it and the edit calls cs were made, accepted or refused; `accepted_edits f buf cs` are the accepted ones, in order. What a
-- correction gives beside operator and reason is `Asks v`: nothing in version 1, a time in version 2. Assumes nothing.
use Prim.Native.Nat.{ℕ, suc, ◌+◌, ◌*◌, ◌≤◌, ◌<◌}
use mathlib.Core.Path.{◌≡◌}
use mathlib.Core.Logic.{◌↔◌, ◌⊎◌}
use mathlib.Core.List.{List, ◌∷◌, ◌++◌, map}
use mathlib.Core.Option.{some}
use lib.ListN.{length, get_or, take, drop}
use Rattle.format.specs.Words.{Bytes, word_at}
use Rattle.format.specs.Answers.{accepted, refused}
use Rattle.format.specs.Faults.{Refused}
use Rattle.format.specs.Frames.{Frame, verdict}
use Rattle.format.specs.Spots.{Spot, spot, put, revalued, with_value, SpotIs, with_items}
use Rattle.ledger.specs.Tests.{Plain}
use Rattle.ledger.specs.Formats.{Entry, Correction}
use Rattle.ledger.specs.Records.{count_in, frame_in, entries_in, record_verdict}
use Rattle.ledger.specs.Calls.{entry_for, record_answer, entry_answer, open_answer, open_exit, edit_answer, edit_exit, restored, restore_answer, restore_exit}
use Rattle.ledger.specs.Histories.{oldest_first, correction_of, frame_after, entries_of, edit_all, record_after, accepted_edits, Point, Sequence}
use Rattle.ledger.specs.Versions.{Version, format_of}
use Rattle.ledger.specs.PlaneFrames.{plane_frames, Asks, Free}
use Rattle.ledger.specs.Layout.{entry_size, total_length, frame_of, header_for, entry_written, history_written}
use Rattle.ledger.specs.Reasons.{HeaderBroken, Back, NewestUnfit, RecordRefused, of_header, of_frame, OpenRefused, EditRefused, RestoreRefused, EntryRefused}
use Rattle.ledger.proofs.answers.AnswersDue as due
use Rattle.ledger.proofs.front.Demand3 as demand3
use Rattle.ledger.proofs.plane.PlaneFrames.{judges, plane_lawful}
use Rattle.ledger.proofs.plane.PlaneEdits as edits

module _ (v : Version) where
  -- > "Put an accepted frame into a record with no history,"
  pub put_into_a_record : (f buf : List ℕ) → open_answer plane_frames (format_of v) f buf ≡ accepted tt
      → open_exit plane_frames (format_of v) f buf ≡ header_for v (length f) 0 ++ (f ++ drop (16 + length f) buf)
  put_into_a_record = edits.open_laid v

  -- > "then make any sequence of edit calls on it, some refused, with nothing else writing to it."
  pub accepted_after : (f buf : List ℕ) → Bytes f → open_answer plane_frames (format_of v) f buf ≡ accepted tt → (cs : List Correction)
      → record_verdict plane_frames (format_of v) (record_after plane_frames (format_of v) f buf cs) ≡ accepted tt
  accepted_after = demand3.accepted_after plane_frames (format_of v) (plane_lawful v)

  pub refused_edit : (b : List ℕ) (c : Correction) (n p : ℕ) → edit_answer plane_frames (format_of v) b c ≡ refused n p → edit_exit plane_frames (format_of v) b c ≡ b
  refused_edit = demand3.refused_edit plane_frames (format_of v) (plane_lawful v)

  -- the bytes beyond the record are the caller's own
  pub own_beyond : (f buf : List ℕ) → Bytes f → open_answer plane_frames (format_of v) f buf ≡ accepted tt → (cs : List Correction)
      → drop (total_length v (record_after plane_frames (format_of v) f buf cs)) (record_after plane_frames (format_of v) f buf cs) ≡ drop (total_length v (record_after plane_frames (format_of v) f buf cs)) buf
  own_beyond = edits.beyond_laid v

  -- > "An accepted frame is refused a record only where the buffer is too short,"
  pub opened_exactly : (f buf : List ℕ) (g : Frame) → verdict f ≡ accepted g → (open_answer plane_frames (format_of v) f buf ≡ accepted tt) ↔ (16 + length f ≤ length buf)
  opened_exactly f buf g j = demand3.opened_exactly plane_frames (format_of v) (plane_lawful v) f buf (judges f g j)

  pub too_short : (f buf : List ℕ) (g : Frame) → verdict f ≡ accepted g → length buf < 16 + length f → open_answer plane_frames (format_of v) f buf ≡ refused 12 0
  too_short f buf g j = demand3.too_short plane_frames (format_of v) (plane_lawful v) f buf (judges f g j)

  -- every refusal of an opening, exactly: the frame's own, then 12 (specs/Reasons.antt, `OpenRefused`)
  pub opening_refused : (f buf : List ℕ) → Bytes f → (n p : ℕ) → (open_answer plane_frames (format_of v) f buf ≡ refused n p) ↔ OpenRefused f buf n p
  opening_refused = due.open_refused_by v

  pub refused_opening : (f buf : List ℕ) (n p : ℕ) → open_answer plane_frames (format_of v) f buf ≡ refused n p → open_exit plane_frames (format_of v) f buf ≡ buf
  refused_opening = demand3.refused_opening plane_frames (format_of v) (plane_lawful v)

  -- > "and an edit only for a listed reason;"
  -- accepted exactly where none of document 01's reasons forbids it (specs/PlaneFrames.antt, `Free`)
  pub edited_exactly : (b : List ℕ) (c : Correction) → Bytes b → Asks v c.extra → record_verdict plane_frames (format_of v) b ≡ accepted tt
      → (edit_answer plane_frames (format_of v) b c ≡ accepted tt) ↔ Free v b c
  edited_exactly = edits.edit_free v

  -- else refused by the first that is broken, in document 01's order: record refusals, 22, 23, 24, 25, 12 (specs/Reasons.antt, `EditRefused`)
  pub refused_by_the_first : (b : List ℕ) → Bytes b → (c : Correction) → Asks v c.extra → (n p : ℕ) → (edit_answer plane_frames (format_of v) b c ≡ refused n p) ↔ EditRefused v b c n p
  refused_by_the_first = due.edit_refused_by v

  pub listed_reasons : (b : List ℕ) (c : Correction) (n p : ℕ) → edit_answer plane_frames (format_of v) b c ≡ refused n p
      → (record_verdict plane_frames (format_of v) b ≡ refused n p) ⊎ (Plain 22 n p ⊎ (Plain 23 n p ⊎ (Plain 24 n p ⊎ (Plain 25 n p ⊎ Plain 12 n p))))
  listed_reasons = edits.edit_reasons v

  -- > "otherwise the edit puts the value asked for in the item asked for and nowhere else in the frame."
  -- the frame keeps kind, card, sequence word and items but for the value of the item at that word
  pub value_put : (b : List ℕ) (c : Correction) → Bytes b → edit_answer plane_frames (format_of v) b c ≡ accepted tt → (f : Frame) → verdict (frame_in b) ≡ accepted f
      → (p : Spot) (is : SpotIs f.items c.word p)
      → verdict (frame_in (edit_exit plane_frames (format_of v) b c)) ≡ accepted (with_items f (is.before ++ (with_value is.item c.value ∷ is.after)))
  value_put = edits.edit_items v

  -- and there is such an item, in such a frame
  pub item_asked : (b : List ℕ) (c : Correction) → Bytes b → edit_answer plane_frames (format_of v) b c ≡ accepted tt
      → (f : Frame) × (verdict (frame_in b) ≡ accepted f) × ((p : Spot) × SpotIs f.items c.word p)
  item_asked = edits.edit_stands v

  -- so the value asked for stands at that word, and every other Sample and Bin is as it was
  pub value_there : (b : List ℕ) (c : Correction) → Bytes b → edit_answer plane_frames (format_of v) b c ≡ accepted tt
      → (p : Spot) → spot (frame_in b) c.word ≡ some p → spot (frame_in (edit_exit plane_frames (format_of v) b c)) c.word ≡ some (revalued p c.value)
  value_there = edits.edit_there v

  pub nowhere_else : (b : List ℕ) (c : Correction) → Bytes b → edit_answer plane_frames (format_of v) b c ≡ accepted tt
      → (w : ℕ) → (w ≡ c.word → ⊥) → spot (frame_in (edit_exit plane_frames (format_of v) b c)) w ≡ spot (frame_in b) w
  nowhere_else = edits.edit_elsewhere v

  -- every byte: header, the frame with the value put, the entries that stood, the new one, and the buffer's own beyond
  pub edited_bytes : (b : List ℕ) (c : Correction) → Bytes b → edit_answer plane_frames (format_of v) b c ≡ accepted tt
      → edit_exit plane_frames (format_of v) b c
      ≡ header_for v (word_at b 3) (suc (word_at b 5))
      ++ (put (frame_of b) c.word c.value
      ++ (take (entry_size v * word_at b 5) (drop (16 + word_at b 3) b) ++ (entry_written v (entry_for plane_frames (frame_of b) c) ++ drop (total_length v b + entry_size v) b)))
  edited_bytes = edits.edit_bytes v

  -- > "For every number k from 0 to the count of accepted edits, restoring to k, into a buffer with room, gives the exact frame that stood after
  -- > the k-th accepted edit;"
  pub point_for_every_k : (f buf : List ℕ) (cs : List Correction) (k : ℕ) → k ≤ length (accepted_edits plane_frames (format_of v) f buf cs)
      → Point plane_frames (format_of v) (open_exit plane_frames (format_of v) f buf) cs k
  point_for_every_k = demand3.point_for_every_k plane_frames (format_of v) (plane_lawful v)

  pub restores_what_stood : (f buf : List ℕ) → Bytes f → open_answer plane_frames (format_of v) f buf ≡ accepted tt → (earlier later : List Correction) (out : List ℕ)
      → length f ≤ length out
      → (restore_answer plane_frames (format_of v) (record_after plane_frames (format_of v) f buf (earlier ++ later)) (length (accepted_edits plane_frames (format_of v) f buf earlier)) out ≡ accepted tt)
      × (restore_exit plane_frames (format_of v) (record_after plane_frames (format_of v) f buf (earlier ++ later)) (length (accepted_edits plane_frames (format_of v) f buf earlier)) out
      ≡ frame_in (record_after plane_frames (format_of v) f buf earlier) ++ drop (length f) out)
  restores_what_stood = demand3.restores_what_stood plane_frames (format_of v) (plane_lawful v)

  pub restores_to_k : (f buf : List ℕ) → Bytes f → open_answer plane_frames (format_of v) f buf ≡ accepted tt → (cs : List Correction) (k : ℕ) (out : List ℕ)
      → k ≤ length (accepted_edits plane_frames (format_of v) f buf cs) → length f ≤ length out
      → (restore_answer plane_frames (format_of v) (record_after plane_frames (format_of v) f buf cs) k out ≡ accepted tt)
      × (restore_exit plane_frames (format_of v) (record_after plane_frames (format_of v) f buf cs) k out ≡ frame_after plane_frames f (take k (accepted_edits plane_frames (format_of v) f buf cs)) ++ drop (length f) out)
  restores_to_k = demand3.restores_to_k plane_frames (format_of v) (plane_lawful v)

  -- > "k = 0 gives the frame as recorded."
  pub restores_as_recorded : (f buf : List ℕ) → Bytes f → open_answer plane_frames (format_of v) f buf ≡ accepted tt → (cs : List Correction) (out : List ℕ)
      → length f ≤ length out → restore_exit plane_frames (format_of v) (record_after plane_frames (format_of v) f buf cs) 0 out ≡ f ++ drop (length f) out
  restores_as_recorded = demand3.restores_as_recorded plane_frames (format_of v) (plane_lawful v)

  -- above the count 26, into a buffer without room 12; and a refused restore leaves that buffer
  pub no_entry : (f buf : List ℕ) → Bytes f → open_answer plane_frames (format_of v) f buf ≡ accepted tt → (cs : List Correction) (k : ℕ) (out : List ℕ)
      → length (accepted_edits plane_frames (format_of v) f buf cs) < k → restore_answer plane_frames (format_of v) (record_after plane_frames (format_of v) f buf cs) k out ≡ refused 26 0
  no_entry = demand3.no_entry plane_frames (format_of v) (plane_lawful v)

  pub no_room : (f buf : List ℕ) → Bytes f → open_answer plane_frames (format_of v) f buf ≡ accepted tt → (cs : List Correction) (k : ℕ) (out : List ℕ)
      → k ≤ length (accepted_edits plane_frames (format_of v) f buf cs) → length out < length f → restore_answer plane_frames (format_of v) (record_after plane_frames (format_of v) f buf cs) k out ≡ refused 12 0
  no_room = demand3.no_room plane_frames (format_of v) (plane_lawful v)

  -- every refusal of a restore, exactly: record refusals, 26, 12 (specs/Reasons.antt, `RestoreRefused`)
  pub restore_refused : (b : List ℕ) → Bytes b → (k : ℕ) (out : List ℕ) (n p : ℕ) → (restore_answer plane_frames (format_of v) b k out ≡ refused n p) ↔ RestoreRefused v b k out n p
  restore_refused = due.restore_refused v

  pub refused_restore : (b : List ℕ) (k : ℕ) (out : List ℕ) (n p : ℕ) → restore_answer plane_frames (format_of v) b k out ≡ refused n p → restore_exit plane_frames (format_of v) b k out ≡ out
  refused_restore = demand3.refused_restore plane_frames (format_of v) (plane_lawful v)

  -- > "The history holds those edits in order and nothing more."
  pub history_count : (f buf : List ℕ) → Bytes f → open_answer plane_frames (format_of v) f buf ≡ accepted tt → (cs : List Correction)
      → count_in (record_after plane_frames (format_of v) f buf cs) ≡ length (accepted_edits plane_frames (format_of v) f buf cs)
  history_count = demand3.history_count plane_frames (format_of v) (plane_lawful v)

  pub history_in_order : (f buf : List ℕ) → Bytes f → open_answer plane_frames (format_of v) f buf ≡ accepted tt → (cs : List Correction)
      → oldest_first (entries_in (format_of v) (record_after plane_frames (format_of v) f buf cs)) ≡ entries_of plane_frames f (accepted_edits plane_frames (format_of v) f buf cs)
  history_in_order = demand3.history_in_order plane_frames (format_of v) (plane_lawful v)

  -- every byte of the buffer: header, the frame after the accepted edits, their entries in order, and the caller's own beyond
  pub whole_record : (f buf : List ℕ) → Bytes f → open_answer plane_frames (format_of v) f buf ≡ accepted tt → (cs : List Correction)
      → record_after plane_frames (format_of v) f buf cs
      ≡ header_for v (length f) (length (accepted_edits plane_frames (format_of v) f buf cs))
      ++ (frame_after plane_frames f (accepted_edits plane_frames (format_of v) f buf cs)
      ++ (history_written v (entries_of plane_frames f (accepted_edits plane_frames (format_of v) f buf cs)) ++ drop (16 + length f + entry_size v * length (accepted_edits plane_frames (format_of v) f buf cs)) buf))
  whole_record = edits.record_whole v

  -- and the entry question tells them by their numbers, from 1; it refuses by the record's refusals and by 26
  pub entry_told : (b : List ℕ) (j : ℕ) (d : Entry) → record_verdict plane_frames (format_of v) b ≡ accepted tt → j < count_in b
      → entry_answer plane_frames (format_of v) b (suc j) ≡ accepted (get_or (oldest_first (entries_in (format_of v) b)) j d)
  entry_told = demand3.entry_told plane_frames (format_of v) (plane_lawful v)

  -- of a record after any calls: its lengths and the count, and the j-th accepted edit as it was asked, with the kind and the value that stood
  -- there before it
  pub record_told : (f buf : List ℕ) → Bytes f → open_answer plane_frames (format_of v) f buf ≡ accepted tt → (cs : List Correction)
      → record_answer plane_frames (format_of v) (record_after plane_frames (format_of v) f buf cs)
      ≡ accepted (record {
        length = length f;
        count = length (accepted_edits plane_frames (format_of v) f buf cs);
        total = 16 + length f + entry_size v * length (accepted_edits plane_frames (format_of v) f buf cs);
      })
  record_told = edits.record_tells v

  pub entry_asked : (f buf : List ℕ) → Bytes f → open_answer plane_frames (format_of v) f buf ≡ accepted tt → (cs : List Correction) (j : ℕ) (d : Correction)
      → j < length (accepted_edits plane_frames (format_of v) f buf cs)
      → entry_answer plane_frames (format_of v) (record_after plane_frames (format_of v) f buf cs) (suc j)
      ≡ accepted (entry_for plane_frames (frame_after plane_frames f (take j (accepted_edits plane_frames (format_of v) f buf cs))) (get_or (accepted_edits plane_frames (format_of v) f buf cs) j d))
  entry_asked = demand3.entry_asked plane_frames (format_of v) (plane_lawful v)

  -- where a Sample or Bin stood
  pub item_stood : (f buf : List ℕ) → Bytes f → open_answer plane_frames (format_of v) f buf ≡ accepted tt → (cs : List Correction) (j : ℕ) (d : Correction)
      → j < length (accepted_edits plane_frames (format_of v) f buf cs)
      → (p : Spot) × (spot (frame_after plane_frames f (take j (accepted_edits plane_frames (format_of v) f buf cs))) (get_or (accepted_edits plane_frames (format_of v) f buf cs) j d).word ≡ some p)
  item_stood = edits.item_stood v

  pub entry_refused : (b : List ℕ) → Bytes b → (j n p : ℕ) → (entry_answer plane_frames (format_of v) b j ≡ refused n p) ↔ EntryRefused v b j n p
  entry_refused = due.entry_refused_by v

  -- > "And a record is accepted exactly when some such sequence makes its bytes."
  pub accepted_exactly : (b : List ℕ) → Bytes b → (record_verdict plane_frames (format_of v) b ≡ accepted tt) ↔ Sequence plane_frames (format_of v) b
  accepted_exactly = demand3.accepted_exactly plane_frames (format_of v) (plane_lawful v)

  -- the frame that it restores to, opened in that very buffer, and its own entries as calls, all accepted, make every byte of it
  pub made_again : (b : List ℕ) → Bytes b → record_verdict plane_frames (format_of v) b ≡ accepted tt
      → (open_answer plane_frames (format_of v) (restored plane_frames (format_of v) b 0) b ≡ accepted tt)
      × (record_after plane_frames (format_of v) (restored plane_frames (format_of v) b 0) b (map correction_of (oldest_first (entries_in (format_of v) b))) ≡ b)
      × (accepted_edits plane_frames (format_of v) (restored plane_frames (format_of v) b 0) b (map correction_of (oldest_first (entries_in (format_of v) b))) ≡ map correction_of (oldest_first (entries_in (format_of v) b)))
  made_again = demand3.made_again plane_frames (format_of v) (plane_lawful v)

  -- so calls on any accepted record are calls that follow its own history, and every sentence above holds of them too
  pub continued : (b : List ℕ) → Bytes b → record_verdict plane_frames (format_of v) b ≡ accepted tt → (cs : List Correction)
      → edit_all plane_frames (format_of v) b cs ≡ record_after plane_frames (format_of v) (restored plane_frames (format_of v) b 0) b (map correction_of (oldest_first (entries_in (format_of v) b)) ++ cs)
  continued = demand3.continued plane_frames (format_of v) (plane_lawful v)

  -- no other frame and no other accepted edits make it
  pub the_only_ones : (b : List ℕ) (S : Sequence plane_frames (format_of v) b)
      → (S.origin ≡ restored plane_frames (format_of v) b 0) × (accepted_edits plane_frames (format_of v) S.origin S.buffer S.calls ≡ map correction_of (oldest_first (entries_in (format_of v) b)))
  the_only_ones = demand3.the_only_ones plane_frames (format_of v) (plane_lawful v)

  -- ---- what an accepted record is, with no word of calls (document 01, "A record is tested"; specs/Reasons.antt)
  -- a header of which nothing is broken, an accepted frame, and frames from the one that stands back to the first, the only ones
  pub accepted_record : (b : List ℕ) → Bytes b
      → (record_verdict plane_frames (format_of v) b ≡ accepted tt)
      ↔ ((HeaderBroken v b → ⊥) × ((g : Frame) × (verdict (frame_of b) ≡ accepted g)) × ((f : ℕ → List ℕ) × Back v b 0 f))
  accepted_record = due.record_stands v

  pub one_chain : (b : List ℕ) → Bytes b → (low : ℕ) (f g : ℕ → List ℕ) → Back v b low f → Back v b low g → (j : ℕ) → low ≤ j → j ≤ word_at b 5 → f j ≡ g j
  one_chain = due.back_unique v

  -- else 20; or the frame's own refusal; or 21 with the number of the newest entry that does not fit; all of it at once is `RecordRefused`
  pub refused_record : (b : List ℕ) → Bytes b → (n p : ℕ) → (record_verdict plane_frames (format_of v) b ≡ refused n p) ↔ RecordRefused v b n p
  refused_record = due.record_refused v

  pub wrong_header : (b : List ℕ) → Bytes b → HeaderBroken v b → record_verdict plane_frames (format_of v) b ≡ refused 20 0
  wrong_header b y h = (due.record_refused v b y 20 0).1 (of_header h)

  pub refused_frame : (b : List ℕ) → Bytes b → (n p : ℕ) → (HeaderBroken v b → ⊥) → Refused (frame_of b) n p → record_verdict plane_frames (format_of v) b ≡ refused n p
  refused_frame b y n p h r = (due.record_refused v b y n p).1 (of_frame n p h r)

  pub unfit_entry : (b : List ℕ) → Bytes b → (j : ℕ) → (HeaderBroken v b → ⊥) → ((n p : ℕ) → Refused (frame_of b) n p → ⊥)
      → (record_verdict plane_frames (format_of v) b ≡ refused 21 j) ↔ NewestUnfit v b j
  unfit_entry = due.newest_unfit v
