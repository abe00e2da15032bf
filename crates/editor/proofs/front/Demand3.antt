-- Demand 3 at the code, in the client's words, sentence by sentence: of the answers of `open`, `edit`, `restore`, `record` and `entry` and of the
-- buffers that they leave, with corrections as the code has them. `Opened`, `Edited`, `Restored` (specs/Promises.antt), `Recorded` and `EntryTold`
-- (specs/Sequences.antt) are what the functions' contracts say; each theorem is one law over them. What a reason is stands in ledger's
-- specs/Reasons.antt, how a record is laid out in its specs/Layout.antt.
-- Assumes nothing.
use Prim.Native.Nat.{ℕ, suc, ◌+◌, ◌*◌, ◌≤◌, ◌<◌}
use mathlib.Core.Path.{◌≡◌}
use mathlib.Core.Logic.{◌↔◌, ◌⊎◌}
use mathlib.Core.List.{List, ◌∷◌, ◌++◌, map}
use mathlib.Core.Option.{some}
use lib.ListN.{length, get_or, take, drop}
use Rattle.std.specs.Prelude.{Result, Ok, Err}
use Rattle.format.specs.Words.{Bytes, word_at}
use Rattle.format.specs.Answers.{accepted}
use Rattle.format.specs.Frames.{Frame, verdict}
use Rattle.format.specs.Spots.{Spot, spot, put, revalued, with_value, SpotIs, with_items}
use Rattle.book.specs.declared.refusal.Fault.TheVariants as fault
use Rattle.book.specs.declared.refusal.Refusal.{Refusal}
use Rattle.book.specs.Refusals.{number_of}
use Rattle.book.specs.Refuses.{Refuses}
use Rattle.ledger.specs.Records.{entries_in}
use Rattle.ledger.specs.Calls.{entry_for}
use Rattle.ledger.specs.Histories as histories
use Rattle.ledger.specs.Histories.{oldest_first}
use Rattle.ledger.specs.VersionTwo.{version_two}
use Rattle.ledger.specs.Versions.{v1, v2, format_of, version_in}
use Rattle.ledger.specs.PlaneFrames.{plane_frames, Free}
use Rattle.ledger.specs.Layout.{total_length, frame_of, header_for, entry_written, history_written}
use Rattle.ledger.specs.Reasons.{RecordRefused, OpenRefused, EditRefused, RestoreRefused, EntryRefused}
use Rattle.records.specs.declared.answers.Record.{Record}
use Rattle.records.specs.declared.answers.Entry.{Entry}
use Rattle.editor.specs.declared.editing.Correction.{Correction}
use Rattle.editor.specs.Views.{Answer, view_done, asked}
use Rattle.editor.specs.Promises.{Opened, Edited, Restored}
use Rattle.records.specs.Promises.{Recorded, EntryTold}
use Rattle.editor.specs.Sequences.{Calls, made_by, corrected, entries_for, entry_made, correction_for, Moment, AllGiven, Sequence}
use Rattle.editor.proofs.CallLaws.{moment}
use Rattle.editor.proofs.SequenceLaws as sequences
use Rattle.editor.proofs.Effects as effects
use Rattle.editor.proofs.DemandLaws as law

-- > "Put an accepted frame into a record with no history,"
-- every byte: header, the frame, and the buffer's own beyond
pub put_into_a_record : (f buf b : List ℕ) → Opened f buf (view_done (Ok tt)) b → b ≡ header_for v2 (length f) 0 ++ (f ++ drop (16 + length f) buf)
put_into_a_record = law.put_into_a_record

-- > "An accepted frame is refused a record only where the buffer is too short,"
pub opened_exactly : (f buf : List ℕ) (g : Frame) → verdict f ≡ accepted g → (r : Answer) (b : List ℕ) → Opened f buf (view_done r) b
    → (r ≡ Ok tt) ↔ (16 + length f ≤ length buf)
opened_exactly = law.opened_exactly

-- every refusal of an opening: the frame's own, then 12; and it leaves the buffer as found
pub opening_refused : (f buf : List ℕ) → Bytes f → (r : Answer) (b : List ℕ) → Opened f buf (view_done r) b
    → (n p : ℕ) → Refuses r n p ↔ OpenRefused f buf n p
opening_refused = law.opening_refused

pub opening_leaves : (f buf : List ℕ) (q : Refusal) (b : List ℕ) → Opened f buf (view_done (Err q)) b → b ≡ buf
opening_leaves f buf q = effects.open_untouched f buf (number_of q.fault) q.place

-- > "and an edit only for a listed reason;"
-- of a record of version 2 that `record` accepts: exactly where none of the documents' reasons forbids it (ledger's specs/PlaneFrames.antt, `Free`)
pub edited_exactly : (b : List ℕ) → Bytes b → word_at b 0 ≡ 2 → (x : Record) → Recorded b (Ok x) → (c : Correction) (r : Answer) (e : List ℕ)
    → Edited b (asked c) (view_done r) e → (r ≡ Ok tt) ↔ Free v2 b (asked c)
edited_exactly = law.edited_exactly

-- of any buffer: refused by n at p exactly where n is due, the first in the order record refusals, 22, 23, 24, 25, 12
pub edit_refused : (b : List ℕ) → Bytes b → (c : Correction) (r : Answer) (e : List ℕ) → Edited b (asked c) (view_done r) e
    → (n p : ℕ) → Refuses r n p ↔ EditRefused v2 b (asked c) n p
edit_refused = law.edit_refused

-- "editing a version 1 record is 20, before its frame is judged": so is any record that does not name version 2, and nothing of it changes
pub old_not_edited : (b : List ℕ) → (word_at b 0 ≡ 2 → ⊥) → (c : Correction) (r : Answer) (e : List ℕ) → Edited b (asked c) (view_done r) e
    → (r ≡ Err (record { fault = fault.Header; place = 0 })) × (e ≡ b)
old_not_edited = law.old_not_edited

-- "some refused": such a call leaves every byte
pub edit_leaves : (b : List ℕ) (c : Correction) (q : Refusal) (e : List ℕ) → Edited b (asked c) (view_done (Err q)) e → e ≡ b
edit_leaves b c q = effects.edit_untouched b (asked c) (number_of q.fault) q.place

-- > "otherwise the edit puts the value asked for in the item asked for and nowhere else in the frame."
module _ (b : List ℕ) (y : Bytes b) (c : Correction) (e : List ℕ) (o : Edited b (asked c) (view_done (Ok tt)) e) where
  -- there is such an item, in an accepted frame
  pub item_asked : (f : Frame) × (verdict (frame_of b) ≡ accepted f) × ((p : Spot) × SpotIs f.items c.word p)
  item_asked = law.item_asked b y c e o

  -- the frame keeps kind, card, sequence word and items but for the value of the item at that word
  pub value_put : (f : Frame) → verdict (frame_of b) ≡ accepted f → (p : Spot) (is : SpotIs f.items c.word p)
      → verdict (frame_of e) ≡ accepted (with_items f (is.before ++ (with_value is.item c.value ∷ is.after)))
  value_put = law.value_put b y c e o

  -- so the value asked for stands at that word, and every other Sample and Bin is as it was
  pub value_there : (p : Spot) → spot (frame_of b) c.word ≡ some p → spot (frame_of e) c.word ≡ some (revalued p c.value)
  value_there = law.value_there b y c e o

  pub nowhere_else : (w : ℕ) → (w ≡ c.word → ⊥) → spot (frame_of e) w ≡ spot (frame_of b) w
  nowhere_else = law.nowhere_else b y c e o

  -- every byte: header, the frame with the value put, the entries that stood, the new one, and the buffer's own beyond
  pub edited_bytes : e
      ≡ header_for v2 (word_at b 3) (suc (word_at b 5))
      ++ (put (frame_of b) c.word c.value
      ++ (take (24 * word_at b 5) (drop (16 + word_at b 3) b) ++ (entry_written v2 (entry_for plane_frames (frame_of b) (asked c)) ++ drop (total_length v2 b + 24) b)))
  edited_bytes = law.edited_bytes b y c e o

-- > "Put an accepted frame into a record with no history, then make any sequence of edit calls on it, some refused, with nothing else writing to it."
-- the frame f opened in the buffer buf, which left b; then the corrections cs asked for, which were answered rs, and left e
module _ (f buf : List ℕ) (y : Bytes f) (b : List ℕ) (o : Opened f buf (view_done (Ok tt)) b) (cs : List Correction) (rs : List Answer) (e : List ℕ) (k : Calls b cs rs e) where
  -- `record` accepts what they leave, and tells its lengths and the count of the accepted edits
  pub record_told : (r : Result Record Refusal) → Recorded e r
      → r ≡ Ok (record { length = length f; count = length (made_by cs rs); total = 16 + length f + 24 * length (made_by cs rs) })
  record_told = law.record_told f buf y b o cs rs e k

  -- every byte of the buffer: header, the frame with the accepted corrections made, their entries in order, and the caller's own beyond
  pub whole_record : e
      ≡ header_for v2 (length f) (length (made_by cs rs))
      ++ (corrected f (made_by cs rs) ++ (history_written v2 (entries_for f (made_by cs rs)) ++ drop (16 + length f + 24 * length (made_by cs rs)) buf))
  whole_record = law.whole_record f buf y b o cs rs e k

  -- > "For every number k from 0 to the count of accepted edits, restoring to k, into a buffer with room, gives the exact frame that stood after
  -- > the k-th accepted edit;"
  -- there is a moment among the calls when n had been accepted; restoring to n is accepted and gives the frame that stood in the buffer then
  pub moment_for_every_k : (n : ℕ) → n ≤ length (made_by cs rs) → Moment b cs rs e n
  moment_for_every_k = moment k

  pub restores_what_stood : (n : ℕ) (M : Moment b cs rs e n) (out : List ℕ) (r : Answer) (left : List ℕ) → Restored e n out (view_done r) left → length f ≤ length out
      → (r ≡ Ok tt) × (left ≡ frame_of M.buffer ++ drop (length f) out)
  restores_what_stood = law.restores_what_stood f buf y b o cs rs e k

  -- the same in other words: the frame f with the first n accepted corrections made
  pub restores_to : (n : ℕ) (out : List ℕ) (r : Answer) (left : List ℕ) → Restored e n out (view_done r) left → n ≤ length (made_by cs rs) → length f ≤ length out
      → (r ≡ Ok tt) × (left ≡ corrected f (take n (made_by cs rs)) ++ drop (length f) out)
  restores_to = law.restores_to f buf y b o cs rs e k

  -- > "k = 0 gives the frame as recorded."
  pub restores_as_recorded : (out : List ℕ) (r : Answer) (left : List ℕ) → Restored e 0 out (view_done r) left → length f ≤ length out
      → (r ≡ Ok tt) × (left ≡ f ++ drop (length f) out)
  restores_as_recorded = law.restores_as_recorded f buf y b o cs rs e k

  -- above the count 26, into a buffer without room 12
  pub no_such_edit : (n : ℕ) (out : List ℕ) (r : Answer) (left : List ℕ) → Restored e n out (view_done r) left → length (made_by cs rs) < n
      → r ≡ Err (record { fault = fault.NoEntry; place = 0 })
  no_such_edit = law.no_such_edit f buf y b o cs rs e k

  pub no_room : (n : ℕ) (out : List ℕ) (r : Answer) (left : List ℕ) → Restored e n out (view_done r) left → n ≤ length (made_by cs rs) → length out < length f
      → r ≡ Err (record { fault = fault.Room; place = 0 })
  no_room = law.no_room f buf y b o cs rs e k

  -- > "The history holds those edits in order and nothing more."
  -- the entries, oldest first, are those of the accepted corrections; `record` tells their count (above), `entry` the j-th, from 1, as it was asked,
  -- with the kind and the value that stood there before it; and there is no other
  pub history_in_order : oldest_first (entries_in version_two e) ≡ entries_for f (made_by cs rs)
  history_in_order = law.history_in_order f buf y b o cs rs e k

  pub entry_asked : (j : ℕ) → j < length (made_by cs rs) → (d : Correction) (r : Result Entry Refusal) → EntryTold e (suc j) r
      → (p : Spot)
      × (spot (corrected f (take j (made_by cs rs))) (get_or (made_by cs rs) j d).word ≡ some p)
      × (r ≡ Ok (entry_made (get_or (made_by cs rs) j d) p))
  entry_asked = law.entry_asked f buf y b o cs rs e k

  pub no_other_entry : (j : ℕ) → length (made_by cs rs) < j → (r : Result Entry Refusal) → EntryTold e j r → r ≡ Err (record { fault = fault.NoEntry; place = 0 })
  no_other_entry = law.no_other_entry f buf y b o cs rs e k

-- ---- any buffer: it is judged, restored and told by the version that it names, `version_in b`

-- every refusal of a restore: record refusals, 26, 12; and it leaves the second buffer as found
pub restore_refused : (b : List ℕ) → Bytes b → (n : ℕ) (out : List ℕ) (r : Answer) (left : List ℕ) → Restored b n out (view_done r) left
    → (m p : ℕ) → Refuses r m p ↔ RestoreRefused (version_in b) b n out m p
restore_refused = law.restore_refused

pub restore_leaves : (b : List ℕ) (n : ℕ) (out : List ℕ) (q : Refusal) (left : List ℕ) → Restored b n out (view_done (Err q)) left → left ≡ out
restore_leaves b n out q = effects.restore_untouched b n out (number_of q.fault) q.place

-- > "And a record is accepted exactly when some such sequence makes its bytes."
-- of version 2 a sequence of these calls; of version 1 one of the old editor's opening and edits (ledger's PlaneDemand3 at `v1` says all of it)
pub accepted_exactly : (b : List ℕ) → Bytes b → (r : Result Record Refusal) → Recorded b r
    → ((x : Record) × (r ≡ Ok x)) ↔ (Sequence b ⊎ histories.Sequence plane_frames (format_of v1) b)
accepted_exactly = law.accepted_exactly

module _ (b : List ℕ) (y : Bytes b) (w : word_at b 0 ≡ 2) (x : Record) (t : Recorded b (Ok x)) where
  -- more than that, of version 2: opened in that very buffer, it leaves every byte of it
  pub made_again : (S : Sequence b) × (S.buffer ≡ b) × (S.left ≡ b)
  made_again = law.made_again b y w x t

  -- so calls on any accepted record of version 2 follow such a sequence, and every sentence above holds of them too
  pub continued : (cs : List Correction) (rs : List Answer) (e : List ℕ) → Calls b cs rs e → AllGiven cs → Sequence e
  continued = law.continued b y w x t

-- and no other frame and no other accepted corrections make it: these are the ones that its entries tell of
pub the_only_ones : (b : List ℕ) (S T : Sequence b)
    → (S.frame ≡ T.frame) × (made_by S.corrections S.answers ≡ made_by T.corrections T.answers)
the_only_ones = law.the_only_ones

pub told_by_entries : (b : List ℕ) (S : Sequence b) → made_by S.corrections S.answers ≡ map correction_for (oldest_first (entries_in version_two b))
told_by_entries = sequences.only_corrections

-- else `record` refuses by n at p exactly where n is due: 20, the frame's refusals, then 21 at the newest entry that does not fit; and `entry` as
-- `record`, then by 26
pub record_refused : (b : List ℕ) → Bytes b → (r : Result Record Refusal) → Recorded b r
    → (n p : ℕ) → Refuses r n p ↔ RecordRefused (version_in b) b n p
record_refused = law.record_refused

pub entry_refused : (b : List ℕ) → Bytes b → (j : ℕ) (r : Result Entry Refusal) → EntryTold b j r
    → (n p : ℕ) → Refuses r n p ↔ EntryRefused (version_in b) b j n p
entry_refused = law.entry_refused
