-- Demand 3 at the code: the laws of proofs/front/Demand3.antt. Each goes from what the contracts say (`Opened`, `Edited`, `Restored`, `Recorded`,
-- `EntryTold`) to one theorem of ledger's PlaneDemand3, and back from document 01's answers to those of the code.
-- Assumes nothing.
use Prim.Native.Nat.{ℕ, suc, ◌+◌, ◌*◌, ◌≤◌, ◌<◌}
use mathlib.Core.Path.{◌≡◌, refl, sym, ap, ap₂, subst, ◌∙◌}
use mathlib.Core.Logic.{◌↔◌, ◌⊎◌, inl, inr, ⊎_elim}
use mathlib.Core.List.{List, [], ◌∷◌, ◌++◌, map, map-append}
use mathlib.Core.Option.{some}
use native.Mathlib.Omega.{arith}
use lib.ListN.{length, get_or, take, drop}
use Rattle.std.specs.Prelude.{Result, Ok, Err}
use Rattle.format.specs.Words.{Bytes, word_at}
use Rattle.format.specs.Answers as answers
use Rattle.format.specs.Answers.{accepted}
use Rattle.format.specs.Frames.{Frame, verdict}
use Rattle.format.specs.Spots.{Spot, spot, put, revalued, with_value, SpotIs, with_items}
use Rattle.book.specs.declared.refusal.Fault.TheVariants as fault
use Rattle.book.specs.declared.refusal.Refusal.{Refusal}
use Rattle.book.specs.Refuses.{Refuses}
use Rattle.book.proofs.Named.{refuses_told, told_refuses}
use Rattle.ledger.specs.Formats as formats
use Rattle.ledger.specs.Records.{length_in, entries_in, record_verdict}
use Rattle.ledger.specs.Calls.{entry_for, record_answer, entry_answer, restore_answer, restore_exit}
use Rattle.ledger.specs.Histories as histories
use Rattle.ledger.specs.Histories.{oldest_first, frame_after, entries_of, record_after, accepted_edits}
use Rattle.ledger.specs.VersionTwo.{version_two}
use Rattle.ledger.specs.Versions.{v1, v2, format_of, version_in, format_in, format_for_lem}
use Rattle.ledger.specs.PlaneFrames.{plane_frames, Free}
use Rattle.ledger.specs.Layout.{total_length, frame_of, header_for, entry_written, history_written}
use Rattle.ledger.specs.Reasons.{RecordRefused, OpenRefused, EditRefused, RestoreRefused, EntryRefused}
use Rattle.ledger.proofs.calls.Restoring.{entry_above}
use Rattle.ledger.proofs.plane.OneJudge.{own_format, not_edited, either_made}
use Rattle.ledger.proofs.front.PlaneDemand3 as house3
use Rattle.records.specs.declared.answers.Record.{Record}
use Rattle.records.specs.declared.answers.Entry.{Entry}
use Rattle.records.specs.Views.{summary_of, as_entry}
use Rattle.records.proofs.Unique.{same_record, same_entry}
use Rattle.editor.specs.declared.editing.Correction.{Correction}
use Rattle.editor.specs.Views.{Answer, view_done, asked}
use Rattle.editor.specs.Promises.{Opened, Edited, Restored}
use Rattle.records.specs.Promises.{Recorded, EntryTold}
use Rattle.editor.specs.Sequences.{Calls, made_by, corrected, entries_for, entry_made, Moment, AllGiven, Sequence}
use Rattle.editor.proofs.CallLaws.{says_accepted, says_refused, says_fault, after_calls, edits_of_calls, count_of_calls, asked_take, asked_nth}
use Rattle.editor.proofs.SequenceLaws as sequences

-- ---- opening

pub put_into_a_record : (f buf b : List ℕ) → Opened f buf (view_done (Ok tt)) b → b ≡ header_for v2 (length f) 0 ++ (f ++ drop (16 + length f) buf)
put_into_a_record f buf b o = o.left ∙ house3.put_into_a_record v2 f buf (sym o.answered)

pub opened_exactly : (f buf : List ℕ) (g : Frame) → verdict f ≡ accepted g → (r : Answer) (b : List ℕ) → Opened f buf (view_done r) b
    → (r ≡ Ok tt) ↔ (16 + length f ≤ length buf)
opened_exactly f buf g v r b o =
    let x = house3.opened_exactly v2 f buf g v in
    (λ e. x.0 (sym o.answered ∙ (says_accepted r).0 e), λ h. (says_accepted r).1 (o.answered ∙ x.1 h))

pub opening_refused : (f buf : List ℕ) → Bytes f → (r : Answer) (b : List ℕ) → Opened f buf (view_done r) b
    → (n p : ℕ) → Refuses r n p ↔ OpenRefused f buf n p
opening_refused f buf y r b o n p =
    let x = house3.opening_refused v2 f buf y n p in
    (λ e. x.0 (sym o.answered ∙ (says_refused r n p).0 e), λ h. (says_refused r n p).1 (o.answered ∙ x.1 h))

-- ---- one edit

pub edited_exactly : (b : List ℕ) → Bytes b → word_at b 0 ≡ 2 → (x : Record) → Recorded b (Ok x) → (c : Correction) (r : Answer) (e : List ℕ)
    → Edited b (asked c) (view_done r) e → (r ≡ Ok tt) ↔ Free v2 b (asked c)
edited_exactly b y w x v c r e o =
    let h = house3.edited_exactly v2 b (asked c) y refl (sequences.as_two b w (sequences.recorded b x v)) in
    (λ a. h.0 (sym o.answered ∙ (says_accepted r).0 a), λ w. (says_accepted r).1 (o.answered ∙ h.1 w))

pub edit_refused : (b : List ℕ) → Bytes b → (c : Correction) (r : Answer) (e : List ℕ) → Edited b (asked c) (view_done r) e
    → (n p : ℕ) → Refuses r n p ↔ EditRefused v2 b (asked c) n p
edit_refused b y c r e o n p =
    let x = house3.refused_by_the_first v2 b y (asked c) refl n p in
    (λ a. x.0 (sym o.answered ∙ (says_refused r n p).0 a), λ h. (says_refused r n p).1 (o.answered ∙ x.1 h))

-- a record that does not name version 2: 20, whatever follows; and nothing changes
pub old_not_edited : (b : List ℕ) → (word_at b 0 ≡ 2 → ⊥) → (c : Correction) (r : Answer) (e : List ℕ) → Edited b (asked c) (view_done r) e
    → (r ≡ Err (record { fault = fault.Header; place = 0 })) × (e ≡ b)
old_not_edited b n c r e o = let q = not_edited b (asked c) n in (says_fault r fault.Header (o.answered ∙ q.0), o.left ∙ q.1)

module _ (b : List ℕ) (y : Bytes b) (c : Correction) (e : List ℕ) (o : Edited b (asked c) (view_done (Ok tt)) e) where
  pub item_asked : (f : Frame) × (verdict (frame_of b) ≡ accepted f) × ((p : Spot) × SpotIs f.items c.word p)
  unfolding length_in
  item_asked = house3.item_asked v2 b (asked c) y (sym o.answered)

  pub value_put : (f : Frame) → verdict (frame_of b) ≡ accepted f → (p : Spot) (is : SpotIs f.items c.word p)
      → verdict (frame_of e) ≡ accepted (with_items f (is.before ++ (with_value is.item c.value ∷ is.after)))
  unfolding length_in
  value_put f v p is = ap (λ (l : List ℕ). verdict (frame_of l)) o.left ∙ house3.value_put v2 b (asked c) y (sym o.answered) f v p is

  pub value_there : (p : Spot) → spot (frame_of b) c.word ≡ some p → spot (frame_of e) c.word ≡ some (revalued p c.value)
  unfolding length_in
  value_there p h = ap (λ (l : List ℕ). spot (frame_of l) c.word) o.left ∙ house3.value_there v2 b (asked c) y (sym o.answered) p h

  pub nowhere_else : (w : ℕ) → (w ≡ c.word → ⊥) → spot (frame_of e) w ≡ spot (frame_of b) w
  unfolding length_in
  nowhere_else w n = ap (λ (l : List ℕ). spot (frame_of l) w) o.left ∙ house3.nowhere_else v2 b (asked c) y (sym o.answered) w n

  pub edited_bytes : e
      ≡ header_for v2 (word_at b 3) (suc (word_at b 5))
      ++ (put (frame_of b) c.word c.value
      ++ (take (24 * word_at b 5) (drop (16 + word_at b 3) b) ++ (entry_written v2 (entry_for plane_frames (frame_of b) (asked c)) ++ drop (total_length v2 b + 24) b)))
  edited_bytes = o.left ∙ house3.edited_bytes v2 b (asked c) y (sym o.answered)

-- the entry that a correction makes, by the item that stands there
entry_at : (g : List ℕ) (c : Correction) (p : Spot) → spot g c.word ≡ some p
    → entry_for plane_frames g (asked c)
    ≡ record { word = c.word; kind = p.kind; old = p.value; new = c.value; operator = c.operator; reason = c.reason; extra = c.time ∷ 0 ∷ [] }
unfolding plane_frames
entry_at g c p h = rw h

-- ---- a frame opened, and corrections asked for after it

module _ (f buf : List ℕ) (y : Bytes f) (b : List ℕ) (o : Opened f buf (view_done (Ok tt)) b) (cs : List Correction) (rs : List Answer) (e : List ℕ) (k : Calls b cs rs e) where
  after : e ≡ record_after plane_frames version_two f buf (map asked cs)
  after = after_calls f buf b o k

  edits : accepted_edits plane_frames version_two f buf (map asked cs) ≡ map asked (made_by cs rs)
  edits = edits_of_calls f buf b o k

  as_many : length (accepted_edits plane_frames version_two f buf (map asked cs)) ≡ length (made_by cs rs)
  as_many = count_of_calls f buf b o k

  -- what they leave names version 2, so that it is judged as one
  mine : format_in e ≡ version_two
  mine = own_format v2 e (ap (record_verdict plane_frames version_two) after ∙ house3.accepted_after v2 f buf y (sym o.answered) (map asked cs))

  restored_so : (n : ℕ) (out : List ℕ) (a : answers.Done) (left : List ℕ) → Restored e n out a left
      → (a ≡ restore_answer plane_frames version_two e n out) × (left ≡ restore_exit plane_frames version_two e n out)
  restored_so n out a left t =
      (t.answered ∙ ap (λ (F : formats.Format). restore_answer plane_frames F e n out) mine, t.left ∙ ap (λ (F : formats.Format). restore_exit plane_frames F e n out) mine)

  pub record_told : (r : Result Record Refusal) → Recorded e r
      → r ≡ Ok (record { length = length f; count = length (made_by cs rs); total = 16 + length f + 24 * length (made_by cs rs) })
  record_told r h =
      same_record r _
      (h ∙ ap (λ (F : formats.Format). record_answer plane_frames F e) mine ∙ ap (record_answer plane_frames version_two) after ∙ house3.record_told v2 f buf y (sym o.answered) (map asked cs)
      ∙ ap (λ (n : ℕ). accepted (record { length = length f; count = n; total = 16 + length f + 24 * n })) as_many)

  pub whole_record : e
      ≡ header_for v2 (length f) (length (made_by cs rs))
      ++ (corrected f (made_by cs rs) ++ (history_written v2 (entries_for f (made_by cs rs)) ++ drop (16 + length f + 24 * length (made_by cs rs)) buf))
  whole_record =
      after ∙ house3.whole_record v2 f buf y (sym o.answered) (map asked cs)
      ∙ ap₂
      (λ (m : List formats.Correction) (n : ℕ). header_for v2 (length f) n ++ (frame_after plane_frames f m ++ (history_written v2 (entries_of plane_frames f m) ++ drop (16 + length f + 24 * n) buf)))
      edits as_many

  pub restores_what_stood : (n : ℕ) (M : Moment b cs rs e n) (out : List ℕ) (r : Answer) (left : List ℕ) → Restored e n out (view_done r) left → length f ≤ length out
      → (r ≡ Ok tt) × (left ≡ frame_of M.buffer ++ drop (length f) out)
  unfolding length_in
  restores_what_stood n M out r left t l =
      let q = house3.restores_what_stood v2 f buf y (sym o.answered) (map asked M.earlier) (map asked M.later) out l in
      let x : e ≡ record_after plane_frames version_two f buf (map asked M.earlier ++ map asked M.later)
      = after ∙ ap (record_after plane_frames version_two f buf) (ap (map asked) M.all ∙ map-append asked M.earlier M.later) in
      let j : n ≡ length (accepted_edits plane_frames version_two f buf (map asked M.earlier)) = sym (count_of_calls f buf b o M.before ∙ M.count) in
      let z = after_calls f buf b o M.before in (
        (says_accepted r).1 ((restored_so n out _ left t).0 ∙ ap₂ (λ (a : List ℕ) (i : ℕ). restore_answer plane_frames version_two a i out) x j ∙ q.0),
        (restored_so n out _ left t).1 ∙ ap₂ (λ (a : List ℕ) (i : ℕ). restore_exit plane_frames version_two a i out) x j ∙ q.1 ∙ ap (λ (a : List ℕ). frame_of a ++ drop (length f) out) (sym z),
      )

  pub restores_to : (n : ℕ) (out : List ℕ) (r : Answer) (left : List ℕ) → Restored e n out (view_done r) left → n ≤ length (made_by cs rs) → length f ≤ length out
      → (r ≡ Ok tt) × (left ≡ corrected f (take n (made_by cs rs)) ++ drop (length f) out)
  restores_to n out r left t h l =
      let q = house3.restores_to_k v2 f buf y (sym o.answered) (map asked cs) n out (subst (λ (m : ℕ). n ≤ m) (sym as_many) h) l in (
        (says_accepted r).1 ((restored_so n out _ left t).0 ∙ ap (λ (x : List ℕ). restore_answer plane_frames version_two x n out) after ∙ q.0),
        (restored_so n out _ left t).1 ∙ ap (λ (x : List ℕ). restore_exit plane_frames version_two x n out) after ∙ q.1
            ∙ ap (λ (m : List formats.Correction). frame_after plane_frames f m ++ drop (length f) out) (ap (take n) edits ∙ asked_take n (made_by cs rs)),
      )

  pub restores_as_recorded : (out : List ℕ) (r : Answer) (left : List ℕ) → Restored e 0 out (view_done r) left → length f ≤ length out
      → (r ≡ Ok tt) × (left ≡ f ++ drop (length f) out)
  unfolding frame_after
  restores_as_recorded out r left t l = restores_to 0 out r left t (omega arith) l

  pub no_such_edit : (n : ℕ) (out : List ℕ) (r : Answer) (left : List ℕ) → Restored e n out (view_done r) left → length (made_by cs rs) < n
      → r ≡ Err (record { fault = fault.NoEntry; place = 0 })
  no_such_edit n out r left t h =
      says_fault r fault.NoEntry
      ((restored_so n out _ left t).0 ∙ ap (λ (x : List ℕ). restore_answer plane_frames version_two x n out) after
      ∙ house3.no_entry v2 f buf y (sym o.answered) (map asked cs) n out (subst (λ (m : ℕ). m < n) (sym as_many) h))

  pub no_room : (n : ℕ) (out : List ℕ) (r : Answer) (left : List ℕ) → Restored e n out (view_done r) left → n ≤ length (made_by cs rs) → length out < length f
      → r ≡ Err (record { fault = fault.Room; place = 0 })
  no_room n out r left t h l =
      says_fault r fault.Room
      ((restored_so n out _ left t).0 ∙ ap (λ (x : List ℕ). restore_answer plane_frames version_two x n out) after
      ∙ house3.no_room v2 f buf y (sym o.answered) (map asked cs) n out (subst (λ (m : ℕ). n ≤ m) (sym as_many) h) l)

  pub history_in_order : oldest_first (entries_in version_two e) ≡ entries_for f (made_by cs rs)
  history_in_order =
      ap (λ (x : List ℕ). oldest_first (entries_in version_two x)) after
      ∙ house3.history_in_order v2 f buf y (sym o.answered) (map asked cs)
      ∙ ap (entries_of plane_frames f) edits

  pub entry_asked : (j : ℕ) → j < length (made_by cs rs) → (d : Correction) (r : Result Entry Refusal) → EntryTold e (suc j) r
      → (p : Spot)
      × (spot (corrected f (take j (made_by cs rs))) (get_or (made_by cs rs) j d).word ≡ some p)
      × (r ≡ Ok (entry_made (get_or (made_by cs rs) j d) p))
  entry_asked j h d r t =
      let l = subst (λ (m : ℕ). j < m) (sym as_many) h in
      let m = ap (take j) edits ∙ asked_take j (made_by cs rs) in
      let c = ap (λ (m : List formats.Correction). get_or m j (asked d)) edits ∙ asked_nth (made_by cs rs) j d in
      let s = house3.item_stood v2 f buf y (sym o.answered) (map asked cs) j (asked d) l in
      let q = ap₂ (λ (g : List formats.Correction) (x : formats.Correction). spot (frame_after plane_frames f g) x.word) (sym m) (sym c) ∙ s.1 in (
        s.0,
        q,
        same_entry r _
            (t ∙ ap (λ (F : formats.Format). entry_answer plane_frames F e (suc j)) mine ∙ ap (λ (x : List ℕ). entry_answer plane_frames version_two x (suc j)) after
            ∙ house3.entry_asked v2 f buf y (sym o.answered) (map asked cs) j (asked d) l
            ∙ ap₂ (λ (g : List formats.Correction) (x : formats.Correction). accepted (entry_for plane_frames (frame_after plane_frames f g) x)) m c
            ∙ ap accepted (entry_at (corrected f (take j (made_by cs rs))) (get_or (made_by cs rs) j d) s.0 q)),
      )

  pub no_other_entry : (j : ℕ) → length (made_by cs rs) < j → (r : Result Entry Refusal) → EntryTold e j r → r ≡ Err (record { fault = fault.NoEntry; place = 0 })
  no_other_entry j h r t =
      let n = house3.history_count v2 f buf y (sym o.answered) (map asked cs) in
      same_entry r _
      (t ∙ ap (λ (F : formats.Format). entry_answer plane_frames F e j) mine ∙ ap (λ (x : List ℕ). entry_answer plane_frames version_two x j) after
      ∙ entry_above plane_frames version_two _ j (house3.accepted_after v2 f buf y (sym o.answered) (map asked cs)) (subst (λ (m : ℕ). m < j) (sym (n ∙ as_many)) h))

-- ---- any buffer, of the version that it names

pub restore_refused : (b : List ℕ) → Bytes b → (n : ℕ) (out : List ℕ) (r : Answer) (left : List ℕ) → Restored b n out (view_done r) left
    → (m p : ℕ) → Refuses r m p ↔ RestoreRefused (version_in b) b n out m p
restore_refused b y n out r left t m p =
    let x = house3.restore_refused (version_in b) b y n out m p in
    let q = t.answered ∙ ap (λ (F : formats.Format). restore_answer plane_frames F b n out) (format_for_lem (word_at b 0)) in
    (λ e. x.0 (sym q ∙ (says_refused r m p).0 e), λ h. (says_refused r m p).1 (q ∙ x.1 h))

pub accepted_exactly : (b : List ℕ) → Bytes b → (r : Result Record Refusal) → Recorded b r
    → ((x : Record) × (r ≡ Ok x)) ↔ (Sequence b ⊎ histories.Sequence plane_frames (format_of v1) b)
accepted_exactly b y r t = (
  λ w. ⊎_elim inr (λ S. inl ((sequences.accepted_exactly b y).0 ((house3.accepted_exactly v2 b y).1 S))) ((either_made b y).0 (sequences.recorded b w.0 (subst (Recorded b) w.1 t))),
  λ S. sequences.recorded_back b r t ((either_made b y).1 (⊎_elim (λ s. inr (sequences.as_ledgers b s)) inl S)),
)

module _ (b : List ℕ) (y : Bytes b) (w : word_at b 0 ≡ 2) (x : Record) (t : Recorded b (Ok x)) where
  named : record_verdict plane_frames version_two b ≡ accepted tt
  named = sequences.as_two b w (sequences.recorded b x t)

  pub made_again : (S : Sequence b) × (S.buffer ≡ b) × (S.left ≡ b)
  made_again = (sequences.has_sequence b y named, sequences.own_buffer b y named, sequences.own_left b y named)

  pub continued : (cs : List Correction) (rs : List Answer) (e : List ℕ) → Calls b cs rs e → AllGiven cs → Sequence e
  continued cs rs e k g = sequences.followed b y named k g

pub the_only_ones : (b : List ℕ) (S T : Sequence b)
    → (S.frame ≡ T.frame) × (made_by S.corrections S.answers ≡ made_by T.corrections T.answers)
the_only_ones b S T =
    (sequences.only_frame b S ∙ sym (sequences.only_frame b T), sequences.only_corrections b S ∙ sym (sequences.only_corrections b T))

pub record_refused : (b : List ℕ) → Bytes b → (r : Result Record Refusal) → Recorded b r
    → (n p : ℕ) → Refuses r n p ↔ RecordRefused (version_in b) b n p
record_refused b y r t n p =
    let x = house3.refused_record (version_in b) b y n p in
    let q = ap (λ (F : formats.Format). record_verdict plane_frames F b) (format_for_lem (word_at b 0)) in (
      λ e. x.0 (sym q ∙ (sequences.recorded_refused b n p).0 (sym (refuses_told summary_of r n p e) ∙ t)),
      λ h. told_refuses summary_of r n p (t ∙ sym ((sequences.recorded_refused b n p).1 (q ∙ x.1 h))),
    )

pub entry_refused : (b : List ℕ) → Bytes b → (j : ℕ) (r : Result Entry Refusal) → EntryTold b j r
    → (n p : ℕ) → Refuses r n p ↔ EntryRefused (version_in b) b j n p
entry_refused b y j r t n p =
    let x = house3.entry_refused (version_in b) b y j n p in
    let q = ap (λ (F : formats.Format). entry_answer plane_frames F b j) (format_for_lem (word_at b 0)) in
    (λ e. x.0 (sym (t ∙ q) ∙ refuses_told as_entry r n p e), λ h. told_refuses as_entry r n p (t ∙ q ∙ x.1 h))
