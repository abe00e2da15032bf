-- Edits of records over document 01's frames, in both versions: what allows one in the documents' words, and the items and the bytes that one leaves.
-- Assumes nothing.
use Prim.Native.Nat.{ℕ, suc, ◌+◌, ◌*◌, ◌/◌, ◌%◌, ◌≤◌, ◌<◌}
use mathlib.Core.Path.{◌≡◌, refl, sym, ap, ap₂, subst, ◌∙◌}
use mathlib.Core.Logic.{◌↔◌, ◌⊎◌, ⊎_elim, inl, inr}
use mathlib.Core.Bool.{true}
use mathlib.Core.List.{List, [], ◌∷◌, ◌++◌}
use mathlib.Core.Option.{Option, none, some}
use native.Mathlib.Omega.{arith}
use lib.ListN.{length, get_or, take, drop}
use Rattle.format.specs.Words.{Bytes, word_at, bytes}
use Rattle.format.specs.Answers.{accepted, refused}
use Rattle.format.specs.Frames.{Frame, verdict}
use Rattle.format.specs.Spots.{Spot, SpotIs, legal_value, with_value, with_items}
use Rattle.format.specs.Spots as spots
use Rattle.format.proofs.questions.ItemQuestions.{some_is}
use Rattle.format.proofs.spots.PutLaws.{stands, spot_is}
use Rattle.format.proofs.front.Stability as stability
use Rattle.ledger.specs.Formats.{Entry, Correction, size}
use Rattle.ledger.specs.Records.{numbered, header, length_in, count_in, total_in, frame_in, entry_bytes, record_verdict}
use Rattle.ledger.specs.Calls.{kind_of, entry_for, record_answer, open_answer, open_exit, edit_answer, edit_exit}
use Rattle.ledger.specs.Chains.{Allowed}
use Rattle.ledger.specs.Histories.{bytes_of, frame_after, entries_of, record_after, accepted_edits}
use Rattle.ledger.specs.Tests.{Plain}
use Rattle.ledger.specs.VersionOne.{version_one}
use Rattle.ledger.specs.VersionTwo.{time_in, desk_in, version_two}
use Rattle.ledger.specs.Versions.{Version, v1, v2, format_of}
use Rattle.ledger.specs.PlaneFrames.{plane_frames, Asks, Free}
use Rattle.ledger.specs.Layout.{entry_size, total_length, frame_of, header_for, time_written, entry_written, history_written}
use Rattle.ledger.proofs.records.Codecs.{bytes_part}
use Rattle.ledger.proofs.plane.VersionLaws.{size_is, asks_nothing, full_limit, asks_suits, asks_good}
use Rattle.ledger.proofs.calls.Opening.{open_whole}
use Rattle.ledger.proofs.calls.Editing.{edit_exactly}
use Rattle.ledger.proofs.answers.Answering.{not_both}
use Rattle.ledger.proofs.answers.Refusals.{edit_refusals}
use Rattle.ledger.proofs.histories.Forward.{forward_accepted, forward_count, forward_rest, forward_whole}
use Rattle.ledger.proofs.records.Judging.{record_chain}
use Rattle.ledger.proofs.calls.Restoring.{entry_answers}
use Rattle.ledger.proofs.answers.EntryReasons.{spot_kind}
use Rattle.ledger.proofs.calls.Telling as telling
use Rattle.ledger.proofs.calls.Changing as changing
use Rattle.ledger.proofs.plane.PlaneFrames.{stands_there, plane_lawful}

-- ---- header and entries as the documents lay them out
header_laid : (v : Version) (len n : ℕ) → header (format_of v) len n ≡ header_for v len n
unfolding header version_one version_two
header_laid v1 len n = refl
header_laid v2 len n = refl

-- the two bytes of a word of a time
low_byte : (q : ℕ) → q % 65536 % 256 ≡ q % 256
low_byte q = omega arith

high_byte : (q : ℕ) → q % 65536 / 256 ≡ q / 256 % 256
high_byte q = omega arith

fourth_byte : (t : ℕ) → t / 65536 / 256 ≡ t / 16777216
fourth_byte t = omega arith

sixth_byte : (t : ℕ) → t / 4294967296 / 256 ≡ t / 1099511627776
sixth_byte t = omega arith

time_laid : (t : ℕ) → bytes ((t % 65536) ∷ (t / 65536 % 65536) ∷ (t / 4294967296 % 65536) ∷ []) ≡ time_written t
unfolding bytes
time_laid t =
    rw (low_byte t, high_byte t, low_byte (t / 65536), high_byte (t / 65536), fourth_byte t, low_byte (t / 4294967296), high_byte (t / 4294967296), sixth_byte t)

entry_laid : (v : Version) (e : Entry) → entry_bytes (format_of v) e ≡ entry_written v e
unfolding entry_bytes version_one version_two bytes
entry_laid v1 e = refl
entry_laid v2 e =
    ap
    (λ (l : List ℕ).
    bytes (e.word ∷ e.kind ∷ (e.old % 65536) ∷ (e.old / 65536) ∷ (e.new % 65536) ∷ (e.new / 65536) ∷ e.operator ∷ e.reason ∷ []) ++ (l ++ bytes (desk_in e.extra ∷ [])))
    (time_laid (time_in e.extra))

history_laid : (v : Version) (es : List Entry) → bytes_of (format_of v) es ≡ history_written v es
unfolding bytes_of history_written
history_laid v [] = refl
history_laid v (e ∷ es) = ap₂ (λ (l m : List ℕ). l ++ m) (entry_laid v e) (history_laid v es)

module _ (v : Version) (b : List ℕ) (c : Correction) where
  one_more : total_in (format_of v) b + size (format_of v) ≡ total_length v b + entry_size v
  unfolding length_in count_in
  one_more = ap (λ (n : ℕ). 16 + word_at b 3 + n * word_at b 5 + n) (size_is v)

  free_of : Asks v c.extra → Allowed plane_frames (format_of v) b c → Free v b c
  unfolding plane_frames length_in count_in
  free_of x a =
      record {
        spot = a.spot;
        stands = stands_there (frame_in b) c.word a.spot a.stands;
        sample = λ k. (stability.legal_sample c.value).0 (ap (λ (i : ℕ). legal_value i c.value) (sym k) ∙ a.legal);
        bin = λ k. (stability.legal_bin c.value).0 (ap (λ (i : ℕ). legal_value i c.value) (sym k) ∙ a.legal);
        changed = a.changed;
        operator = a.operator;
        reason = a.reason;
        time = (asks_good v c.extra x).0 a.good;
        few = (full_limit v b (entry_for plane_frames (frame_in b) c)).0 a.limit;
        room = subst (λ (n : ℕ). n ≤ length b) one_more a.room;
      }

  -- a spot's kind is 1 or 2, so these two cases are all
  free_legal : Bytes b → (h : Free v b c) → legal_value h.spot.kind c.value ≡ true
  unfolding length_in
  free_legal y h =
      ⊎_elim
      (λ k. ap (λ (i : ℕ). legal_value i c.value) k ∙ (stability.legal_sample c.value).1 (h.sample k))
      (λ k. ap (λ (i : ℕ). legal_value i c.value) k ∙ (stability.legal_bin c.value).1 (h.bin k))
      (stability.legal_kind h.spot.kind h.spot.value (stability.standing (frame_in b) (bytes_part b 16 (length_in b) y) c.word h.spot h.stands))

  free_allowed : Bytes b → Asks v c.extra → Free v b c → Allowed plane_frames (format_of v) b c
  unfolding plane_frames length_in count_in
  free_allowed y x h =
      record {
        asked = asks_nothing v c.extra;
        spot = h.spot;
        stands = h.stands;
        suits = asks_suits v c.extra x h.spot;
        legal = free_legal y h;
        changed = h.changed;
        operator = h.operator;
        reason = h.reason;
        good = (asks_good v c.extra x).1 h.time;
        limit = (full_limit v b (entry_for plane_frames (frame_in b) c)).1 h.few;
        room = subst (λ (n : ℕ). n ≤ length b) (sym one_more) h.room;
      }

  -- on an accepted record an edit is accepted exactly where none of 22, 23, 24, 25 and 12 forbids it
  pub edit_free : Bytes b → Asks v c.extra → record_verdict plane_frames (format_of v) b ≡ accepted tt → (edit_answer plane_frames (format_of v) b c ≡ accepted tt) ↔ Free v b c
  edit_free y x r = (λ e. free_of x ((edit_exactly plane_frames (format_of v) b c r).0 e), λ h. (edit_exactly plane_frames (format_of v) b c r).1 (free_allowed y x h))

  -- the frame that it leaves has the items that stood, but for the value of the one asked for
  pub edit_items : Bytes b → edit_answer plane_frames (format_of v) b c ≡ accepted tt → (f : Frame) → verdict (frame_in b) ≡ accepted f
      → (p : Spot) (is : SpotIs f.items c.word p)
      → verdict (frame_in (edit_exit plane_frames (format_of v) b c)) ≡ accepted (with_items f (is.before ++ (with_value is.item c.value ∷ is.after)))
  unfolding plane_frames
  edit_items y e f j p is =
      let a = changing.allowed plane_frames (format_of v) (plane_lawful v) b c y e in
      let there = (spot_is (frame_in b) f c.word p j).1 is in
      let k : p ≡ a.spot = some_is p a.spot (sym there ∙ stands_there (frame_in b) c.word a.spot a.stands) in
      let l : legal_value p.kind c.value ≡ true = ap (λ (q : Spot). legal_value q.kind c.value) k ∙ a.legal in
      ap verdict (changing.edit_frame plane_frames (format_of v) (plane_lawful v) b c y e)
      ∙ stability.put_accepted (frame_in b) (bytes_part b 16 (length_in b) y) c.word p there c.value l f j is

  -- such an item stands in an accepted frame
  pub edit_stands : Bytes b → edit_answer plane_frames (format_of v) b c ≡ accepted tt
      → (f : Frame) × (verdict (frame_in b) ≡ accepted f) × ((p : Spot) × SpotIs f.items c.word p)
  edit_stands y e =
      let a = changing.allowed plane_frames (format_of v) (plane_lawful v) b c y e in
      let s = stands (frame_in b) c.word a.spot (stands_there (frame_in b) c.word a.spot a.stands) in
      (s.frame, s.accepted, (a.spot, s.is))

  pub edit_there : Bytes b → edit_answer plane_frames (format_of v) b c ≡ accepted tt
      → (p : Spot) → spots.spot (frame_in b) c.word ≡ some p → spots.spot (frame_in (edit_exit plane_frames (format_of v) b c)) c.word ≡ some (spots.revalued p c.value)
  unfolding plane_frames
  edit_there y e p h = stands_there _ c.word (spots.revalued p c.value) (changing.edit_there plane_frames (format_of v) (plane_lawful v) b c y e p h)

  pub edit_elsewhere : Bytes b → edit_answer plane_frames (format_of v) b c ≡ accepted tt
      → (w : ℕ) → (w ≡ c.word → ⊥) → spots.spot (frame_in (edit_exit plane_frames (format_of v) b c)) w ≡ spots.spot (frame_in b) w
  unfolding plane_frames
  edit_elsewhere y e w n = changing.edit_elsewhere plane_frames (format_of v) (plane_lawful v) b c y e w n

  pub edit_bytes : Bytes b → edit_answer plane_frames (format_of v) b c ≡ accepted tt
      → edit_exit plane_frames (format_of v) b c
      ≡ header_for v (word_at b 3) (suc (word_at b 5))
      ++ (spots.put (frame_of b) c.word c.value
      ++ (take (entry_size v * word_at b 5) (drop (16 + word_at b 3) b) ++ (entry_written v (entry_for plane_frames (frame_of b) c) ++ drop (total_length v b + entry_size v) b)))
  unfolding plane_frames length_in count_in
  edit_bytes y e = rw (header_laid v (word_at b 3) (suc (word_at b 5)), entry_laid v (entry_for plane_frames (frame_of b) c), size_is v) at (changing.edit_whole plane_frames (format_of v) (plane_lawful v) b c y e)

  -- neither version asks anything before 22
  pub edit_reasons : (n p : ℕ) → edit_answer plane_frames (format_of v) b c ≡ refused n p
      → (record_verdict plane_frames (format_of v) b ≡ refused n p) ⊎ (Plain 22 n p ⊎ (Plain 23 n p ⊎ (Plain 24 n p ⊎ (Plain 25 n p ⊎ Plain 12 n p))))
  edit_reasons n p e = ⊎_elim inl (λ r. inr (⊎_elim asks (λ q. q) r)) (edit_refusals plane_frames (format_of v) b c n p e)
    where
      asks : (format_of v).asked c.extra ≡ refused n p → Plain 22 n p ⊎ (Plain 23 n p ⊎ (Plain 24 n p ⊎ (Plain 25 n p ⊎ Plain 12 n p)))
      asks q = absurd (not_both _ tt n p (asks_nothing v c.extra) q)

-- ---- a record as the documents lay it out
pub open_laid : (v : Version) (f buf : List ℕ) → open_answer plane_frames (format_of v) f buf ≡ accepted tt
    → open_exit plane_frames (format_of v) f buf ≡ header_for v (length f) 0 ++ (f ++ drop (16 + length f) buf)
open_laid v f buf e = rw (header_laid v (length f) 0) at (open_whole plane_frames (format_of v) f buf e)

module _ (v : Version) (f buf : List ℕ) (y : Bytes f) (e : open_answer plane_frames (format_of v) f buf ≡ accepted tt) (cs : List Correction) where
  pub beyond_laid : drop (total_length v (record_after plane_frames (format_of v) f buf cs)) (record_after plane_frames (format_of v) f buf cs)
      ≡ drop (total_length v (record_after plane_frames (format_of v) f buf cs)) buf
  unfolding length_in count_in
  beyond_laid = rw (size_is v) at (forward_rest plane_frames (format_of v) (plane_lawful v) f buf y e cs)

  pub record_tells : record_answer plane_frames (format_of v) (record_after plane_frames (format_of v) f buf cs)
      ≡ accepted (record {
        length = length f;
        count = length (accepted_edits plane_frames (format_of v) f buf cs);
        total = 16 + length f + entry_size v * length (accepted_edits plane_frames (format_of v) f buf cs);
      })
  record_tells = rw (size_is v) at (telling.record_tells plane_frames (format_of v) (plane_lawful v) f buf y e cs)

  pub record_whole : record_after plane_frames (format_of v) f buf cs
      ≡ header_for v (length f) (length (accepted_edits plane_frames (format_of v) f buf cs))
      ++ (frame_after plane_frames f (accepted_edits plane_frames (format_of v) f buf cs)
      ++ (history_written v (entries_of plane_frames f (accepted_edits plane_frames (format_of v) f buf cs)) ++ drop (16 + length f + entry_size v * length (accepted_edits plane_frames (format_of v) f buf cs)) buf))
  record_whole =
      rw (header_laid v (length f) (length (accepted_edits plane_frames (format_of v) f buf cs)), history_laid v (entries_of plane_frames f (accepted_edits plane_frames (format_of v) f buf cs)), size_is v)
      at (forward_whole plane_frames (format_of v) (plane_lawful v) f buf y e cs)

-- ---- the item that an accepted edit was asked for, in the frame that stood before it
one_accepted : (d e : Entry) → accepted d ≡ accepted e → d ≡ e
one_accepted d e q = cc

module _ (v : Version) (f buf : List ℕ) (y : Bytes f) (e : open_answer plane_frames (format_of v) f buf ≡ accepted tt) (cs : List Correction) (j : ℕ) (d : Correction) (h : j < length (accepted_edits plane_frames (format_of v) f buf cs)) where
  -- the frame before the edit and the edit, the j-th of the accepted from 0
  stood : List ℕ
  stood = frame_after plane_frames f (take j (accepted_edits plane_frames (format_of v) f buf cs))

  made : Correction
  made = get_or (accepted_edits plane_frames (format_of v) f buf cs) j d

  told_kind : (k : ℕ) × ((k ≡ 1) ⊎ (k ≡ 2)) × (k ≡ kind_of (spots.spot stood made.word))
  unfolding stood made plane_frames
  told_kind =
      let b = record_after plane_frames (format_of v) f buf cs in
      let r = forward_accepted plane_frames (format_of v) (plane_lawful v) f buf y e cs in
      let n : j < count_in b = (let c = forward_count plane_frames (format_of v) (plane_lawful v) f buf y e cs in omega arith) in
      let t = ((record_chain plane_frames (format_of v) b).0 r).2.1.fit j (omega arith) n in
      let q = one_accepted (numbered (format_of v) b (suc j)) (entry_for plane_frames stood made) (sym (entry_answers plane_frames (format_of v) b (suc j) r (omega arith) n) ∙ telling.entry_asked plane_frames (format_of v) (plane_lawful v) f buf y e cs j d h) in
      (t.spot.kind, spot_kind _ _ t.spot (stands_there _ _ t.spot t.stands), t.kind ∙ ap (λ (x : Entry). x.kind) q)

  pub item_stood : (p : Spot) × (spots.spot (frame_after plane_frames f (take j (accepted_edits plane_frames (format_of v) f buf cs))) (get_or (accepted_edits plane_frames (format_of v) f buf cs) j d).word ≡ some p)
  unfolding stood made
  item_stood = go (spots.spot stood made.word) refl
    where
      go : (o : Option Spot) → spots.spot stood made.word ≡ o → (p : Spot) × (spots.spot stood made.word ≡ some p)
      go (some p) q = (p, q)
      go none q =
          let k = told_kind in
          let z : k.0 ≡ 0 = k.2 ∙ ap (λ (i : Option Spot). kind_of i) q in
          absurd (⊎_elim (λ i. omega arith) (λ i. omega arith) k.1)
