-- An edit, as laws over plain lists: the tests at the item are what is left of all tests, the stores are what the rules say is written, and
-- each way through the code keeps the promise.
-- Assumes nothing.
use Prim.Native.Nat.{ℕ, ◌+◌, ◌*◌, ◌-◌, ◌≤◌, ◌<◌}
use mathlib.Core.Path.{◌≡◌, refl, sym, ap, ◌∙◌}
use mathlib.Core.Bool.{Bool, true, false, not, ◌&&◌, and-true}
use mathlib.Core.List.{List, [], ◌∷◌}
use mathlib.Core.Option.{none, some, some-injective}
use native.Mathlib.Nat.{add-sub_cancel_left}
use native.Mathlib.Omega.{arith}
use lib.ListN.{length, take, drop}
use lib.Seq.{sets, length-sets}
use native.Mathlib.Decide.{dec_lt}
use mathlib.Core.Logic.{by_cases}
use lib.Dec.{leb, ltb, eqb}
use borrow.Author.Tests.{lt-ltb, le-ltb, le-leb, lt-leb}
use borrow.Rule.Slice.PartMut.{put_mid, same_len_mid}
use Rattle.format.specs.Words.{pick, Bytes, bytes, word_at}
use Rattle.format.specs.Answers.{Outcome, Done, accepted, refused, need, first_of}
use Rattle.format.specs.Items.{ItemOf}
use Rattle.format.specs.Cursor.{standing_at, shown_by}
use Rattle.format.specs.Spots.{Spot, spot_of, legal_value, value_word, value_words}
use Rattle.format.proofs.spots.ScanLaws.{no_spot, spot_shown}
use Rattle.ledger.specs.Frames.{Settable}
use Rattle.ledger.specs.Formats as formats
use Rattle.ledger.specs.Records.{count_in, frame_in, entry_bytes, entries_in, length_entries, signed, record_verdict}
use Rattle.ledger.specs.Calls.{Summary, entry_for, new_value, edit_tests, edit_answer, edit_written}
use Rattle.ledger.specs.Chains.{Allowed}
use Rattle.ledger.specs.VersionTwo.{version_two, stamp_fits}
use Rattle.ledger.specs.Versions.{v2, format_in}
use Rattle.ledger.specs.Judged.{Judged, judged_at}
use Rattle.ledger.specs.PlaneFrames.{plane_frames, plane_frames_spot}
use Rattle.ledger.proofs.calls.Editing.{edit_exactly, exit_written, exit_found}
use Rattle.ledger.proofs.plane.VersionLaws.{format_lawful, full_limit}
use Rattle.ledger.proofs.plane.OneJudge.{by_word, not_named}
use Rattle.ledger.proofs.plane.PlaneFrames.{plane_frames_lawful}
use Rattle.records.specs.Stored.{stored}
use Rattle.records.proofs.UndoLaws.{stored_put}
use Rattle.editor.specs.declared.editing.Correction.{Correction}
use Rattle.editor.specs.Views.{asked, item_tests}
use Rattle.editor.specs.Promises.{Edited}
use Rattle.editor.specs.Writes.{Known, Holds, Editable}
use Rattle.editor.proofs.Orders.{first_refuses, first_passes, first_last}
use Rattle.format.proofs.items.StoringLaws.{part_whole}
use Rattle.editor.proofs.KnownLaws.{frame_long, sum, inside, few, standing, short}

-- ---- lengths and count of an accepted record of version 2
pub sum_two : (b : List ℕ) (x : Summary) → Known version_two b x → x.total ≡ 16 + x.length + 24 * x.count
unfolding version_two
sum_two b x k = sum version_two b x k

pub few_two : (b : List ℕ) (x : Summary) → Known version_two b x → x.count ≤ 512
few_two b x k = few version_two b x k (format_lawful v2)

pub total_fits : (b : List ℕ) (x : Summary) → Known version_two b x → Bytes b → x.total < 65536
total_fits b x k y = omega (arith, sum_two b x k, few_two b x k, short version_two b x k y)

-- ---- tests

-- the tests at the item, in their order: the first that refuses, or the last
module _ (c : Correction) (x : Summary) (kind was room : ℕ) (fresh : Bool) (l : fresh ≡ legal_value kind c.value) where
  abbrev new : Done
  new = need (fresh && not (eqb was c.value)) 23 0

  abbrev full : Done
  full = need (ltb x.count 512) 25 0

  abbrev end : Done
  end = need (leb (x.total + 24) room) 12 0

  tests : (sign : Bool) → sign ≡ signed c.operator c.reason
      → first_of (new ∷ need (sign && leb c.time 281474976710655) 24 0 ∷ full ∷ end ∷ []) ≡ item_tests (asked c) x kind was room
  unfolding item_tests plane_frames
  tests sign g = rw (l, g)

  pub not_new : (n p : ℕ) → refused n p ≡ new → refused n p ≡ item_tests (asked c) x kind was room
  not_new n p e = first_refuses new _ n p e ∙ tests (signed c.operator c.reason) refl

  module _ (e : accepted tt ≡ new) (sign : Bool) (g : sign ≡ signed c.operator c.reason) where
    abbrev signer : Done
    signer = need (sign && leb c.time 281474976710655) 24 0

    pub not_signed : (n p : ℕ) → refused n p ≡ signer → refused n p ≡ item_tests (asked c) x kind was room
    not_signed n p f = first_passes new _ _ e (first_refuses signer _ n p f) ∙ tests sign g

    module _ (f : accepted tt ≡ signer) where
      pub too_many : (n p : ℕ) → refused n p ≡ full → refused n p ≡ item_tests (asked c) x kind was room
      too_many n p h = first_passes new _ _ e (first_passes signer _ _ f (first_refuses full _ n p h)) ∙ tests sign g

      pub fits_in : accepted tt ≡ full → (a : Done) → a ≡ end → a ≡ item_tests (asked c) x kind was room
      fits_in h a i = first_passes new _ _ e (first_passes signer _ _ f (first_passes full _ _ h (first_last end a i))) ∙ tests sign g

-- what judging told of a word, and the item answered there in the frame's part of the record, tell of an edit's target
module _ (b : List ℕ) (x : Summary) (k : Known version_two b x) (y : Bytes b) (w : ℕ) where
  part : take (16 + x.length - 16) (drop 16 b) ≡ frame_in b
  part = rw (add-sub_cancel_left 16 x.length, k.length)

  -- no item stands there
  pub not_standing : none ≡ shown_by (standing_at (take (16 + x.length - 16) (drop 16 b)) w) → none ≡ plane_frames.spot (frame_in b) w
  not_standing e = no_spot (frame_in b) (standing version_two b x k y).bytes w (e ∙ ap (λ (f : List ℕ). shown_by (standing_at f w)) part) ∙ sym (plane_frames_spot (frame_in b) w)

  -- one does, and judging told it
  module _ (p : Spot) (z : ItemOf ℕ) (n : ℕ) (e : some p ≡ plane_frames.spot (frame_in b) w) (i : some (record { item = z; next = n }) ≡ shown_by (standing_at (take (16 + x.length - 16) (drop 16 b)) w)) where
    told_item : some p ≡ spot_of p.header z
    told_item =
        spot_shown (frame_in b) (standing version_two b x k y).bytes w p (e ∙ plane_frames_spot (frame_in b) w) (record { item = z; next = n })
        (i ∙ ap (λ (f : List ℕ). shown_by (standing_at f w)) part)

    pub other_item : none ≡ spot_of p.header z → none ≡ plane_frames.spot (frame_in b) w
    other_item q = q ∙ sym told_item ∙ e

    pub item_holds : (kind value : ℕ) → some (record { kind = kind; value = value; header = p.header }) ≡ spot_of p.header z → Holds b w kind value
    item_holds kind value q = record { header = p.header; stands = sym e ∙ told_item ∙ sym q }

-- a time that 6 bytes hold, at desk 0, may be kept
time_fits : (t : ℕ) → stamp_fits (t ∷ 0 ∷ []) ≡ leb t 281474976710655
time_fits t = and-true (ltb t 281474976710656) ∙ by_cases (dec_lt t 281474976710656) (λ h. lt-ltb t 281474976710656 h ∙ sym (le-leb t 281474976710655 (omega arith))) (λ h. let n : t < 281474976710656 → ⊥ = h in le-ltb t 281474976710656 (omega arith) ∙ sym (lt-leb t 281474976710655 (omega arith)))

-- of all tests of an edit, those at the item are left where the record is accepted and an item stands there
module _ (b : List ℕ) (x : Summary) (k : Known version_two b x) (c : Correction) where
  limit_left : (e : formats.Entry) → version_two.limit (e ∷ entries_in version_two b) ≡ ltb x.count 512
  unfolding version_two
  limit_left e = rw (length_entries version_two b (count_in b), ← k.count)

  pub no_target : none ≡ plane_frames.spot (frame_in b) c.word → edit_answer plane_frames version_two b (asked c) ≡ refused 22 0
  unfolding edit_answer edit_tests first_of version_two
  no_target e = rw (k.judged, ← e)

  pub tests_left : (kind was : ℕ) → Holds b c.word kind was → (r : Done) → r ≡ item_tests (asked c) x kind was (length b) → edit_answer plane_frames version_two b (asked c) ≡ r
  unfolding item_tests edit_answer edit_tests new_value first_of version_two
  tests_left kind was h r q = sym (q ∙ rw (k.judged, h.stands, time_fits c.time, limit_left (entry_for plane_frames (frame_in b) (asked c)), k.total))

-- ---- the promise, kept where an edit is refused and where it is made
module _ (b : List ℕ) (c : formats.Correction) where
  pub edited_refused : (n p : ℕ) → edit_answer plane_frames version_two b c ≡ refused n p → Edited b c (refused n p) b
  edited_refused n p a = record { answered = sym a; left = sym (exit_found plane_frames version_two b c n p a) }

  pub edited_written : (l : List ℕ) → edit_answer plane_frames version_two b c ≡ accepted tt → l ≡ edit_written plane_frames version_two b c → Edited b c (accepted tt) l
  edited_written l a w = record { answered = sym a; left = w ∙ sym (exit_written plane_frames version_two b c a) }

  pub edited_unknown : (n p : ℕ) → record_verdict plane_frames version_two b ≡ refused n p → Edited b c (refused n p) b
  unfolding edit_answer edit_tests first_of
  edited_unknown n p e = edited_refused n p (rw e)

  -- a record that does not name version 2
  pub edited_other : (version : ℕ) → version ≡ word_at b 0 → (version ≡ 2 → ⊥) → Edited b c (refused 20 0) b
  edited_other version e n = edited_unknown 20 0 (not_named v2 b (λ w. n (e ∙ w)))

-- one that does is judged as a record of version 2
pub judged_two : (b : List ℕ) (w version : ℕ) (o : Outcome Judged) → version ≡ word_at b 0 → version ≡ 2 → o ≡ judged_at plane_frames (format_in b) b w → o ≡ judged_at plane_frames version_two b w
judged_two b w version o e n q = q ∙ ap (λ (F : formats.Format). judged_at plane_frames F b w) (by_word v2 b (sym e ∙ n))

-- ---- the stores of an edit that may be made
length_stored : (f : List ℕ) (kind w v : ℕ) → length (stored f kind w v) ≡ length f
unfolding stored
length_stored f kind w v = go (legal_value kind v)
  where
    go : (t : Bool) → length (pick t (sets f (2 * value_word kind w) (bytes (value_words kind v))) f) ≡ length f
    go true = length-sets f (2 * value_word kind w) (bytes (value_words kind v))
    go false = refl

all_written : (b : List ℕ) (x : Summary) → Known version_two b x → (c : Correction) (s : Spot) → plane_frames.spot (frame_in b) c.word ≡ some s
    → (l₁ l₂ l₃ : List ℕ) → l₁ ≡ sets b 16 (plane_frames.put (frame_in b) c.word c.value) → l₂ ≡ sets l₁ 10 (bytes ((x.count + 1) ∷ (x.total + 24) ∷ []))
    → l₃ ≡ sets l₂ x.total (entry_bytes version_two (record { word = c.word; kind = s.kind; old = s.value; new = c.value; operator = c.operator; reason = c.reason; extra = c.time ∷ 0 ∷ [] }))
    → l₃ ≡ edit_written plane_frames version_two b (asked c)
unfolding edit_written bytes version_two
all_written b x k c s i l₁ l₂ l₃ e₁ e₂ e₃ = rw (e₃, e₂, e₁, i, k.count, k.total)

module _ (b : List ℕ) (x : Summary) (c : Correction) (kind was : ℕ) (e : Editable b x (asked c) kind was) where
  abbrev item : Spot
  item = record { kind = kind; value = was; header = e.holds.header }

  stands : plane_frames.spot (frame_in b) c.word ≡ some item
  stands = e.holds.stands

  allowed : Allowed plane_frames version_two b (asked c)
  allowed = (edit_exactly plane_frames version_two b (asked c) e.known.judged).0 e.accepted

  same_spot : allowed.spot ≡ item
  same_spot = some-injective allowed.spot item (sym allowed.stands ∙ stands)

  settable : Bytes b → Settable plane_frames (frame_in b) c.word c.value item
  settable y = record {
    frame = standing version_two b x e.known y;
    stands = stands;
    legal = ap (λ (t : Spot). plane_frames.legal t.kind c.value) (sym same_spot) ∙ allowed.legal;
  }

  pub word_fits : Bytes b → c.word < 65536
  word_fits y = plane_frames_lawful.index_fits (frame_in b) c.word item (standing version_two b x e.known y) stands

  pub signer_fits : (c.operator < 65536) × (c.reason < 65536)
  signer_fits = let o = allowed.operator in let r = allowed.reason in (omega arith, omega arith)

  pub one_more : x.count < 512
  one_more = let n = e.known.count in let f = (full_limit v2 b (entry_for plane_frames (frame_in b) (asked c))).0 allowed.limit in omega arith

  pub entry_room : x.total + 24 ≤ length b
  unfolding version_two
  entry_room = let t = e.known.total in let r = allowed.room in omega arith

  -- the part with a value stored, whichever it is, is as long as it was, and so is the whole
  pub value_length : (l₁ : List ℕ) (k w v : ℕ) → l₁ ≡ stored (take (16 + x.length - 16) (drop 16 b)) k w v
      → length (put_mid 16 (16 + x.length - 16) b l₁) ≡ length b
  value_length l₁ k w v q = same_len_mid 16 (16 + x.length - 16) b l₁ (ap length q ∙ length_stored (take (16 + x.length - 16) (drop 16 b)) k w v)

  -- three stores: the value in the frame's part, two header words, one entry
  module _ (y : Bytes b) (l₁ : List ℕ) (e₁ : l₁ ≡ stored (take (16 + x.length - 16) (drop 16 b)) kind c.word c.value) where
    value_stores : put_mid 16 (16 + x.length - 16) b l₁ ≡ sets b 16 (plane_frames.put (frame_in b) c.word c.value)
    value_stores =
        let k = e.known in
        let g = plane_frames.put (frame_in b) c.word c.value in
        let r : 16 + x.length ≤ length b = let i = inside version_two b x k in let t = sum version_two b x k in omega arith in
        let l : length g ≡ 16 + x.length - 16 = plane_frames_lawful.put_length (frame_in b) c.word c.value item (settable y) ∙ frame_long version_two b x k ∙ sym (add-sub_cancel_left 16 x.length) in
        ap (put_mid 16 (16 + x.length - 16) b) (e₁ ∙ ap (λ (f : List ℕ). stored f kind c.word c.value) (part b x e.known y c.word) ∙ stored_put (frame_in b) c.word c.value item (settable y)) ∙ part_whole b 16 (16 + x.length) g (omega arith) r l

    pub written : (l₂ l₃ : List ℕ) → l₂ ≡ sets (put_mid 16 (16 + x.length - 16) b l₁) 10 (bytes ((x.count + 1) ∷ (x.total + 24) ∷ []))
        → l₃ ≡ sets l₂ x.total (entry_bytes version_two (record { word = c.word; kind = kind; old = was; new = c.value; operator = c.operator; reason = c.reason; extra = c.time ∷ 0 ∷ [] }))
        → l₃ ≡ edit_written plane_frames version_two b (asked c)
    written l₂ l₃ e₂ e₃ =
        all_written b x e.known c item stands _ l₂ l₃ value_stores e₂ e₃
