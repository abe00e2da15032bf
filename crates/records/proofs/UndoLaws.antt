-- Entries undone on a copy of the frame: an entry is tested against the map and the item answered at its word, and undoing one that fits leaves
-- a frame that the map still tells the headers of.
-- Assumes nothing.
use Prim.Native.Nat.{ℕ, zero, suc, ◌+◌, ◌-◌, ◌*◌, ◌<◌, ◌≤◌}
use mathlib.Core.Path.{◌≡◌, refl, sym, ap, ap₂, subst, ◌∙◌}
use mathlib.Core.List.{List, [], ◌∷◌, ◌++◌}
use mathlib.Core.Bool.{Bool, true, false, not, ◌&&◌, true≢false}
use mathlib.Core.Logic.{⊎_elim, by_cases}
use mathlib.Core.Option.{Option, none, some}
use native.Mathlib.Omega.{arith}
use native.Mathlib.Nat.{mul-suc, mul-le-mul}
use native.Mathlib.Decide.{dec_lt}
use lib.Dec.{eqb, leb, ltb}
use lib.ListN.{length, get_or, take, drop, length-drop, length-append}
use lib.Seq.{sets, length-take-le, take_at}
use borrow.Author.Tests.{leb-true, eq-eqb, ne_eqb, lt-ltb, le-ltb, le-leb, lt-leb}
use Rattle.format.specs.Words.{Bytes}
use Rattle.format.specs.Answers.{Done, accepted, refused}
use Rattle.format.specs.Items.{ItemOf, Item, Channel, Histogram, HitCount, Sample, Bin, LastCell, TimeBin, Text, StartEvent, ContinueEvent, EndEvent, words_of}
use Rattle.format.specs.Frames.{last_of}
use Rattle.format.specs.Cursor.{standing_at, shown_by}
use Rattle.format.specs.Spots.{Header, no_header, Spot, spot_of, under_all, spot, legal_value}
use Rattle.format.specs.Scans.{head, header_at, spot_by, Noted}
use Rattle.format.proofs.book.PrefixLaws.{and_left}
use Rattle.format.proofs.spots.PutLaws.{stands, put_stores}
use Rattle.format.proofs.questions.ItemQuestions.{no_some}
use Rattle.format.proofs.reader.CursorLaws.{next_there}
use Rattle.format.proofs.spots.ScanLaws.{spot_by_lem, by_noted, no_spot, noted_there, put_heads}
use Rattle.ledger.specs.Tests.{all}
use Rattle.ledger.specs.Frames.{Accepted, Settable}
use Rattle.ledger.specs.Formats.{Entry, Format, size}
use Rattle.ledger.specs.Records.{length_in, entry_of, numbered, entries_to, signed, at_spot, before, fits_item, fits, history_verdict}
use Rattle.ledger.specs.Calls.{undone}
use Rattle.ledger.specs.Chains.{Fits}
use Rattle.ledger.specs.VersionOne.{version_one}
use Rattle.ledger.specs.VersionTwo.{version_two}
use Rattle.ledger.specs.Versions.{format_for}
use Rattle.ledger.specs.PlaneFrames.{plane_frames, plane_frames_spot}
use Rattle.ledger.proofs.records.Judging.{fits_right}
use Rattle.format.proofs.items.StoringLaws.{sets_whole}
use Rattle.ledger.proofs.records.Codecs.{numbered_suc}
use Rattle.ledger.proofs.plane.VersionLaws.{for_which}
use Rattle.ledger.proofs.records.Walking.{judge_none, judge_back, judge_stop, restore_done, restore_back}
use Rattle.ledger.proofs.plane.PlaneFrames.{stands_there, plane_frames_lawful}
use Rattle.std.proofs.Common.{Result, Ok, Err}
use Rattle.std.specs.Prelude.{⊤}
use Rattle.book.specs.declared.refusal.Refusal.{Refusal}
use Rattle.book.specs.Views.{refusal}
use denote.Enum.Declared.{tag_of}
use Rattle.records.specs.contracts.answers.SpotKind.{the_type}
use Rattle.records.specs.declared.answers.SpotKind.{SpotKind}
use Rattle.records.specs.declared.answers.SpotKind.TheVariants as kinds
use Rattle.records.specs.Views.{view_spot_kind, unfit}
use Rattle.records.specs.Sound.{sound_at, left_by}
use Rattle.records.specs.Stored.{stored, Inside}
use Rattle.records.specs.Undoing.{Heads, Undoing, Framed, Walked, Kept}
use Rattle.records.proofs.RecordLaws.{entry_from}

-- the words of an item that stands there lie in the frame
item_inside : (s : List ℕ) → Bytes s → (w : ℕ) (p : Spot) → spot s w ≡ some p → Inside p.kind w s
unfolding words_of
item_inside s y w p e =
    let h = stands s w p e in
    let is = h.is in
    let n = next_there s y h.frame h.accepted is.before is.item is.after is.items w is.index in
    let i = n.wide in
    let l = n.within in
    by_item is.item (under_all no_header is.before) is.spot (omega arith)
  where
    kind_of : (a b : Spot) → some a ≡ some b → b.kind ≡ a.kind
    kind_of a b e = cc

    by_item : (x : Item) (k : Header) → spot_of k x ≡ some p → w + length (words_of x) ≤ last_of s → Inside p.kind w s
    by_item (Sample v) k q b = record { sample = λ z. omega arith; bin = λ n. absurd (n (kind_of _ p q)) }
    by_item (Bin i v) k q b = record { sample = λ z. omega arith; bin = λ n. omega arith }
    by_item (Channel i j c) k q b = no_some p q
    by_item (Histogram i j c) k q b = no_some p q
    by_item (HitCount i j c) k q b = no_some p q
    by_item (LastCell i j) k q b = no_some p q
    by_item (TimeBin i) k q b = no_some p q
    by_item (Text i) k q b = no_some p q
    by_item (StartEvent i j c) k q b = no_some p q
    by_item (ContinueEvent i) k q b = no_some p q
    by_item (EndEvent i) k q b = no_some p q

-- what the map and the item answered there tell of word w
module _ (map f : List ℕ) (g : Undoing map f) (w : ℕ) where
  -- the item that begins there lies between the first three words and the last
  pub noted_item : 1 ≤ get_or map w 0 → Noted f w
  noted_item l = noted_there f g.frame.bytes w (let z = g.heads w in omega arith)

  spot_here : plane_frames.spot f w ≡ spot_by f (get_or map w 0) (shown_by (standing_at f w))
  spot_here = plane_frames_spot f w ∙ spot_by_lem f g.frame.bytes w ∙ ap (λ (h : ℕ). spot_by f h (shown_by (standing_at f w))) (sym (g.heads w))

  -- no item begins there, or none stands there
  pub none_noted : get_or map w 0 ≡ 0 → none ≡ plane_frames.spot f w
  none_noted z = sym (spot_here ∙ ap (λ (h : ℕ). spot_by f h (shown_by (standing_at f w))) z)

  pub none_stands : none ≡ shown_by (standing_at f w) → none ≡ plane_frames.spot f w
  none_stands e = no_spot f g.frame.bytes w e ∙ sym (plane_frames_spot f w)

  -- the item answered there, under the header noted
  module _ (n : 1 ≤ get_or map w 0) (z : ItemOf ℕ) (next : ℕ) (e : some (record { item = z; next = next }) ≡ shown_by (standing_at f w)) where
    stands_here : plane_frames.spot f w ≡ spot_of (header_at f (get_or map w 0)) z
    stands_here = spot_here ∙ ap (spot_by f (get_or map w 0)) (sym e) ∙ by_noted f (get_or map w 0) n (record { item = z; next = next })

    pub spot_told : (h : ℕ) → h ≡ get_or map w 0 → (k : Header) → k ≡ header_at f h → (o : Option Spot) → o ≡ spot_of k z → o ≡ plane_frames.spot f w
    spot_told h i k j o q = q ∙ ap (λ (k : Header). spot_of k z) (j ∙ ap (header_at f) i) ∙ sym stands_here

  module _ (F : Format) (e : Entry) (at : e.word ≡ w) where
    pub unnoted_fits : get_or map w 0 ≡ 0 → false ≡ fits plane_frames F f e
    unfolding fits
    unnoted_fits z = rw (at, ← none_noted z)

    pub nothing_fits : none ≡ shown_by (standing_at f w) → false ≡ fits plane_frames F f e
    unfolding fits
    nothing_fits i = rw (at, ← none_stands i)

    module _ (n : 1 ≤ get_or map w 0) (z : ItemOf ℕ) (next : ℕ) (shown : some (record { item = z; next = next }) ≡ shown_by (standing_at f w)) where
      pub other_fits : ((h : Header) → none ≡ spot_of h z) → false ≡ fits plane_frames F f e
      unfolding fits
      other_fits i = rw (at, stands_here n z next shown, ← i (header_at f (get_or map w 0)))

      pub item_fits : (t : Bool) (kind value : ℕ) → ((h : Header) → some (record { kind = kind; value = value; header = h }) ≡ spot_of h z)
          → ((h : Header) → t ≡ fits_item plane_frames F e (record { kind = kind; value = value; header = h })) → t ≡ fits plane_frames F f e
      unfolding fits
      item_fits t kind value i q = q (header_at f (get_or map w 0)) ∙ sym (rw (at, stands_here n z next shown, ← i (header_at f (get_or map w 0))))

-- the tests of an entry, those that ask for no item first
all_left : (a c s g t : Bool) → ((c && s) && (g && t)) ≡ true → ((((a && c) && s) && g) && t) ≡ a
all_left true true true true true e = refl
all_left false true true true true e = refl
all_left a false s g t e = absurd (true≢false (sym e))
all_left a true false g t e = absurd (true≢false (sym e))
all_left a true true false t e = absurd (true≢false (sym e))
all_left a true true true false e = absurd (true≢false (sym e))

none_left : (a c s g t : Bool) → ((c && s) && (g && t)) ≡ false → ((((a && c) && s) && g) && t) ≡ false
none_left false c s g t e = refl
none_left true false s g t e = refl
none_left true true false g t e = refl
none_left true true true false t e = refl
none_left true true true true t e = e

module _ (F : Format) (e : Entry) (s : Spot) where
  sound_fits : sound_at F e s ≡ true → fits_item plane_frames F e s ≡ left_by e s.kind s.value
  unfolding fits_item all plane_frames sound_at left_by
  sound_fits h = all_left ((eqb s.kind e.kind && eqb s.value e.new) && legal_value e.kind e.old) (not (eqb e.old e.new)) (signed e.operator e.reason) (F.good e.extra) (F.suits e.extra s) h

  unsound : sound_at F e s ≡ false → fits_item plane_frames F e s ≡ false
  unfolding fits_item all plane_frames sound_at
  unsound h = none_left ((eqb s.kind e.kind && eqb s.value e.new) && legal_value e.kind e.old) (not (eqb e.old e.new)) (signed e.operator e.reason) (F.good e.extra) (F.suits e.extra s) h

-- an entry that is not sound fits no frame
pub unsound_fits : (F : Format) (f : List ℕ) (e : Entry) → ((s : Spot) → false ≡ sound_at F e s) → false ≡ fits plane_frames F f e
unfolding fits
unsound_fits F f e h = go (plane_frames.spot f e.word)
  where
    go : (o : Option Spot) → false ≡ at_spot o (fits_item plane_frames F e)
    go none = refl
    go (some s) = sym (unsound F e s (sym (h s)))

-- and of a sound one the tests at the item are left
pub left_fits : (F : Format) (e : Entry) (kind value : ℕ) (sound t : Bool) → ((s : Spot) → sound ≡ sound_at F e s) → sound ≡ true → t ≡ left_by e kind value
    → (h : Header) → t ≡ fits_item plane_frames F e (record { kind = kind; value = value; header = h })
left_fits F e kind value sound t i l q h =
    let s : Spot = record { kind = kind; value = value; header = h } in
    q ∙ sym (sound_fits F e s (sym (i s) ∙ l))

-- the tests one by one: what leaves at once, and what is asked last
module _ (F : Format) (e : Entry) where
  pub unchanged_sound : e.old ≡ e.new → (s : Spot) → false ≡ sound_at F e s
  unfolding sound_at
  unchanged_sound q s = rw (eq-eqb e.old e.new q)

  pub unsigned_sound : (named : Bool) → named ≡ signed e.operator e.reason → named ≡ false → (s : Spot) → false ≡ sound_at F e s
  unfolding sound_at
  unsigned_sound named n q s = rw (sym n ∙ q) (sym (no (not (eqb e.old e.new))))
    where
      no : (a : Bool) → ((a && false) && (F.good e.extra && F.suits e.extra s)) ≡ false
      no true = refl
      no false = refl

  pub kept_sound : (e.old ≡ e.new → ⊥) → (named : Bool) → named ≡ signed e.operator e.reason → named ≡ true
      → (kept : Bool) → ((s : Spot) → kept ≡ (F.good e.extra && F.suits e.extra s)) → (s : Spot) → kept ≡ sound_at F e s
  unfolding sound_at
  kept_sound c named n q kept k s = k s ∙ sym (rw (ne_eqb e.old e.new c, sym n ∙ q))

-- a kind as the code casts it
pub kind_number : (k : SpotKind) → tag_of the_type k + 1 ≡ view_spot_kind k
kind_number kinds.Sample = refl
kind_number kinds.Bin = refl

module _ (e : Entry) (kind value : ℕ) where
  pub other_kind : (kind ≡ e.kind → ⊥) → false ≡ left_by e kind value
  unfolding left_by
  other_kind n = rw (ne_eqb kind e.kind n)

  pub other_value : kind ≡ e.kind → (value ≡ e.new → ⊥) → false ≡ left_by e kind value
  unfolding left_by
  other_value q n = rw (eq-eqb kind e.kind q, ne_eqb value e.new n)

  pub old_left : kind ≡ e.kind → value ≡ e.new → (t : Bool) → t ≡ legal_value e.kind e.old → t ≡ left_by e kind value
  unfolding left_by
  old_left q w t l = l ∙ sym (rw (eq-eqb kind e.kind q, eq-eqb value e.new w))

-- what an entry keeps: nothing in version 1, a time and desk 0 in version 2
pub stamp_missing : (version : ℕ) (s : Spot) → eqb version 1 ≡ ((format_for version).good [] && (format_for version).suits [] s)
unfolding version_one version_two
stamp_missing version s = ⊎_elim (λ w. rw (w.1, w.0)) (λ w. rw (w.1, ne_eqb version 1 w.0)) (for_which version)

pub stamp_given : (version time desk : ℕ) → desk < 65536 → (s : Spot)
    → ((not (eqb version 1) && leb time 281474976710655) && eqb desk 0) ≡ ((format_for version).good (time ∷ desk ∷ []) && (format_for version).suits (time ∷ desk ∷ []) s)
unfolding version_one version_two
stamp_given version time desk d s = ⊎_elim (λ w. rw (w.1, w.0)) (λ w. rw (w.1, ne_eqb version 1 w.0, lt-ltb desk 65536 d, below time) (and_mid (leb time 281474976710655) (eqb desk 0))) (for_which version)
  where
    below : (t : ℕ) → ltb t 281474976710656 ≡ leb t 281474976710655
    below t = by_cases (dec_lt t 281474976710656) (λ h. lt-ltb t 281474976710656 h ∙ sym (le-leb t 281474976710655 (omega arith))) (λ h. let n : t < 281474976710656 → ⊥ = h in le-ltb t 281474976710656 (omega arith) ∙ sym (lt-leb t 281474976710655 (omega arith)))

    and_mid : (a b : Bool) → (a && b) ≡ ((a && true) && b)
    and_mid true b = refl
    and_mid false b = refl

-- ---- undoing

-- a legal value stored in an item that stands there is the value put
pub stored_put : (f : List ℕ) (w v : ℕ) (s : Spot) → Settable plane_frames f w v s → stored f s.kind w v ≡ plane_frames.put f w v
unfolding stored plane_frames
stored_put f w v s h = rw h.legal (sym (put_stores f w v s (stands_there f w s h.stands)))

module _ (F : Format) (f : List ℕ) (a : Accepted plane_frames f) (e : Entry) (h : fits plane_frames F f e ≡ true) where
  fitting : Fits plane_frames F f e
  fitting = fits_right plane_frames F f e h

  settable : Settable plane_frames f e.word e.old fitting.spot
  settable = record { frame = a; stands = fitting.stands; legal = ap (λ (k : ℕ). plane_frames.legal k e.old) fitting.kind ∙ fitting.old }

  -- the old value of an entry that fits may be put, and its words lie in the frame
  pub undo_inside : Inside e.kind e.word f
  undo_inside = subst (λ (k : ℕ). Inside k e.word f) fitting.kind (item_inside f a.bytes e.word fitting.spot (stands_there f e.word fitting.spot fitting.stands))

  pub undo_legal : legal_value e.kind e.old ≡ true
  unfolding plane_frames
  undo_legal = fitting.old

  -- undoing an entry that fits gives the frame before it
  pub stored_before : stored f e.kind e.word e.old ≡ before plane_frames f e
  stored_before = ap (λ (k : ℕ). stored f k e.word e.old) (sym fitting.kind) ∙ stored_put f e.word e.old fitting.spot settable

  -- T25 behind the map: every header stands at its word
  heads_kept : (u : ℕ) → head (before plane_frames f e) u ≡ head f u
  unfolding plane_frames
  heads_kept u = put_heads f a.bytes e.word fitting.spot (stands_there f e.word fitting.spot fitting.stands) e.old settable.legal u

  pub before_accepted : (g : List ℕ) → g ≡ before plane_frames f e → Accepted plane_frames g
  before_accepted g i = subst (Accepted plane_frames) (sym i) (plane_frames_lawful.put_accepted f e.word e.old fitting.spot settable)

  pub undoing_next : (map g : List ℕ) → Undoing map f → g ≡ before plane_frames f e → Undoing map g
  undoing_next map g u i =
      record { frame = before_accepted g i; heads = λ w. u.heads w ∙ sym (ap (λ (f : List ℕ). head f w) i ∙ heads_kept w) }

-- ---- the loop from the newest entry back

pub part_long : (b : List ℕ) (at : ℕ) → length (take (length b - at) (drop at b)) ≡ length b - at
part_long b at = length-take-le (length b - at) (drop at b) (rw (length-drop at b) (omega arith))

numbered_at : (F : Format) (b : List ℕ) (p at : ℕ) → at ≡ 16 + length_in b + size F * p → entry_of F (drop at b) ≡ numbered F b (suc p)
numbered_at F b p at q = sym (numbered_suc F b p ∙ ap (λ (i : ℕ). entry_of F (drop i b)) (sym q))

-- the entry behind the first p of n, of a history that begins at byte h: where it begins, which is small, and that it is whole
pub record Lies (F : Format) (b : List ℕ) (h p s : ℕ) : Type 0 where
  pub begins : h + s * p ≡ 16 + length_in b + size F * p
  pub whole : h + s * p + size F ≤ length b

pub lies : (F : Format) (frame b : List ℕ) (n p s : ℕ) → Framed F frame b n → s ≡ size F → p < n → Lies F b (16 + length frame) p s
lies F frame b n p s t z k =
    let a = mul-suc (size F) p in
    let w : size F * suc p ≤ size F * n = mul-le-mul (let g : size F ≤ size F = omega arith in g) k in
    let e = t.whole in
    let r = t.inside in
    record { begins = rw (z, e); whole = rw z (let g : 16 + length frame + size F * p + size F ≤ length b = omega arith in g) }

module _ (F : Format) (f b : List ℕ) (e : Entry) where
  pub turn_back : (m at : ℕ) → 0 < m → e ≡ entry_of F (take (length b - at) (drop at b)) → at ≤ length b → at ≡ 16 + length_in b + size F * (m - 1) → fits plane_frames F f e ≡ true → (g : List ℕ) → g ≡ before plane_frames f e
      → history_verdict plane_frames F g (entries_to F b (m - 1)) ≡ history_verdict plane_frames F f (entries_to F b m)
  turn_back zero at l i v w t g q = absurd (omega arith)
  turn_back (suc p) at l i v w t g q =
      let n : suc p - 1 ≡ p = omega arith in
      let j : e ≡ numbered F b (suc p) = entry_from F b at e i v ∙ numbered_at F b p at (rw n at w) in
      rw (n, q, j) (sym (judge_back plane_frames F f b p (rw j at t)))

  pub turn_stop : (m at : ℕ) → 0 < m → e ≡ entry_of F (take (length b - at) (drop at b)) → at ≤ length b → at ≡ 16 + length_in b + size F * (m - 1) → fits plane_frames F f e ≡ false
      → (number : ℕ) → number ≡ m → refused 21 number ≡ history_verdict plane_frames F f (entries_to F b m)
  turn_stop zero at l i v w t number k = absurd (omega arith)
  turn_stop (suc p) at l i v w t number k =
      let n : suc p - 1 ≡ p = omega arith in
      let j : e ≡ numbered F b (suc p) = entry_from F b at e i v ∙ numbered_at F b p at (rw n at w) in
      rw k (sym (judge_stop plane_frames F f b p (rw j at t)))

  -- and what undoing gives, down to number k + 1
  pub turn_undone : (m at k : ℕ) → 0 < m → e ≡ entry_of F (take (length b - at) (drop at b)) → at ≤ length b → at ≡ 16 + length_in b + size F * (m - 1) → k < m → (g : List ℕ) → g ≡ before plane_frames f e
      → undone plane_frames g (take (m - 1 - k) (entries_to F b (m - 1))) ≡ undone plane_frames f (take (m - k) (entries_to F b m))
  turn_undone zero at k l i v w d g q = absurd (omega arith)
  turn_undone (suc p) at k l i v w d g q =
      let n : suc p - 1 ≡ p = omega arith in
      let j : e ≡ numbered F b (suc p) = entry_from F b at e i v ∙ numbered_at F b p at (rw n at w) in
      rw (n, q, j) (sym (restore_back plane_frames F f b p k (omega arith)))

module _ (F : Format) (map f b : List ℕ) (n k : ℕ) where
  -- an entry does not fit
  pub walked_stop : (r : Refusal) (g : List ℕ) → refusal r ≡ history_verdict plane_frames F f (entries_to F b n) → Walked F map f b n k (Err r) g
  walked_stop r g e = record {
    stops = λ q z. sym e ∙ same r q z;
    goes_on = λ z. absurd (true≢false (sym z));
    undoes = λ z. absurd (true≢false (sym z));
    undoing = λ z. absurd (true≢false (sym z));
  }
    where
      same : (r q : Refusal) → ◌≡◌ {A = Result ⊤ Refusal} (Err r) (Err q) → ◌≡◌ {A = Done} (refusal r) (refusal q)
      same r q z = cc

  -- all down to number k + 1 do
  pub walked_done : (m : ℕ) (g : List ℕ) → m ≡ k → history_verdict plane_frames F g (entries_to F b m) ≡ history_verdict plane_frames F f (entries_to F b n)
      → undone plane_frames g (take (m - k) (entries_to F b m)) ≡ undone plane_frames f (take (n - k) (entries_to F b n)) → Undoing map g → Walked F map f b n k (Ok tt) g
  walked_done m g z h d u = record {
    stops = λ r q. cc;
    goes_on = λ q. rw z at h;
    undoes = λ q. sym (restore_done plane_frames F g b k) ∙ rw z at d;
    undoing = λ q. u;
  }

  pub walked_bad : (r : Refusal) (g : List ℕ) → Walked F map f b n k (Err r) g → refusal r ≡ history_verdict plane_frames F f (entries_to F b n)
  walked_bad r g w = sym (w.stops r refl)

  -- no entry is left below number 0
  pub walked_all : (done : Result ⊤ Refusal) (g : List ℕ) → k ≡ 0 → Walked F map f b n k done g → unfit done ≡ history_verdict plane_frames F f (entries_to F b n)
  walked_all (Ok u) g z w = sym (judge_none plane_frames F g b) ∙ rw z at (w.goes_on refl)
  walked_all (Err r) g z w = walked_bad r g w

-- ---- a copy of the frame

module _ (frame found g : List ℕ) (l : length found ≡ length frame) (e : g ≡ sets found 0 frame) where
  copied : g ≡ frame
  copied = e ∙ sets_whole found frame (sym l)

  pub undoing_start : Accepted plane_frames frame → (map : List ℕ) → Heads frame map → Undoing map g
  undoing_start a map k = subst (Undoing map) (sym copied) (record { frame = a; heads = k })

  pub same_history : (F : Format) (es : List Entry) (o : Done) → o ≡ history_verdict plane_frames F g es → o ≡ history_verdict plane_frames F frame es
  same_history F es o q = q ∙ ap (λ (s : List ℕ). history_verdict plane_frames F s es) copied

-- the frame on the way, kept: a copy of a copy of the frame with the newer entries undone
pub kept_frame : (F : Format) (frame f g₀ kept kept' g b : List ℕ) (n k stop : ℕ) → length f ≡ length frame → g₀ ≡ sets f 0 frame → length kept ≡ length frame → kept' ≡ sets kept 0 g
    → length g ≡ length g₀ → g ≡ undone plane_frames g₀ (take (n - stop) (entries_to F b n)) → stop ≡ k → kept' ≡ undone plane_frames frame (take (n - k) (entries_to F b n))
kept_frame F frame f g₀ kept kept' g b n k stop l e m d w u z =
    let c : g₀ ≡ frame = copied frame f g₀ l e in
    let q : length g ≡ length kept = w ∙ ap length c ∙ sym m in
    d ∙ sets_whole kept g q ∙ u ∙ ap₂ (λ (h : List ℕ) (i : ℕ). undone plane_frames h (take (n - i) (entries_to F b n))) c z

-- the part of a slice that was lent to be written, and what was not
pub part_kept : (x y : List ℕ) (n : ℕ) → length x ≡ n → n ≤ length (x ++ y)
part_kept x y n e = let l = length-append x y in omega arith

module _ (F : Format) (frame b : List ℕ) (n k : ℕ) (found : List ℕ) where
  module _ (v : accepted tt ≡ history_verdict plane_frames F frame (entries_to F b n)) where
    pub kept_written : (exit x y : List ℕ) → (leb k n && leb (length frame) (length found)) ≡ true → length x ≡ length frame
        → (k ≤ n → x ≡ undone plane_frames frame (take (n - k) (entries_to F b n))) → exit ≡ sets found 0 (take (length frame) (x ++ y)) → Kept F frame b n k found (Ok tt) exit
    kept_written exit x y t l u e =
        let w = u (leb-true k n (and_left (leb k n) (leb (length frame) (length found)) t)) in
        record { verdict = v; left = rw t (e ∙ ap (λ (l : List ℕ). sets found 0 l) (take_at x y (length frame) l ∙ w)) }

    pub kept_none : (leb k n && leb (length frame) (length found)) ≡ false → Kept F frame b n k found (Ok tt) found
    kept_none t = record { verdict = v; left = rw t }

  -- where an entry does not fit
  pub kept_refused : (r : Refusal) → refusal r ≡ history_verdict plane_frames F frame (entries_to F b n) → (done : Result ⊤ Refusal) → done ≡ Err r → Kept F frame b n k found done found
  kept_refused r v done e = record { verdict = ap unfit e ∙ v; left = rw e }
