-- A record's bytes and the sequences of calls that make them: each such sequence is one of ledger's, an accepted record has one, and its frame and
-- accepted corrections are the only ones.
-- Assumes nothing.
use Prim.Native.Nat.{ℕ, zero, suc, ◌+◌, ◌-◌, ◌*◌, ◌≤◌, ◌<◌}
use mathlib.Core.Path.{◌≡◌, refl, sym, ap, ap₂, subst, ◌∙◌}
use mathlib.Core.Logic.{◌↔◌}
use mathlib.Core.List.{List, [], ◌∷◌, ◌++◌, map, map-append}
use native.Mathlib.Omega.{arith}
use lib.ListN.{length, get_or, take, drop}
use borrow.Author.Tests.{eqb-true}
use Rattle.std.specs.Prelude.{Result, Ok}
use Rattle.format.specs.Words.{Bytes, word_at}
use Rattle.format.specs.Answers.{Done, accepted, refused, and_then}
use Rattle.format.proofs.items.WordLaws.{below_drop}
use Rattle.book.specs.declared.refusal.Refusal.{Refusal}
use Rattle.ledger.specs.Formats as formats
use Rattle.ledger.specs.Formats.{Entry}
use Rattle.ledger.specs.Records.{length_in, count_in, total_in, entry_of, numbered, entries_to, entries_in, record_verdict}
use Rattle.ledger.specs.Calls.{Summary, record_answer, open_exit, restored}
use Rattle.ledger.specs.Histories as histories
use Rattle.ledger.specs.Histories.{oldest_first, correction_of, edit_all, made, record_after, accepted_edits}
use Rattle.ledger.specs.VersionTwo.{time_in, desk_in, version_two}
use Rattle.ledger.specs.Versions.{v2, format_in}
use Rattle.ledger.specs.PlaneFrames.{plane_frames}
use Rattle.ledger.specs.Layout.{total_length}
use Rattle.ledger.proofs.histories.Backward.{restored_first}
use Rattle.ledger.proofs.plane.PlaneFrames.{plane_lawful}
use Rattle.ledger.proofs.plane.OneJudge.{by_word}
use Rattle.ledger.proofs.records.Judging.{record_chain}
use Rattle.ledger.proofs.front.PlaneDemand3 as house3
use Rattle.records.specs.declared.answers.Record.{Record}
use Rattle.records.specs.Views.{summary_of}
use Rattle.records.proofs.Unique.{same_record}
use Rattle.editor.specs.declared.editing.Correction.{Correction}
use Rattle.editor.specs.Views.{Answer, asked}
use Rattle.records.specs.Promises.{Recorded}
use Rattle.editor.specs.Sequences.{Calls, done, then, made_by, correction_for, Given, AllGiven, none, more, Sequence}
use Rattle.editor.proofs.CallLaws.{calls_edit_all, calls_made, after_calls, called}

-- ---- what `record` answers
module _ (b : List ℕ) where
  pub recorded : (x : Record) → Recorded b (Ok x) → record_verdict plane_frames (format_in b) b ≡ accepted tt
  unfolding record_answer
  recorded x e = go (record_verdict plane_frames (format_in b) b) _ e
    where
      go : (d : Done) (s : Summary) → accepted (summary_of x) ≡ and_then d (λ u. accepted s) → d ≡ accepted tt
      go (accepted u) s q = refl
      go (refused n p) s q = let z : ◌≡◌ {A = ℕ} 0 1 = cc in absurd (omega arith)

  pub recorded_back : (r : Result Record Refusal) → Recorded b r → record_verdict plane_frames (format_in b) b ≡ accepted tt → (x : Record) × (r ≡ Ok x)
  unfolding record_answer
  recorded_back r t v =
      (record { length = length_in b; count = count_in b; total = total_in (format_in b) b }, same_record r _ (t ∙ rw v))

  pub recorded_refused : (n p : ℕ) → (refused n p ≡ record_answer plane_frames (format_in b) b) ↔ (record_verdict plane_frames (format_in b) b ≡ refused n p)
  unfolding record_answer
  recorded_refused n p = go (record_verdict plane_frames (format_in b) b) _
    where
      go : (d : Done) (s : Summary) → (refused n p ≡ and_then d (λ u. accepted s)) ↔ (d ≡ refused n p)
      go (accepted u) s = (λ e. let z : ◌≡◌ {A = ℕ} 0 1 = cc in absurd (omega arith), λ e. let z : ◌≡◌ {A = ℕ} 0 1 = cc in absurd (omega arith))
      go (refused m q) s = (λ e. let i : m ≡ n = cc in let j : q ≡ p = cc in rw (i, j), λ e. let i : m ≡ n = cc in let j : q ≡ p = cc in rw (i, j))

-- a record that names version 2 is judged as one
pub as_two : (b : List ℕ) → word_at b 0 ≡ 2 → record_verdict plane_frames (format_in b) b ≡ accepted tt → record_verdict plane_frames version_two b ≡ accepted tt
as_two b e v = ap (λ (F : formats.Format). record_verdict plane_frames F b) (sym (by_word v2 b e)) ∙ v

-- ---- the corrections that a record's entries tell of; the desk of each is 0
module _ (b : List ℕ) (v : record_verdict plane_frames version_two b ≡ accepted tt) where
  no_desk : (j : ℕ) → j < count_in b → desk_in (numbered version_two b (suc j)).extra ≡ 0
  unfolding version_two
  no_desk j h = eqb-true _ _ (((record_chain plane_frames version_two b).0 v).2.1.fit j (omega arith) h).suits

  pair : (j : ℕ) → (numbered version_two b j).extra ≡ time_in (numbered version_two b j).extra ∷ desk_in (numbered version_two b j).extra ∷ []
  unfolding numbered entry_of version_two
  pair j = refl

  asked_for : (j : ℕ) → j < count_in b → asked (correction_for (numbered version_two b (suc j))) ≡ correction_of (numbered version_two b (suc j))
  asked_for j h =
      let e = numbered version_two b (suc j) in
      ap (λ (x : List ℕ). record { word = e.word; value = e.new; operator = e.operator; reason = e.reason; extra = x })
      (ap (λ (d : ℕ). time_in e.extra ∷ d ∷ []) (sym (no_desk j h)) ∙ sym (pair (suc j)))

  all_asked : (n : ℕ) → n ≤ count_in b → map asked (map correction_for (oldest_first (entries_to version_two b n))) ≡ map correction_of (oldest_first (entries_to version_two b n))
  unfolding entries_to oldest_first
  all_asked zero h = refl
  all_asked (suc n) h =
      let l = oldest_first (entries_to version_two b n) in
      let x = numbered version_two b (suc n) in
      ap (map asked) (map-append correction_for l (x ∷ []))
      ∙ map-append asked (map correction_for l) (correction_for x ∷ [])
      ∙ ap₂ (λ (c : List formats.Correction) (d : formats.Correction). c ++ (d ∷ [])) (all_asked n (omega arith)) (asked_for n (omega arith))
      ∙ sym (map-append correction_of l (x ∷ []))

given_for : (b : List ℕ) → Bytes b → (j : ℕ) → Given (correction_for (numbered version_two b j))
unfolding numbered entry_of length_in version_two
given_for b y j =
    let at = 16 + length_in b + 24 * (j - 1) in
    let s : (i : ℕ) → get_or (drop at b) i 0 < 256 = below_drop at b 256 y in
    let t : (i : ℕ) → get_or (drop 16 (drop at b)) i 0 < 256 = below_drop 16 (drop at b) 256 s in
    record {
      word = omega (arith, s 0, s 1);
      value = omega (arith, s 8, s 9, s 10, s 11);
      operator = omega (arith, s 12, s 13);
      reason = omega (arith, s 14, s 15);
      time = omega (arith, t 0, t 1, t 2, t 3, t 4, t 5);
    }

given_both : {cs ds : List Correction} → AllGiven cs → AllGiven ds → AllGiven (cs ++ ds)
given_both none h = h
given_both (more g r) h = more g (given_both r h)

all_given : (b : List ℕ) → Bytes b → (n : ℕ) → AllGiven (map correction_for (oldest_first (entries_to version_two b n)))
unfolding entries_to oldest_first
all_given b y zero = none
all_given b y (suc n) = rw (map-append correction_for (oldest_first (entries_to version_two b n)) (numbered version_two b (suc n) ∷ [])) (given_both (all_given b y n) (more (given_for b y (suc n)) none))

-- ---- a sequence of calls is one of ledger's
module _ (b : List ℕ) (S : Sequence b) where
  left_after : S.left ≡ record_after plane_frames version_two S.frame S.buffer (map asked S.corrections)
  left_after = calls_edit_all S.calls ∙ ap (λ (m : List ℕ). edit_all plane_frames version_two m (map asked S.corrections)) S.opening.left

  pub as_ledgers : histories.Sequence plane_frames version_two b
  unfolding length_in count_in version_two
  as_ledgers = record {
    origin = S.frame;
    buffer = S.buffer;
    calls = map asked S.corrections;
    bytes = S.lent.0;
    opened = sym S.opening.answered;
    whole = subst (λ (l : List ℕ). total_length v2 l ≤ length b) left_after S.whole;
    same = subst (λ (l : List ℕ). take (total_length v2 l) b ≡ take (total_length v2 l) l) left_after S.same;
  }

  edits_made : map asked (made_by S.corrections S.answers) ≡ accepted_edits plane_frames version_two S.frame S.buffer (map asked S.corrections)
  edits_made = calls_made S.calls ∙ ap (λ (m : List ℕ). made plane_frames version_two m (map asked S.corrections)) S.opening.left

  -- its frame and its accepted corrections are those that the record tells of
  pub only_frame : S.frame ≡ restored plane_frames version_two b 0
  unfolding as_ledgers
  only_frame = (house3.the_only_ones v2 b as_ledgers).0

  pub only_corrections : made_by S.corrections S.answers ≡ map correction_for (oldest_first (entries_in version_two b))
  unfolding as_ledgers
  only_corrections =
      sym (back (made_by S.corrections S.answers))
      ∙ ap (map unasked) (edits_made ∙ (house3.the_only_ones v2 b as_ledgers).1)
      ∙ both (oldest_first (entries_in version_two b))
    where
      unasked : formats.Correction → Correction
      unasked c = record { word = c.word; value = c.value; operator = c.operator; reason = c.reason; time = time_in c.extra }

      back : (cs : List Correction) → map unasked (map asked cs) ≡ cs
      back [] = refl
      back (c ∷ cs) = ap (λ (l : List Correction). c ∷ l) (back cs)

      both : (es : List Entry) → map unasked (map correction_of es) ≡ map correction_for es
      both [] = refl
      both (e ∷ es) = ap (λ (l : List Correction). correction_for e ∷ l) (both es)

fits_inside : (b : List ℕ) → record_verdict plane_frames version_two b ≡ accepted tt → total_length v2 b ≤ length b
unfolding version_two length_in count_in
fits_inside b v = ((record_chain plane_frames version_two b).0 v).0.room

pub joined : {b m e : List ℕ} {cs ds : List Correction} {rs qs : List Answer} → Calls b cs rs m → Calls m ds qs e → Calls b (cs ++ ds) (rs ++ qs) e
joined done k = k
joined (then o j) k = then o (joined j k)

-- ---- and an accepted record has one: the frame that it restores to, opened in that very buffer, and its own entries as calls
module _ (b : List ℕ) (y : Bytes b) (v : record_verdict plane_frames version_two b ≡ accepted tt) where
  origin : List ℕ
  origin = restored plane_frames version_two b 0

  start : List ℕ
  start = open_exit plane_frames version_two origin b

  own : List Correction
  own = map correction_for (oldest_first (entries_in version_two b))

  makes : edit_all plane_frames version_two start (map asked own) ≡ b
  unfolding origin start own
  makes = ap (edit_all plane_frames version_two (open_exit plane_frames version_two (restored plane_frames version_two b 0) b)) (all_asked b v (count_in b) (omega arith)) ∙ (house3.made_again v2 b y v).1

  pub has_sequence : Sequence b
  unfolding origin start own
  has_sequence =
      let k = called start own in
      let l : k.1.0 ≡ b = calls_edit_all k.1.1 ∙ makes in
      record {
        frame = origin;
        buffer = b;
        lent = ((restored_first plane_frames version_two (plane_lawful v2) b y v).bytes, y);
        opened = start;
        opening = record { answered = sym (house3.made_again v2 b y v).0; left = refl };
        corrections = own;
        given = all_given b y (count_in b);
        answers = k.0;
        left = k.1.0;
        calls = k.1.1;
        whole = subst (λ (x : List ℕ). total_length v2 x ≤ length b) (sym l) (fits_inside b v);
        same = subst (λ (x : List ℕ). take (total_length v2 x) b ≡ take (total_length v2 x) x) (sym l) refl;
      }

  pub own_buffer : has_sequence.buffer ≡ b
  unfolding has_sequence
  own_buffer = refl

  pub own_left : has_sequence.left ≡ b
  unfolding has_sequence
  own_left = calls_edit_all (called start own).1.1 ∙ makes

  -- calls on an accepted record are calls that follow that sequence
  pub followed : {cs : List Correction} {rs : List Answer} {e : List ℕ} → Calls b cs rs e → AllGiven cs → Sequence e
  followed {cs = cs} {rs = rs} {e = e} k g =
      let S = has_sequence in
      let a = joined S.calls (subst (λ (m : List ℕ). Calls m cs rs e) (sym own_left) k) in
      let v : record_verdict plane_frames version_two e ≡ accepted tt
      = ap (record_verdict plane_frames version_two) (after_calls S.frame S.buffer S.opened S.opening a)
      ∙ house3.accepted_after v2 S.frame S.buffer S.lent.0 (sym S.opening.answered) (map asked (S.corrections ++ cs)) in
      record {
        frame = S.frame;
        buffer = S.buffer;
        lent = S.lent;
        opened = S.opened;
        opening = S.opening;
        corrections = S.corrections ++ cs;
        given = given_both S.given g;
        answers = S.answers ++ rs;
        left = e;
        calls = a;
        whole = fits_inside e v;
        same = refl;
      }

pub accepted_exactly : (b : List ℕ) → Bytes b → (record_verdict plane_frames version_two b ≡ accepted tt) ↔ Sequence b
accepted_exactly b y = (has_sequence b y, λ S. (house3.accepted_exactly v2 b y).1 (as_ledgers b S))
