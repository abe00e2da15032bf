-- T7 of records: each call refuses by n at p exactly where document 01 says that n is due at p (specs/Reasons.antt), in its order; both ways.
-- Assumes nothing.
use Prim.Native.Nat.{ℕ, suc, ◌+◌, ◌-◌, ◌*◌, ◌≤◌, ◌<◌}
use mathlib.Core.Path.{◌≡◌, refl, sym, ap, subst, ◌∙◌}
use mathlib.Core.Logic.{◌↔◌, ◌⊎◌, inl, inr, ⊎_elim, by_cases}
use mathlib.Core.Bool.{Bool, true, false, not, ◌&&◌, true≢false}
use mathlib.Core.List.{List, [], ◌∷◌}
use mathlib.Core.Option.{Option, none, some}
use native.Mathlib.Omega.{arith}
use native.Mathlib.Decide.{dec_lt}
use lib.ListN.{length, drop}
use lib.Dec.{leb, eqb}
use borrow.Author.Tests.{leb-true, leb-false, eqb-true, eqb-false, not-false, not-true}
use Rattle.format.specs.Words.{Bytes, word_at, pick}
use Rattle.format.specs.Answers.{Outcome, accepted, refused, Done, and_then, need, first_of}
use Rattle.format.specs.Faults.{Refused}
use Rattle.format.specs.Frames.{Frame, verdict}
use Rattle.format.specs.Questions.{done}
use Rattle.format.specs.Spots.{Spot, spot, legal_value}
use Rattle.format.proofs.questions.ItemQuestions.{no_some, some_is}
use Rattle.format.proofs.book.PrefixLaws.{and_left, and_right}
use Rattle.format.proofs.front.Refusals as frames
use Rattle.ledger.specs.Formats.{Entry, Correction, size}
use Rattle.ledger.specs.Records.{length_in, count_in, total_in, frame_in, entry_of, numbered, entries_in, header_right, signed, at_spot, before, record_verdict}
use Rattle.ledger.specs.Calls.{new_value, entry_for, open_answer, edit_tests, edit_answer, restore_answer, entry_answer}
use Rattle.ledger.specs.Chains.{Header, Fits, Chain}
use Rattle.ledger.specs.VersionTwo.{time_in}
use Rattle.ledger.specs.Versions.{Version, format_of}
use Rattle.ledger.specs.PlaneFrames.{plane_frames, plane_frames_judge, Asks}
use Rattle.ledger.specs.Layout.{entry_size, total_length, frame_of, entry_from}
use Rattle.ledger.specs.Reasons.{HeaderBroken, Back, NewestUnfit, RecordRefused, of_header, of_frame, of_entry, OpenBroken, OpenRefused, EditBroken, target, illegal, present, signer, time, full, EditRefused, RestoreBroken, RestoreRefused, EntryBroken, EntryRefused}
use Rattle.ledger.specs.Reasons as reasons
use Rattle.ledger.proofs.answers.Answering.{not_both}
use Rattle.ledger.proofs.records.Codecs.{bytes_drop, bytes_part}
use Rattle.ledger.proofs.answers.Due.{same_refusal, Agrees, no_more, asked_first, tested, none_due, behind}
use Rattle.ledger.proofs.records.Headers.{header_words, header_right_lem}
use Rattle.ledger.proofs.records.Judging.{entry_place, chain_unique, parts_verdict, record_chain, header_refused, frame_refused, entry_refused}
use Rattle.ledger.proofs.plane.VersionLaws.{size_is, asks_nothing, full_limit, asks_suits, asks_good}
use Rattle.ledger.proofs.plane.PlaneFrames.{judged}
use Rattle.ledger.proofs.answers.EntryReasons.{spot_kind, illegal_value, value_illegal, unsigned, signed_not, broken_header, header_broken, whole_header, unfit_not, fit_or_unfit}

-- ---- frames
done_refused : (o : Outcome Frame) (n p : ℕ) → (done o ≡ refused n p) ↔ (o ≡ refused n p)
done_refused (accepted f) n p = (λ e. let z : ◌≡◌ {A = ℕ} 0 1 = cc in absurd (omega arith), λ e. let z : ◌≡◌ {A = ℕ} 0 1 = cc in absurd (omega arith))
done_refused (refused m q) n p = (λ e. let i : m ≡ n = cc in let j : q ≡ p = cc in rw (i, j), λ e. let i : m ≡ n = cc in let j : q ≡ p = cc in rw (i, j))

pub frame_refusals : (f : List ℕ) → Bytes f → (n p : ℕ) → (plane_frames.judge f ≡ refused n p) ↔ Refused f n p
frame_refusals f y n p = (
  λ e. (frames.refusals f y n p).0 ((done_refused (verdict f) n p).0 (sym (plane_frames_judge f) ∙ e)),
  λ r. plane_frames_judge f ∙ (done_refused (verdict f) n p).1 ((frames.refusals f y n p).1 r),
)

entry_refusal : (m q n p : ℕ) → ◌≡◌ {A = Outcome Entry} (refused m q) (refused n p) → (m ≡ n) × (q ≡ p)
entry_refusal m q n p e = (cc, cc)

-- ---- the item at a word
module _ (test : Spot → Bool) (any : (s : Spot) → test s ≡ true) where
  no_spot : (o : Option Spot) → at_spot o test ≡ false → (p : Spot) → o ≡ some p → ⊥
  no_spot none e p q = absurd (no_some p q)
  no_spot (some s) e p q = true≢false (sym (any s) ∙ e)

  has_spot : (o : Option Spot) → at_spot o test ≡ true → (p : Spot) × (o ≡ some p)
  has_spot none e = absurd (true≢false (sym e))
  has_spot (some s) e = (s, refl)

at_item : (o : Option Spot) (p : Spot) → o ≡ some p → (f : Spot → Bool) (t : Bool) → at_spot o f ≡ t → f p ≡ t
at_item o p q f t e = ap (λ (i : Option Spot). at_spot i f) (sym q) ∙ e

-- a test that fails lets one of its two parts fail
either : (a c : Bool) → (a && c) ≡ false → (a ≡ false) ⊎ (c ≡ false)
either true c e = inr e
either false c e = inl refl

-- ---- records
module _ (v : Version) (b : List ℕ) where
  -- where an entry stands, by the documents' numerals
  entry_at : (j : ℕ) → numbered (format_of v) b j ≡ entry_of (format_of v) (entry_from v b j)
  unfolding numbered length_in
  entry_at j = ap (λ (n : ℕ). entry_of (format_of v) (drop (16 + word_at b 3 + n * (j - 1)) b)) (size_is v)

  one_more : total_in (format_of v) b + size (format_of v) ≡ total_length v b + entry_size v
  unfolding length_in count_in
  one_more = ap (λ (n : ℕ). 16 + word_at b 3 + n * word_at b 5 + n) (size_is v)

  module _ (y : Bytes b) where
    entry_bytes : (j : ℕ) → Bytes (entry_from v b j)
    entry_bytes j = bytes_drop b (16 + word_at b 3 + entry_size v * (j - 1)) y

    pub chain_back : (j : ℕ) (f : ℕ → List ℕ) → Chain plane_frames (format_of v) b j f ↔ Back v b j f
    unfolding entry_of length_in count_in plane_frames
    chain_back j f = (
      λ C. record {
        standing = C.standing;
        fit = λ m l h. unfit_not v (f (suc m)) (entry_from v b (suc m)) (subst (Fits plane_frames (format_of v) (f (suc m))) (entry_at (suc m)) (C.fit m l h));
        old = λ m l h. C.back m l h ∙ ap (before plane_frames (f (suc m))) (entry_at (suc m));
      },
      λ r. record {
        standing = r.standing;
        fit = λ m l h.
            subst (Fits plane_frames (format_of v) (f (suc m))) (sym (entry_at (suc m)))
            (⊎_elim (λ t. t) (λ u. absurd (r.fit m l h u)) (fit_or_unfit v (f (suc m)) (entry_from v b (suc m)) (entry_bytes (suc m))));
        back = λ m l h. r.old m l h ∙ ap (before plane_frames (f (suc m))) (sym (entry_at (suc m)));
      },
    )

    -- accepted: a header that is not broken, an accepted frame, and frames back to the first
    pub record_stands : (record_verdict plane_frames (format_of v) b ≡ accepted tt)
        ↔ ((HeaderBroken v b → ⊥) × ((g : Frame) × (verdict (frame_of b) ≡ accepted g)) × ((f : ℕ → List ℕ) × Back v b 0 f))
    unfolding length_in
    record_stands =
        let x = record_chain plane_frames (format_of v) b in (
          λ e.
              let w = x.0 e in
              (header_broken v b w.0, judged (verdict (frame_of b)) (sym (plane_frames_judge (frame_of b)) ∙ w.1), (w.2.0, (chain_back 0 w.2.0).0 w.2.1)),
          λ w. x.1 (whole_header v b w.0, plane_frames_judge (frame_of b) ∙ ap (λ (o : Outcome Frame). done o) w.1.1, (w.2.0, (chain_back 0 w.2.0).1 w.2.1)),
        )

    pub back_unique : (j : ℕ) (f g : ℕ → List ℕ) → Back v b j f → Back v b j g → (m : ℕ) → j ≤ m → m ≤ word_at b 5 → f m ≡ g m
    unfolding count_in
    back_unique j f g r q = chain_unique plane_frames (format_of v) b j f g ((chain_back j f).1 r) ((chain_back j g).1 q)

    frame_bytes : Bytes (frame_in b)
    frame_bytes = bytes_part b 16 (length_in b) y

    frame_due : (n p : ℕ) → (plane_frames.judge (frame_in b) ≡ refused n p) ↔ Refused (frame_of b) n p
    unfolding length_in
    frame_due = frame_refusals (frame_in b) frame_bytes

    -- 21: the numbers of the chain, as document 01 says them
    entry_due : (j : ℕ) → Header (format_of v) b → plane_frames.judge (frame_in b) ≡ accepted tt → (record_verdict plane_frames (format_of v) b ≡ refused 21 j) ↔ NewestUnfit v b j
    unfolding count_in
    entry_due j h a =
        let x = entry_refused plane_frames (format_of v) b j h a in (
          λ e.
              let w = x.0 e in
              record {
                least = w.0;
                most = w.1;
                frames = w.2.0;
                back = (chain_back j w.2.0).0 w.2.1;
                unfit =
                    ⊎_elim (λ t. absurd (w.2.2 (subst (Fits plane_frames (format_of v) (w.2.0 j)) (sym (entry_at j)) t))) (λ u. u)
                    (fit_or_unfit v (w.2.0 j) (entry_from v b j) (entry_bytes j));
              },
          λ u. x.1 (u.least, u.most, (u.frames, (chain_back j u.frames).1 u.back, λ t. unfit_not v (u.frames j) (entry_from v b j) (subst (Fits plane_frames (format_of v) (u.frames j)) (entry_at j) t) u.unfit)),
        )

    due : (n p : ℕ) → record_verdict plane_frames (format_of v) b ≡ refused n p → RecordRefused v b n p
    due n p e = go (header_right (format_of v) b) refl
      where
        by_frame : Header (format_of v) b → (o : Done) → plane_frames.judge (frame_in b) ≡ o → RecordRefused v b n p
        by_frame h (accepted u) q =
            let k : n ≡ 21 = (entry_place plane_frames (format_of v) (frame_in b) (entries_in (format_of v) b) n p (sym (parts_verdict plane_frames (format_of v) b (header_right_lem (format_of v) b h) q) ∙ e)).0 in
            subst (λ (m : ℕ). RecordRefused v b m p) (sym k)
            (of_entry p (header_broken v b h) ((none_due _ _ frame_due).0 q) ((entry_due p h q).0 (e ∙ ap (λ (m : ℕ). refused m p) k)))
        by_frame h (refused m r) q =
            let k = sym (frame_refused plane_frames (format_of v) b m r h q) ∙ e in
            of_frame n p (header_broken v b h) ((frame_due n p).0 (q ∙ k))

        go : (t : Bool) → header_right (format_of v) b ≡ t → RecordRefused v b n p
        go true q = by_frame (header_words (format_of v) b q) (plane_frames.judge (frame_in b)) refl
        go false q =
            let k = broken_header v b q in
            let (i, j) = same_refusal 20 0 n p (sym (header_refused plane_frames (format_of v) b (λ h. header_broken v b h k)) ∙ e) in
            subst (λ (m : ℕ). RecordRefused v b m p) i (subst (RecordRefused v b 20) j (of_header k))

    given : (n p : ℕ) → RecordRefused v b n p → record_verdict plane_frames (format_of v) b ≡ refused n p
    given n p (of_header k) = header_refused plane_frames (format_of v) b (λ h. header_broken v b h k)
    given n p (of_frame m q k r) = frame_refused plane_frames (format_of v) b m q (whole_header v b k) ((frame_due m q).1 r)
    given n p (of_entry j k free u) = (entry_due j (whole_header v b k) ((none_due _ _ frame_due).1 free)).1 u

    -- a record: 20, then the frame's refusals, then 21 at the newest entry that does not fit
    pub record_refused : (n p : ℕ) → (record_verdict plane_frames (format_of v) b ≡ refused n p) ↔ RecordRefused v b n p
    record_refused n p = (due n p, given n p)

    -- of an accepted frame under a header of which nothing is broken: 21 at j exactly where entry j is the newest that does not fit
    pub newest_unfit : (j : ℕ) → (HeaderBroken v b → ⊥) → ((n p : ℕ) → Refused (frame_of b) n p → ⊥) → (record_verdict plane_frames (format_of v) b ≡ refused 21 j) ↔ NewestUnfit v b j
    newest_unfit j h r = entry_due j (whole_header v b h) ((none_due _ _ frame_due).1 r)

    pub record_accepted : (record_verdict plane_frames (format_of v) b ≡ accepted tt) ↔ ((n p : ℕ) → RecordRefused v b n p → ⊥)
    record_accepted = none_due (record_verdict plane_frames (format_of v) b) (RecordRefused v b) record_refused

    -- ---- restoring: record refusals, 26, 12
    restore_agrees : (k : ℕ) (out : List ℕ) → Agrees (RestoreBroken b k out) (need (leb k (count_in b)) 26 0 ∷ need (leb (length_in b) (length out)) 12 0 ∷ []) (26 ∷ 12 ∷ [])
    unfolding length_in count_in
    restore_agrees k out =
        tested _ _ 26 _ _ (λ e. reasons.above (leb-false _ _ e)) (λ e. above_not _ _ _ (leb-true _ _ e))
        (λ s. tested _ _ 12 _ _ (λ e. reasons.room (leb-false _ _ e)) (λ e. room_not _ _ _ (leb-true _ _ e)) (λ t. no_more _))
      where
        above_not : (b : List ℕ) (k : ℕ) (out : List ℕ) → k ≤ word_at b 5 → RestoreBroken b k out 26 → ⊥
        above_not b k out h (reasons.above l) = omega arith

        room_not : (b : List ℕ) (k : ℕ) (out : List ℕ) → word_at b 3 ≤ length out → RestoreBroken b k out 12 → ⊥
        room_not b k out h (reasons.room l) = omega arith

    pub restore_refused : (k : ℕ) (out : List ℕ) (n p : ℕ) → (restore_answer plane_frames (format_of v) b k out ≡ refused n p) ↔ RestoreRefused v b k out n p
    unfolding restore_answer
    restore_refused k out = behind (RecordRefused v b) (RestoreBroken b k out) (26 ∷ 12 ∷ []) _ _ record_refused (λ a. restore_agrees k out)

    -- ---- entry j: record refusals, 26
    entry_agrees : (j : ℕ) → Agrees (EntryBroken b j) (need (leb 1 j && leb j (count_in b)) 26 0 ∷ []) (26 ∷ [])
    unfolding count_in
    entry_agrees j =
        tested _ _ 26 _ _ (λ e. no_number j (leb 1 j) refl e) (λ e. number_not (leb-true 1 j (and_left _ _ e)) (leb-true j (word_at b 5) (and_right (leb 1 j) _ e))) (λ t. no_more _)
      where
        no_number : (j : ℕ) (t : Bool) → leb 1 j ≡ t → (t && leb j (word_at b 5)) ≡ false → EntryBroken b j 26
        no_number j true q e = reasons.above (leb-false j (word_at b 5) e)
        no_number j false q e = reasons.none (let l = leb-false 1 j q in omega arith)

        number_not : {j : ℕ} → 1 ≤ j → j ≤ word_at b 5 → EntryBroken b j 26 → ⊥
        number_not l h (reasons.none e) = omega arith
        number_not l h (reasons.above e) = omega arith

    -- the question refuses as these two tests do
    as_tests : (o : Done) (t : Bool) (e : Entry) (n p : ℕ) → (and_then o (λ u. pick t (accepted e) (refused 26 0)) ≡ refused n p) ↔ (first_of (o ∷ need t 26 0 ∷ []) ≡ refused n p)
    unfolding first_of
    as_tests (accepted u) true e n p = (λ h. absurd (not_both (accepted e) e n p refl h), λ h. absurd (not_both (first_of []) tt n p refl h))
    as_tests (accepted u) false e n p = (λ h. let q = entry_refusal 26 0 n p h in rw (q.0, q.1), λ h. let q = same_refusal 26 0 n p h in rw (q.0, q.1))
    as_tests (refused m q) t e n p = (λ h. let r = entry_refusal m q n p h in rw (r.0, r.1), λ h. let r = same_refusal m q n p h in rw (r.0, r.1))

    pub entry_refused_by : (j n p : ℕ) → (entry_answer plane_frames (format_of v) b j ≡ refused n p) ↔ EntryRefused v b j n p
    unfolding entry_answer
    entry_refused_by j n p =
        let x = as_tests (record_verdict plane_frames (format_of v) b) (leb 1 j && leb j (count_in b)) (numbered (format_of v) b j) n p in
        let y = behind (RecordRefused v b) (EntryBroken b j) (26 ∷ []) _ _ record_refused (λ a. entry_agrees j) n p in
        (λ e. y.0 (x.0 e), λ r. x.1 (y.1 r))

    -- ---- an edit: record refusals, 22, 23, 24, 25, 12
    module _ (c : Correction) (x : Asks v c.extra) where
      value_broken : (p : Spot) → spot (frame_of b) c.word ≡ some p → new_value plane_frames c p ≡ false → EditBroken v b c 23
      unfolding new_value plane_frames
      value_broken p s e = go (legal_value p.kind c.value) refl e
        where
          go : (t : Bool) → legal_value p.kind c.value ≡ t → (t && not (eqb p.value c.value)) ≡ false → EditBroken v b c 23
          go true q h = present p s (eqb-true _ _ (not-false _ h))
          go false q h = illegal p s (illegal_value p.kind c.value (spot_kind (frame_of b) c.word p s) q)

      value_not : (p : Spot) → spot (frame_of b) c.word ≡ some p → new_value plane_frames c p ≡ true → EditBroken v b c 23 → ⊥
      unfolding new_value plane_frames
      value_not p s e (illegal q t h) =
          let k : p ≡ q = some_is p q (sym s ∙ t) in
          value_illegal q.kind c.value (ap (λ (r : Spot). legal_value r.kind c.value) (sym k) ∙ and_left _ _ e) h
      value_not p s e (present q t h) =
          let k : p ≡ q = some_is p q (sym s ∙ t) in
          eqb-false _ _ (not-true _ (and_right (legal_value p.kind c.value) _ e)) (ap (λ (r : Spot). r.value) k ∙ h)

      signer_broken : (signed c.operator c.reason && (format_of v).good c.extra) ≡ false → EditBroken v b c 24
      signer_broken e =
          ⊎_elim (λ h. signer (unsigned _ _ h))
          (λ h. by_cases (dec_lt (time_in c.extra) 281474976710656) (λ l. absurd (true≢false (sym ((asks_good v c.extra x).1 l) ∙ h))) (λ n. let k : time_in c.extra < 281474976710656 → ⊥ = n in time (omega arith)))
          (either (signed c.operator c.reason) ((format_of v).good c.extra) e)

      signer_not : (signed c.operator c.reason && (format_of v).good c.extra) ≡ true → EditBroken v b c 24 → ⊥
      signer_not e (signer h) = signed_not _ _ (and_left _ _ e) h
      signer_not e (time h) = let l = (asks_good v c.extra x).0 (and_right (signed c.operator c.reason) _ e) in omega arith

      full_broken : (e : Entry) → (format_of v).limit (e ∷ entries_in (format_of v) b) ≡ false → EditBroken v b c 25
      unfolding count_in
      full_broken e h = by_cases (dec_lt (count_in b) 512) (λ l. absurd (true≢false (sym ((full_limit v b e).1 l) ∙ h))) (λ m. let k : word_at b 5 < 512 → ⊥ = m in full (omega arith))

      full_not : (e : Entry) → (format_of v).limit (e ∷ entries_in (format_of v) b) ≡ true → EditBroken v b c 25 → ⊥
      unfolding count_in
      full_not e h (full l) = let k = (full_limit v b e).0 h in omega arith

      room_broken : leb (total_in (format_of v) b + size (format_of v)) (length b) ≡ false → EditBroken v b c 12
      room_broken e = reasons.room (let l = leb-false (total_in (format_of v) b + size (format_of v)) (length b) e in let m = one_more in omega arith)

      room_not : leb (total_in (format_of v) b + size (format_of v)) (length b) ≡ true → EditBroken v b c 12 → ⊥
      room_not e (reasons.room l) = let h = leb-true (total_in (format_of v) b + size (format_of v)) (length b) e in let m = one_more in omega arith

      target_not : (p : Spot) → spot (frame_of b) c.word ≡ some p → EditBroken v b c 22 → ⊥
      target_not p s (target h) = h p s

      pub edit_refused_by : (n p : ℕ) → (edit_answer plane_frames (format_of v) b c ≡ refused n p) ↔ EditRefused v b c n p
      unfolding edit_answer edit_tests plane_frames length_in count_in
      edit_refused_by =
          let any = asks_suits v c.extra x in
          behind (RecordRefused v b) (EditBroken v b c) (22 ∷ 23 ∷ 24 ∷ 25 ∷ 12 ∷ []) _ _ record_refused
          (λ a. asked_first _ _ _ _ (asks_nothing v c.extra)
          (tested _ _ 22 _ _ (λ e. target (no_spot _ any _ e)) (λ e. let s = has_spot _ any _ e in target_not s.0 s.1)
          (λ e.
          let s = has_spot _ any _ e in
          tested _ _ 23 _ _ (λ h. value_broken s.0 s.1 (at_item _ s.0 s.1 (new_value plane_frames c) false h)) (λ h. value_not s.0 s.1 (at_item _ s.0 s.1 (new_value plane_frames c) true h))
          (λ h. tested _ _ 24 _ _ signer_broken signer_not
          (λ h. tested _ _ 25 _ _ (full_broken (entry_for plane_frames (frame_in b) c)) (full_not (entry_for plane_frames (frame_in b) c))
          (λ h. tested _ _ 12 _ _ room_broken room_not
          (λ h. no_more _)))))))

-- ---- opening: frame refusals, 12
pub open_refused_by : (v : Version) (f b : List ℕ) → Bytes f → (n p : ℕ) → (open_answer plane_frames (format_of v) f b ≡ refused n p) ↔ OpenRefused f b n p
unfolding open_answer
open_refused_by v f b y =
    behind (Refused f) (OpenBroken f b) (12 ∷ []) _ _ (frame_refusals f y)
    (λ a. tested _ _ 12 _ _ (λ e. reasons.room (leb-false _ _ e)) (λ e. room_not (leb-true _ _ e)) (λ e. no_more _))
  where
    room_not : 16 + length f ≤ length b → OpenBroken f b 12 → ⊥
    room_not h (reasons.room l) = omega arith
