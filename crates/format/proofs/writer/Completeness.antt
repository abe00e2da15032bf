-- T18, T19, T20. A run of begin, one add for each item, and close: it accepts exactly the legal frames that fit the buffer, and leaves what the
-- frame is written as, the rest of the buffer untouched.
-- Assumes nothing.
use Prim.Native.Nat.{ℕ, ◌+◌, ◌-◌, ◌<◌, ◌≤◌}
use mathlib.Core.Path.{◌≡◌, refl, sym, ap, ap₂, subst, ◌∙◌}
use mathlib.Core.List.{List, [], ◌∷◌, ◌++◌, map, append-nil, append_assoc}
use mathlib.Core.Logic.{◌⊎◌, inl, inr, ⊎_elim, ⊎_map}
use mathlib.Core.Bool.{Bool, true, false}
use native.Mathlib.Omega.{arith}
use lib.Dec.{leb}
use borrow.Author.Tests.{leb-true, leb-false}
use lib.ListN.{length, take, drop, length-append}
use lib.Seq.{drop-drop, drop_at, take_at}
use Rattle.format.specs.Words.{Bytes, bytes}
use Rattle.format.specs.Answers.{Outcome, accepted, refused}
use Rattle.format.specs.Items.{Item, words_of, Token, whole}
use Rattle.format.specs.Rules.{Kind, may_end}
use Rattle.format.specs.Frames.{Frame, earlier_then, Allowed, Sound, all_words, encode, Legal, verdict}
use Rattle.format.specs.Writing.{partial_words, partial_verdict, begin_answer, begin_left, add_answer, add_left, close_answer, close_left}
use Rattle.format.specs.WriterCalls.{CallsDone, calls_done, then_calls, add_all, write_all}
use Rattle.format.specs.WriterCases.{longer, begins, begin_short, adds, add_short, closes, Begun, content, WritingDone}
use Rattle.format.proofs.items.WordLaws.{length_bytes}
use Rattle.format.proofs.verdict.Acceptance.{sound, complete}
use Rattle.format.proofs.questions.ItemQuestions.{all_words_lem}
use Rattle.format.proofs.rules.SoundLaws.{sound_right, sound_head}
use Rattle.format.proofs.writer.JoinLaws.{behind_one}
use Rattle.format.proofs.writer.PartialLaws.{partial_complete, begun_length}
use Rattle.format.proofs.writer.WriterLaws.{begin_exactly, begin_accepted, add_exactly, add_accepted, close_exactly, close_accepted}
use Rattle.format.proofs.writer.StoreLaws.{six, begin_left_lem, begin_kept, add_kept, close_left_lem}
use Rattle.format.proofs.writer.WriterSteps.{begin_begun, add_begun, add_rest, encode_length, close_legal}

-- ---- a run, a call at a time

next_accepted : (o : Outcome ℕ) (left : List ℕ) (calls : ℕ → CallsDone) (n : ℕ) → o ≡ accepted n → then_calls o left calls ≡ calls n
next_accepted o left calls n e = rw e

next_refused : (o : Outcome ℕ) (left : List ℕ) (calls : ℕ → CallsDone) (k p : ℕ) → o ≡ refused k p → then_calls o left calls ≡ calls_done (refused k p) left
next_refused o left calls k p e = rw e

pub begin_on : (buf : List ℕ) (kind : Kind) (card sequence : ℕ) (ts : List Token) (n : ℕ) → begin_answer buf card sequence ≡ accepted n
    → write_all buf kind card sequence ts ≡ add_all (begin_left buf kind card sequence) n ts
unfolding write_all
begin_on buf kind card sequence ts n e = next_accepted _ _ _ n e

pub begin_stops : (buf : List ℕ) (kind : Kind) (card sequence : ℕ) (ts : List Token) (k p : ℕ) → begin_answer buf card sequence ≡ refused k p
    → write_all buf kind card sequence ts ≡ calls_done (refused k p) (begin_left buf kind card sequence)
unfolding write_all
begin_stops buf kind card sequence ts k p e = next_refused _ _ _ k p e

pub add_on : (buf : List ℕ) (n : ℕ) (t : Token) (ts : List Token) (m : ℕ) → add_answer buf n t ≡ accepted m → add_all buf n (t ∷ ts) ≡ add_all (add_left buf n t) m ts
unfolding add_all
add_on buf n t ts m e = next_accepted _ _ _ m e

pub add_stops : (buf : List ℕ) (n : ℕ) (t : Token) (ts : List Token) (k p : ℕ) → add_answer buf n t ≡ refused k p → add_all buf n (t ∷ ts) ≡ calls_done (refused k p) (add_left buf n t)
unfolding add_all
add_stops buf n t ts k p e = next_refused _ _ _ k p e

pub close_on : (buf : List ℕ) (n : ℕ) → add_all buf n [] ≡ calls_done (close_answer buf n) (close_left buf n)
unfolding add_all
close_on buf n = refl

-- ---- while it runs

module _ (kind : Kind) (card sequence : ℕ) (buf : List ℕ) where
  -- the frame of some items
  abbrev frame : List Item → Frame
  frame xs = record { kind = kind; card = card; sequence = sequence; items = xs }

  -- the items xs are written in b, with room for an end word; the rest is as in buf
  record Running (b : List ℕ) (n : ℕ) (xs : List Item) : Type 0 where
    pub begun : Begun b n (content kind card sequence xs) xs
    pub rest : drop n b ≡ drop n buf
    pub kept : length b ≡ length buf
    pub room : n + 2 ≤ length buf

  -- a length is too much for the buffer, or for a frame
  abbrev Over : ℕ → Type 0
  Over m = (length buf < m) ⊎ (8192 < m)

  starts : (n : ℕ) → begin_answer buf card sequence ≡ accepted n → Running (begin_left buf kind card sequence) n []
  starts n e =
      let b = begin_accepted buf card sequence n e in
      let r = b.room in
      let q = b.reached in
      let g = begin_begun buf kind card sequence n e in
      let w = begun_length (begin_left buf kind card sequence) 6 (content kind card sequence []) [] g in
      subst (λ (n : ℕ). Running (begin_left buf kind card sequence) n []) (sym q)
      (record {
        begun = g;
        rest = ap (drop 6) (begin_left_lem buf kind card sequence n e) ∙ six_off;
        kept = begin_kept buf kind card sequence;
        room = omega arith;
      })
    where
      six_off : drop 6 (bytes (partial_words kind card sequence []) ++ drop 6 buf) ≡ drop 6 buf
      six_off = drop_at (bytes (partial_words kind card sequence [])) (drop 6 buf) 6 (six kind card sequence)

  module _ (b : List ℕ) (n : ℕ) (xs : List Item) (r : Running b n xs) where
    goes_on : (x : Item) (m : ℕ) → add_answer b n (whole x) ≡ accepted m → Running (add_left b n (whole x)) m (xs ++ (x ∷ []))
    goes_on x m e =
        let f = content kind card sequence xs in
        let a = add_accepted b n (whole x) m e in
        let k = r.kept in
        let s = a.room in
        let w = a.reached in
        let j : n + (m - n) ≡ m = omega arith in
        record {
          begun = subst (λ (p : List Item). Begun (add_left b n (whole x)) m (record { kind = kind; card = card; sequence = sequence; earlier = p }) (xs ++ (x ∷ [])))
              (sym (behind_one [] xs x)) (add_begun b n f xs r.begun x m e);
          rest = add_rest b n f xs r.begun x m e ∙ further j;
          kept = add_kept b n (whole x) ∙ k;
          room = omega arith;
        }
      where
        further : n + (m - n) ≡ m → drop m b ≡ drop m buf
        further j =
            ap (λ (k : ℕ). drop k b) (sym j) ∙ sym (drop-drop (m - n) n b) ∙ ap (drop (m - n)) r.rest ∙ drop-drop (m - n) n buf ∙ ap (λ (k : ℕ). drop k buf) j

    judged : partial_verdict b n ≡ accepted (content kind card sequence xs)
    judged = partial_complete b n (content kind card sequence xs) xs r.begun

    -- close at the end of a legal list
    ends : may_end (earlier_then [] xs) ≡ true → close_answer b n ≡ accepted (n + 2)
    ends e =
        let k = r.kept in
        let s = r.room in
        (close_exactly b n (accepted (n + 2))).1 (closes (content kind card sequence xs) judged e (omega arith))

    -- what an accepted close gives
    closed : (m : ℕ) → close_answer b n ≡ accepted m → Legal (frame xs) × (m ≡ length (encode (frame xs))) × (close_left b n ≡ encode (frame xs) ++ drop m buf)
    closed m e =
        let (l, q) = close_legal b n (content kind card sequence xs) xs m r.begun e in
        let c = (close_accepted b n m e).reached in
        (l, q, close_left_lem b n (content kind card sequence xs) xs m r.begun e ∙ ap (λ (d : List ℕ). encode (frame xs) ++ d) (further c))
      where
        further : m ≡ n + 2 → drop m b ≡ drop m buf
        further j = ap (λ (k : ℕ). drop k b) j ∙ sym (drop-drop 2 n b) ∙ ap (drop 2) r.rest ∙ drop-drop 2 n buf ∙ ap (λ (k : ℕ). drop k buf) (sym j)

    -- the next item of a sound list is allowed, and the frame has room for it and an end word
    record Next (x : Item) (ys : List Item) : Type 0 where
      pub allowed : Allowed kind card (earlier_then [] xs) x
      pub fits : longer n x + 2 ≤ length (encode (frame (xs ++ (x ∷ ys))))

    next_item : (x : Item) (ys : List Item) → Sound kind card [] (xs ++ (x ∷ ys)) → Next x ys
    unfolding all_words
    next_item x ys l =
        let g = begun_length b n (content kind card sequence xs) xs r.begun in
        let e = encode_length (frame (xs ++ (x ∷ ys))) in
        let w = ap length (all_words_lem xs (x ∷ ys)) ∙ length-append (all_words xs) (all_words (x ∷ ys)) in
        let v = length-append (words_of x) (all_words ys) in
        let s = length_bytes (words_of x) in
        record {
          allowed = sound_head kind card (earlier_then [] xs) x ys (sound_right kind card [] xs (x ∷ ys) l);
          fits = omega arith;
        }

    -- so that it is added, if there is room
    added : (x : Item) (ys : List Item) → Sound kind card [] (xs ++ (x ∷ ys)) → longer n x + 2 ≤ length buf → longer n x + 2 ≤ 8192
        → add_answer b n (whole x) ≡ accepted (longer n x)
    added x ys l h s =
        let k = r.kept in
        (add_exactly b n (whole x) (accepted (longer n x))).1 (adds (content kind card sequence xs) x judged (next_item x ys l).allowed (omega arith) s)

    -- and is refused by 12 otherwise
    too_long : (x : Item) (ys : List Item) → Sound kind card [] (xs ++ (x ∷ ys)) → Over (longer n x + 2) → add_answer b n (whole x) ≡ refused 12 0
    too_long x ys l h =
        let k = r.kept in
        (add_exactly b n (whole x) (refused 12 0)).1 (add_short (content kind card sequence xs) x judged (next_item x ys l).allowed
        (⊎_map (λ (h : length buf < longer n x + 2). omega arith) (λ h. h) h))

  -- ---- the adds and close

  done : List Item → CallsDone
  done xs = calls_done (accepted (length (encode (frame xs)))) (encode (frame xs) ++ drop (length (encode (frame xs))) buf)

  one_more : (xs : List Item) (x : Item) (ys : List Item) → (xs ++ (x ∷ [])) ++ ys ≡ xs ++ (x ∷ ys)
  one_more xs x ys = append_assoc xs (x ∷ []) ys

  runs : (ys : List Item) (b : List ℕ) (n : ℕ) (xs : List Item) → Running b n xs → Legal (frame (xs ++ ys)) → length (encode (frame (xs ++ ys))) ≤ length buf
      → add_all b n (map whole ys) ≡ done (xs ++ ys)
  unfolding done
  runs [] b n xs r l h =
      let i = append-nil xs in
      let e = ends b n xs r (ap (λ (xs : List Item). may_end (earlier_then [] xs)) (sym i) ∙ l.ended) in
      let (_, m, c) = closed b n xs r (n + 2) e in
      subst (λ (ys : List Item). add_all b n [] ≡ done ys) (sym i)
      (close_on b n ∙ ap₂ calls_done (e ∙ ap accepted m) (c ∙ ap (λ (m : ℕ). encode (frame xs) ++ drop m buf) m))
  runs (x ∷ ys) b n xs r l h =
      let i = one_more xs x ys in
      let f = (next_item b n xs r x ys l.sound).fits in
      let s = l.short in
      let e = added b n xs r x ys l.sound (omega arith) (omega arith) in
      add_on b n (whole x) (map whole ys) (longer n x) e
      ∙ runs ys (add_left b n (whole x)) (longer n x) (xs ++ (x ∷ [])) (goes_on b n xs r x (longer n x) e)
      (subst (λ (ys : List Item). Legal (frame ys)) (sym i) l) (subst (λ (ys : List Item). length (encode (frame ys)) ≤ length buf) (sym i) h)
      ∙ ap done i

  room_or_not : (m : ℕ) → ((m ≤ length buf) × (m ≤ 8192)) ⊎ Over m
  room_or_not m = go (leb m (length buf)) refl (leb m 8192) refl
    where
      go : (t : Bool) → leb m (length buf) ≡ t → (u : Bool) → leb m 8192 ≡ u → ((m ≤ length buf) × (m ≤ 8192)) ⊎ Over m
      go true e true f = inl (leb-true m (length buf) e, leb-true m 8192 f)
      go true e false f = inr (inr (leb-false m 8192 f))
      go false e u f = inr (inl (leb-false m (length buf) e))

  -- a sound list that is too long is refused by 12 first
  stops : (ys : List Item) (b : List ℕ) (n : ℕ) (xs : List Item) → Running b n xs → Sound kind card [] (xs ++ ys) → Over (length (encode (frame (xs ++ ys))))
      → (add_all b n (map whole ys)).answer ≡ refused 12 0
  stops [] b n xs r l h =
      let i : length (encode (frame (xs ++ []))) ≡ length (encode (frame xs)) = ap (λ (xs : List Item). length (encode (frame xs))) (append-nil xs) in
      let g = begun_length b n (content kind card sequence xs) xs r.begun in
      let e = encode_length (frame xs) in
      let s = r.room in
      let m = r.begun.most in
      ⊎_elim (λ (h : length buf < length (encode (frame (xs ++ [])))). absurd (omega arith)) (λ (h : 8192 < length (encode (frame (xs ++ [])))). absurd (omega arith)) h
  stops (x ∷ ys) b n xs r l h =
      let i = one_more xs x ys in
      ⊎_elim
      (λ (f : (longer n x + 2 ≤ length buf) × (longer n x + 2 ≤ 8192)).
      let e = added b n xs r x ys l f.0 f.1 in
      ap (λ (o : CallsDone). o.answer) (add_on b n (whole x) (map whole ys) (longer n x) e)
      ∙ stops ys (add_left b n (whole x)) (longer n x) (xs ++ (x ∷ [])) (goes_on b n xs r x (longer n x) e)
      (subst (Sound kind card []) (sym i) l) (subst (λ (ys : List Item). Over (length (encode (frame ys)))) (sym i) h))
      (λ (f : Over (longer n x + 2)). ap (λ (o : CallsDone). o.answer) (add_stops b n (whole x) (map whole ys) 12 0 (too_long b n xs r x ys l f)))
      (room_or_not (longer n x + 2))

  -- ---- what an accepted run wrote

  record Wrote (xs : List Item) (ts : List Token) (m : ℕ) (left : List ℕ) : Type 0 where
    pub items : List Item
    pub handed : ts ≡ map whole items
    pub legal : Legal (frame (xs ++ items))
    pub reached : m ≡ length (encode (frame (xs ++ items)))
    pub written : left ≡ encode (frame (xs ++ items)) ++ drop m buf

  -- an accepted run made its next add
  record Went (b : List ℕ) (n : ℕ) (xs : List Item) (t : Token) (ts : List Token) (m : ℕ) (left : List ℕ) : Type 0 where
    pub item : Item
    pub token : t ≡ whole item
    pub at : ℕ
    pub running : Running (add_left b n t) at (xs ++ (item ∷ []))
    pub rest : add_all (add_left b n t) at ts ≡ calls_done (accepted m) left

  went : (b : List ℕ) (n : ℕ) (xs : List Item) → Running b n xs → (t : Token) (ts : List Token) (m : ℕ) (left : List ℕ) → add_all b n (t ∷ ts) ≡ calls_done (accepted m) left
      → Went b n xs t ts m left
  went b n xs r t ts m left e = go (add_answer b n t) refl
    where
      go : (o : Outcome ℕ) → add_answer b n t ≡ o → Went b n xs t ts m left
      go (accepted j) a =
          let i = add_accepted b n t j a in
          record {
            item = i.item;
            token = i.token;
            at = j;
            running = subst (λ (u : Token). Running (add_left b n u) j (xs ++ (i.item ∷ []))) (sym i.token)
                (goes_on b n xs r i.item j (ap (add_answer b n) (sym i.token) ∙ a));
            rest = sym (add_on b n t ts j a) ∙ e;
          }
      go (refused k p) a =
          let q : refused k p ≡ accepted m = ap (λ (o : CallsDone). o.answer) (sym (add_stops b n t ts k p a) ∙ e) in
          let z : ◌≡◌ {A = ℕ} 0 1 = cc in absurd (omega arith)

  wrote : (ts : List Token) (b : List ℕ) (n : ℕ) (xs : List Item) → Running b n xs → (m : ℕ) (left : List ℕ) → add_all b n ts ≡ calls_done (accepted m) left → Wrote xs ts m left
  wrote [] b n xs r m left e =
      let q = sym (close_on b n) ∙ e in
      let (l, k, c) = closed b n xs r m (ap (λ (o : CallsDone). o.answer) q) in
      let i = append-nil xs in
      record {
        items = [];
        handed = refl;
        legal = subst (λ (xs : List Item). Legal (frame xs)) (sym i) l;
        reached = k ∙ ap (λ (xs : List Item). length (encode (frame xs))) (sym i);
        written = sym (ap (λ (o : CallsDone). o.left) q) ∙ c ∙ ap (λ (xs : List Item). encode (frame xs) ++ drop m buf) (sym i);
      }
  wrote (t ∷ ts) b n xs r m left e =
      let w = went b n xs r t ts m left e in
      let v = wrote ts (add_left b n t) w.at (xs ++ (w.item ∷ [])) w.running m left w.rest in
      let i = one_more xs w.item v.items in
      record {
        items = w.item ∷ v.items;
        handed = ap₂ ◌∷◌ w.token v.handed;
        legal = subst (λ (xs : List Item). Legal (frame xs)) i v.legal;
        reached = v.reached ∙ ap (λ (xs : List Item). length (encode (frame xs))) i;
        written = v.written ∙ ap (λ (xs : List Item). encode (frame xs) ++ drop m buf) i;
      }

-- T18: every legal frame is written, if it fits
pub written : (f : Frame) → Legal f → (buf : List ℕ) → length (encode f) ≤ length buf
    → write_all buf f.kind f.card f.sequence (map whole f.items) ≡ calls_done (accepted (length (encode f))) (encode f ++ drop (length (encode f)) buf)
unfolding done
written f l buf h =
    let k = encode_length f in
    let e = (begin_exactly buf f.card f.sequence (accepted 6)).1 (begins l.card l.sequence (omega arith)) in
    begin_on buf f.kind f.card f.sequence (map whole f.items) 6 e
    ∙ runs f.kind f.card f.sequence buf f.items (begin_left buf f.kind f.card f.sequence) 6 [] (starts f.kind f.card f.sequence buf 6 e) l h

-- T18b: and where it does not fit, the buffer or a frame, that is why
pub too_short : (f : Frame) → f.card ≤ 31 → f.sequence ≤ 0x0100 → Sound f.kind f.card [] f.items → (buf : List ℕ)
    → (length buf < length (encode f)) ⊎ (8192 < length (encode f)) → (write_all buf f.kind f.card f.sequence (map whole f.items)).answer ≡ refused 12 0
too_short f c q s buf h = go (leb 8 (length buf)) refl
  where
    go : (t : Bool) → leb 8 (length buf) ≡ t → (write_all buf f.kind f.card f.sequence (map whole f.items)).answer ≡ refused 12 0
    go true t =
        let e = (begin_exactly buf f.card f.sequence (accepted 6)).1 (begins c q (leb-true _ _ t)) in
        ap (λ (o : CallsDone). o.answer) (begin_on buf f.kind f.card f.sequence (map whole f.items) 6 e)
        ∙ stops f.kind f.card f.sequence buf f.items (begin_left buf f.kind f.card f.sequence) 6 [] (starts f.kind f.card f.sequence buf 6 e) s h
    go false t =
        let e = (begin_exactly buf f.card f.sequence (refused 12 0)).1 (begin_short c q (leb-false _ _ t)) in
        ap (λ (o : CallsDone). o.answer) (begin_stops buf f.kind f.card f.sequence (map whole f.items) 12 0 e)

-- T19: whatever a run accepts is what a legal frame is written as, whose items are those handed over, and it reads back as that frame
pub writing_done : (buf : List ℕ) (kind : Kind) (card sequence : ℕ) (ts : List Token) (m : ℕ) (left : List ℕ) → write_all buf kind card sequence ts ≡ calls_done (accepted m) left
    → WritingDone buf kind card sequence ts m left
writing_done buf kind card sequence ts m left e = go (begin_answer buf card sequence) refl
  where
    named : Wrote kind card sequence buf [] ts m left → WritingDone buf kind card sequence ts m left
    named w =
        let f : Frame = record { kind = kind; card = card; sequence = sequence; items = w.items } in
        let t : take m left ≡ encode f = ap (take m) w.written ∙ take_at (encode f) (drop m buf) m (sym w.reached) in
        record {
          items = w.items;
          added = w.handed;
          holds = record { legal = w.legal; reached = w.reached; written = w.written };
          reads = ap verdict t ∙ complete f w.legal;
        }

    go : (o : Outcome ℕ) → begin_answer buf card sequence ≡ o → WritingDone buf kind card sequence ts m left
    go (accepted n) a =
        named (wrote kind card sequence buf ts (begin_left buf kind card sequence) n [] (starts kind card sequence buf n a) m left (sym (begin_on buf kind card sequence ts n a) ∙ e))
    go (refused k p) a =
        let q : refused k p ≡ accepted m = ap (λ (o : CallsDone). o.answer) (sym (begin_stops buf kind card sequence ts k p a) ∙ e) in
        let z : ◌≡◌ {A = ℕ} 0 1 = cc in absurd (omega arith)

-- T20: an accepted frame, written again from what was read, has the same bytes
pub rewritten : (s : List ℕ) → Bytes s → (f : Frame) → verdict s ≡ accepted f → (buf : List ℕ) → length s ≤ length buf
    → write_all buf f.kind f.card f.sequence (map whole f.items) ≡ calls_done (accepted (length s)) (s ++ drop (length s) buf)
rewritten s bs f e buf h =
    let (l, q) = sound s bs f e in
    written f l buf (subst (λ (t : List ℕ). length t ≤ length buf) q h) ∙ ap (λ (t : List ℕ). calls_done (accepted (length t)) (t ++ drop (length t) buf)) (sym q)
