-- The list call against calls of `edit` made singly: the same answers and the same buffer, both ways; a list in two halves.
-- Assumes nothing.
use Prim.Native.Nat.{ℕ, zero, suc, ◌+◌}
use mathlib.Core.Path.{◌≡◌, refl, sym, ap, subst, ◌∙◌}
use mathlib.Core.Logic.{◌↔◌, ◌⊎◌, inl, inr, ⊎_elim}
use mathlib.Core.List.{List, [], ◌∷◌, ◌++◌, map, append_assoc, append-nil}
use native.Mathlib.Omega.{arith}
use native.Mathlib.Numerals.{add-one}
use lib.ListN.{length, take}
use Rattle.std.specs.Prelude.{Ok, Err}
use Rattle.format.specs.Words.{Bytes}
use Rattle.format.specs.Answers as answers
use Rattle.format.specs.Answers.{accepted, refused}
use Rattle.book.specs.declared.refusal.Refusal.{Refusal}
use Rattle.book.specs.Refusals.{number_of}
use Rattle.book.proofs.Unique.{same_fault}
use Rattle.book.proofs.Named.{Named}
use Rattle.ledger.specs.Tests.{Plain}
use Rattle.ledger.specs.Records.{record_verdict}
use Rattle.ledger.specs.Calls.{edit_answer, edit_exit}
use Rattle.ledger.specs.VersionTwo.{version_two}
use Rattle.ledger.specs.Versions.{v2}
use Rattle.ledger.specs.PlaneFrames.{plane_frames}
use Rattle.ledger.proofs.calls.Writes.{edit_found}
use Rattle.ledger.proofs.calls.Editing.{edit_judged}
use Rattle.ledger.proofs.calls.Changing.{edit_accepted, edit_bytes}
use Rattle.ledger.proofs.answers.Refusals.{edit_refusals}
use Rattle.ledger.proofs.plane.PlaneFrames.{plane_lawful}
use Rattle.editor.specs.declared.editing.Correction.{Correction}
use Rattle.editor.specs.Views as edits
use Rattle.editor.specs.Views.{view_done, asked}
use Rattle.editor.specs.Promises.{Edited}
use Rattle.editor.specs.Sequences.{Calls, done, then, made_by}
use Rattle.editor.proofs.NamedLaws.{edit_named}
use Rattle.editor.proofs.SequenceLaws.{joined}
use Rattle.corrections.specs.Lists as lists
use Rattle.corrections.specs.Lists.{ListAnswer, stopped, answer_from, list_exit}
use Rattle.corrections.specs.Views.{Answer, stopped_at, view_corrected}
use Rattle.corrections.specs.Promises.{CorrectedAll}
use Rattle.corrections.specs.Singly.{accepts, StoppedAt, tried, replies, standing, behind}
use Rattle.corrections.proofs.Unique.{same_corrected}
use Rattle.corrections.proofs.Turns.{answer_none, exit_none, answer_made, exit_made, answer_refused, exit_refused}

abbrev answer_of : ℕ → List ℕ → List Correction → ListAnswer
answer_of i b cs = answer_from plane_frames version_two i b (map asked cs)

abbrev exit_of : List ℕ → List Correction → List ℕ
exit_of b cs = list_exit plane_frames version_two b (map asked cs)

-- ---- corrections that are accepted one by one, before others
passed : {b e : List ℕ} {cs : List Correction} {rs : List edits.Answer} → Calls b cs rs e → rs ≡ accepts (length cs) → (i : ℕ) (ds : List Correction)
    → (answer_of i b (cs ++ ds) ≡ answer_of (i + length cs) e ds) × (exit_of b (cs ++ ds) ≡ exit_of e ds)
passed {b = b} done h i ds = let z : i ≡ i + 0 = omega arith in (ap (λ (j : ℕ). answer_of j b ds) z, refl)
passed {b = b} {e = e} (then {m = m} {c = c} {r = r} {cs = cs} {rs = rs} o k) h i ds =
    let first : r ≡ Ok tt = cc in
    let rest : rs ≡ accepts (length cs) = cc in
    let made : edit_answer plane_frames version_two b (asked c) ≡ accepted tt = sym o.answered ∙ ap view_done first in
    let w = passed k rest (i + 1) ds in
    let z : (i + 1) + length cs ≡ i + suc (length cs) = omega arith in (
      answer_made plane_frames version_two i b (asked c) (map asked (cs ++ ds)) made
          ∙ ap (λ (x : List ℕ). answer_of (i + 1) x (cs ++ ds)) (sym o.left)
          ∙ w.0
          ∙ ap (λ (j : ℕ). answer_of j e ds) z,
      exit_made plane_frames version_two b (asked c) (map asked (cs ++ ds)) made ∙ ap (λ (x : List ℕ). exit_of x (cs ++ ds)) (sym o.left) ∙ w.1,
    )

-- ---- a list is made whole, or stops at a correction that is refused
abbrev Made : ℕ → List ℕ → List Correction → Type 0
Made i b cs = (answer_of i b cs ≡ lists.done) × Calls b cs (accepts (length cs)) (exit_of b cs)

abbrev Stops : ℕ → List ℕ → List Correction → Type 0
Stops i b cs = (k : ℕ) × ((q : Refusal) × ((answer_of i b cs ≡ stopped (i + k) (number_of q.fault) q.place) × StoppedAt b cs k q (exit_of b cs)))

module _ (c : Correction) (cs : List Correction) (i : ℕ) (b : List ℕ) where
  first_made : edit_answer plane_frames version_two b (asked c) ≡ accepted tt → Edited b (asked c) (view_done (Ok tt)) (edit_exit plane_frames version_two b (asked c))
  first_made e = record { answered = sym e; left = refl }

  made_more : edit_answer plane_frames version_two b (asked c) ≡ accepted tt → Made (i + 1) (edit_exit plane_frames version_two b (asked c)) cs → Made i b (c ∷ cs)
  made_more e w = (
    answer_made plane_frames version_two i b (asked c) (map asked cs) e ∙ w.0,
    subst (λ (x : List ℕ). Calls b (c ∷ cs) (accepts (suc (length cs))) x) (sym (exit_made plane_frames version_two b (asked c) (map asked cs) e)) (then (first_made e) w.1),
  )

  stops_later : edit_answer plane_frames version_two b (asked c) ≡ accepted tt → Stops (i + 1) (edit_exit plane_frames version_two b (asked c)) cs → Stops i b (c ∷ cs)
  stops_later e w =
      let k = w.0 in
      let q = w.1.0 in
      let S = w.1.1.1 in
      let z : (i + 1) + k ≡ i + suc k = omega arith in (
        suc k,
        (
          q,
          (
            answer_made plane_frames version_two i b (asked c) (map asked cs) e ∙ w.1.1.0 ∙ ap (λ (j : ℕ). stopped j (number_of q.fault) q.place) z,
            subst (λ (x : List ℕ). StoppedAt b (c ∷ cs) (suc k) q x)
                (sym (exit_made plane_frames version_two b (asked c) (map asked cs) e))
                (record {
                  earlier = c ∷ S.earlier;
                  wrong = S.wrong;
                  later = S.later;
                  all = ap (λ (l : List Correction). c ∷ l) S.all;
                  position = ap suc S.position;
                  calls = then (first_made e) S.calls;
                  refused = S.refused;
                }),
          ),
        ),
      )

  stops_here : (q : Refusal) → edit_answer plane_frames version_two b (asked c) ≡ refused (number_of q.fault) q.place → Stops i b (c ∷ cs)
  stops_here q e =
      let z : i ≡ i + 0 = omega arith in
      let unchanged : b ≡ edit_exit plane_frames version_two b (asked c) = sym (edit_found plane_frames version_two b (asked c) (number_of q.fault) q.place e) in (
        0,
        (
          q,
          (
            answer_refused plane_frames version_two i b (asked c) (map asked cs) (number_of q.fault) q.place e ∙ ap (λ (j : ℕ). stopped j (number_of q.fault) q.place) z,
            subst (λ (x : List ℕ). StoppedAt b (c ∷ cs) 0 q x)
                (sym (exit_refused plane_frames version_two b (asked c) (map asked cs) (number_of q.fault) q.place e))
                (record {
                  earlier = [];
                  wrong = c;
                  later = cs;
                  all = refl;
                  position = refl;
                  calls = done;
                  refused = record { answered = sym e; left = unchanged };
                }),
          ),
        ),
      )

  either : (d : answers.Done) → edit_answer plane_frames version_two b (asked c) ≡ d → Named d
      → (Made (i + 1) (edit_exit plane_frames version_two b (asked c)) cs ⊎ Stops (i + 1) (edit_exit plane_frames version_two b (asked c)) cs) → Made i b (c ∷ cs) ⊎ Stops i b (c ∷ cs)
  either (accepted u) e h w = ⊎_elim (λ m. inl (made_more e m)) (λ s. inr (stops_later e s)) w
  either (refused n p) e (f, h) w = inr (stops_here (record { fault = f; place = p }) (e ∙ ap (λ (k : ℕ). refused k p) (sym h)))

made_or_stops : (cs : List Correction) (i : ℕ) (b : List ℕ) → Made i b cs ⊎ Stops i b cs
made_or_stops [] i b = inl (answer_none plane_frames version_two i b, subst (λ (x : List ℕ). Calls b [] [] x) (sym (exit_none plane_frames version_two b)) done)
made_or_stops (c ∷ cs) i b = either c cs i b (edit_answer plane_frames version_two b (asked c)) refl (edit_named b (asked c)) (made_or_stops cs (i + 1) (edit_exit plane_frames version_two b (asked c)))

-- ---- both answers, both ways
module _ (b : List ℕ) (cs : List Correction) (e : List ℕ) where
  to_calls : CorrectedAll b (map asked cs) (view_corrected (Ok tt)) e → Calls b cs (accepts (length cs)) e
  to_calls w = ⊎_elim (λ m. subst (λ (x : List ℕ). Calls b cs (accepts (length cs)) x) (sym w.left) m.1) (λ s. no (w.answered ∙ s.1.1.0)) (made_or_stops cs 0 b)
    where
      no : {i n p : ℕ} → lists.done ≡ stopped i n p → Calls b cs (accepts (length cs)) e
      no h = let z : ◌≡◌ {A = ℕ} 0 1 = cc in absurd (omega arith)

  of_calls : Calls b cs (accepts (length cs)) e → CorrectedAll b (map asked cs) (view_corrected (Ok tt)) e
  of_calls k =
      let w = passed k refl 0 [] in
      let whole = append-nil cs in
      record {
        answered = sym (ap (answer_of 0 b) (sym whole) ∙ w.0 ∙ answer_none plane_frames version_two (0 + length cs) e);
        left = sym (ap (exit_of b) (sym whole) ∙ w.1 ∙ exit_none plane_frames version_two e);
      }

  pub made_exactly : CorrectedAll b (map asked cs) (view_corrected (Ok tt)) e ↔ Calls b cs (accepts (length cs)) e
  made_exactly = (to_calls, of_calls)

  module _ (i : ℕ) (q : Refusal) where
    to_stopped : CorrectedAll b (map asked cs) (view_corrected (stopped_at i q)) e → StoppedAt b cs i q e
    to_stopped w = ⊎_elim (λ m. no (w.answered ∙ m.0)) (λ s. yes s.0 s.1.0 (w.answered ∙ s.1.1.0) s.1.1.1) (made_or_stops cs 0 b)
      where
        no : stopped i (number_of q.fault) q.place ≡ lists.done → StoppedAt b cs i q e
        no h = let z : ◌≡◌ {A = ℕ} 0 1 = cc in absurd (omega arith)

        yes : (k : ℕ) (g : Refusal) → stopped i (number_of q.fault) q.place ≡ stopped (0 + k) (number_of g.fault) g.place → StoppedAt b cs k g (exit_of b cs) → StoppedAt b cs i q e
        yes k g h S =
            let z : 0 + k ≡ i = cc in
            let j : k ≡ i = omega arith in
            let n : (number_of g.fault) ≡ (number_of q.fault) = cc in
            let p : g.place ≡ q.place = cc in
            let f = same_fault g.fault q.fault n in
            let same : g ≡ q = λ t. record { fault = f t; place = p t } in
            subst (λ (x : List ℕ). StoppedAt b cs i q x) (sym w.left) (subst (λ (x : Refusal). StoppedAt b cs i x (exit_of b cs)) same (subst (λ (x : ℕ). StoppedAt b cs x g (exit_of b cs)) j S))

    of_stopped : StoppedAt b cs i q e → CorrectedAll b (map asked cs) (view_corrected (stopped_at i q)) e
    of_stopped S =
        let w = passed S.calls (ap accepts (sym S.position)) 0 (S.wrong ∷ S.later) in
        let r : edit_answer plane_frames version_two e (asked S.wrong) ≡ refused (number_of q.fault) q.place = sym S.refused.answered in
        let here = S.position in
        let z : 0 + length S.earlier ≡ i = omega (arith, here) in
        record {
          answered = sym
              (ap (answer_of 0 b) S.all
              ∙ w.0
              ∙ answer_refused plane_frames version_two (0 + length S.earlier) e (asked S.wrong) (map asked S.later) (number_of q.fault) q.place r
              ∙ ap (λ (j : ℕ). stopped j (number_of q.fault) q.place) z);
          left = sym (ap (exit_of b) S.all ∙ w.1 ∙ exit_refused plane_frames version_two e (asked S.wrong) (map asked S.later) (number_of q.fault) q.place r);
        }

    pub stopped_exactly : CorrectedAll b (map asked cs) (view_corrected (stopped_at i q)) e ↔ StoppedAt b cs i q e
    stopped_exactly = (to_stopped, of_stopped)

-- ---- the calls made singly
up_to : {X : Type 0} (xs : List X) (x : X) (ys : List X) → take (suc (length xs)) (xs ++ (x ∷ ys)) ≡ xs ++ (x ∷ [])
up_to [] x ys = refl
up_to (y ∷ xs) x ys = ap (λ (l : List _). y ∷ l) (up_to xs x ys)

pub singly : (b : List ℕ) (cs : List Correction) (r : Answer) (e : List ℕ) → CorrectedAll b (map asked cs) (view_corrected r) e → Calls b (tried cs r) (replies cs r) e
singly b cs (Ok u) e w = to_calls b cs e w
singly b cs (Err s) e w =
    let i = s.position in
    let q = s.refusal in
    let S = to_stopped b cs e i q w in
    let first : take (i + 1) cs ≡ S.earlier ++ (S.wrong ∷ [])
    = ap (λ (n : ℕ). take n cs) (add-one i ∙ ap suc (sym S.position)) ∙ ap (take (suc (length S.earlier))) S.all ∙ up_to S.earlier S.wrong S.later in
    subst (λ (l : List Correction). Calls b l (accepts i ++ (Err q ∷ [])) e) (sym first) (joined S.calls (then S.refused done))

-- and those among them that were made
all_standing : (cs : List Correction) → made_by cs (accepts (length cs)) ≡ cs
unfolding made_by
all_standing [] = refl
all_standing (c ∷ cs) = ap (λ (l : List Correction). c ∷ l) (all_standing cs)

some_standing : (q : Refusal) (i : ℕ) (cs : List Correction) → made_by (take (suc i) cs) (accepts i ++ (Err q ∷ [])) ≡ take i cs
unfolding made_by
some_standing q zero [] = refl
some_standing q zero (c ∷ cs) = refl
some_standing q (suc i) [] = refl
some_standing q (suc i) (c ∷ cs) = ap (λ (l : List Correction). c ∷ l) (some_standing q i cs)

pub standing_made : (cs : List Correction) (r : Answer) → made_by (tried cs r) (replies cs r) ≡ standing cs r
standing_made cs (Ok u) = all_standing cs
standing_made cs (Err s) = ap (λ (n : ℕ). made_by (take n cs) (accepts s.position ++ (Err s.refusal ∷ []))) (add-one s.position) ∙ some_standing s.refusal s.position cs

-- ---- a list in two halves
abbrev further : ℕ → ListAnswer → ListAnswer
further k lists.done = lists.done
further k (stopped i n p) = stopped (k + i) n p

moved : (k i : ℕ) (b : List ℕ) (cs : List Correction) → answer_of (k + i) b cs ≡ further k (answer_of i b cs)
moved k i b [] = answer_none plane_frames version_two (k + i) b ∙ sym (ap (further k) (answer_none plane_frames version_two i b))
moved k i b (c ∷ cs) = go (edit_answer plane_frames version_two b (asked c)) refl (moved k (i + 1) (edit_exit plane_frames version_two b (asked c)) cs)
  where
    go : (d : answers.Done) → edit_answer plane_frames version_two b (asked c) ≡ d
        → answer_of (k + (i + 1)) (edit_exit plane_frames version_two b (asked c)) cs ≡ further k (answer_of (i + 1) (edit_exit plane_frames version_two b (asked c)) cs)
        → answer_of (k + i) b (c ∷ cs) ≡ further k (answer_of i b (c ∷ cs))
    go (accepted u) e w =
        let z : (k + i) + 1 ≡ k + (i + 1) = omega arith in
        answer_made plane_frames version_two (k + i) b (asked c) (map asked cs) e
        ∙ ap (λ (j : ℕ). answer_of j (edit_exit plane_frames version_two b (asked c)) cs) z
        ∙ w
        ∙ sym (ap (further k) (answer_made plane_frames version_two i b (asked c) (map asked cs) e))
    go (refused n p) e w = answer_refused plane_frames version_two (k + i) b (asked c) (map asked cs) n p e ∙ sym (ap (further k) (answer_refused plane_frames version_two i b (asked c) (map asked cs) n p e))

behind_view : (k : ℕ) (r : Answer) → view_corrected (behind k r) ≡ further k (view_corrected r)
behind_view k (Ok u) = refl
behind_view k (Err s) = refl

pub halves_made : (b m e : List ℕ) (cs ds : List Correction) (r : Answer) → CorrectedAll b (map asked cs) (view_corrected (Ok tt)) m
    → CorrectedAll m (map asked ds) (view_corrected r) e → CorrectedAll b (map asked (cs ++ ds)) (view_corrected (behind (length cs) r)) e
halves_made b m e cs ds r v w =
    let p = passed (to_calls b cs m v) refl 0 ds in
    let z : 0 + length cs ≡ length cs + 0 = omega arith in
    record {
      answered = behind_view (length cs) r ∙ ap (further (length cs)) w.answered ∙ sym (moved (length cs) 0 m ds) ∙ sym (p.0 ∙ ap (λ (j : ℕ). answer_of j m ds) z);
      left = w.left ∙ sym p.1;
    }

pub halves_stopped : (b m : List ℕ) (cs ds : List Correction) (i : ℕ) (q : Refusal) → CorrectedAll b (map asked cs) (view_corrected (stopped_at i q)) m
    → CorrectedAll b (map asked (cs ++ ds)) (view_corrected (stopped_at i q)) m
halves_stopped b m cs ds i q w =
    let S = to_stopped b cs m i q w in
    of_stopped b (cs ++ ds) m i q
    (record {
      earlier = S.earlier;
      wrong = S.wrong;
      later = S.later ++ ds;
      all = ap (λ (l : List Correction). l ++ ds) S.all ∙ append_assoc S.earlier (S.wrong ∷ S.later) ds;
      position = S.position;
      calls = S.calls;
      refused = S.refused;
    })

-- ---- what changes nothing
pub empty_list : (b : List ℕ) (r : Answer) (e : List ℕ) → CorrectedAll b [] (view_corrected r) e → (r ≡ Ok tt) × (e ≡ b)
empty_list b r e w = (same_corrected r (Ok tt) (w.answered ∙ answer_none plane_frames version_two 0 b), w.left ∙ exit_none plane_frames version_two b)

no_calls : {b e : List ℕ} {cs : List Correction} → Calls b cs [] e → e ≡ b
no_calls done = refl

pub stopped_first : (b : List ℕ) (cs : List Correction) (q : Refusal) (e : List ℕ) → CorrectedAll b (map asked cs) (view_corrected (stopped_at 0 q)) e → e ≡ b
stopped_first b cs q e w = no_calls (to_stopped b cs e 0 q w).calls

-- ---- behind a correction that was made the record is accepted, so that no refusal of the record itself can come there
sound_on : {b e : List ℕ} {cs : List Correction} {rs : List edits.Answer} → Calls b cs rs e → rs ≡ accepts (length cs) → Bytes b → record_verdict plane_frames version_two b ≡ accepted tt
    → record_verdict plane_frames version_two e ≡ accepted tt
sound_on done h y v = v
sound_on {b = b} (then {m = m} {c = c} {r = r} {cs = cs} {rs = rs} o k) h y v =
    let first : r ≡ Ok tt = cc in
    let rest : rs ≡ accepts (length cs) = cc in
    let made : edit_answer plane_frames version_two b (asked c) ≡ accepted tt = sym o.answered ∙ ap view_done first in
    sound_on k rest
    (subst Bytes (sym o.left) (edit_bytes plane_frames version_two (plane_lawful v2) b (asked c) y made))
    (ap (record_verdict plane_frames version_two) o.left ∙ edit_accepted plane_frames version_two (plane_lawful v2) b (asked c) y made)

sound_behind : {b e : List ℕ} (cs : List Correction) (i : ℕ) → length cs ≡ suc i → Calls b cs (accepts (suc i)) e → Bytes b → record_verdict plane_frames version_two e ≡ accepted tt
sound_behind {b = b} [] i l k y = absurd (omega arith)
sound_behind {b = b} {e = e} (c ∷ cs) i l k y = sound_on k (ap accepts (sym l)) y (edit_judged plane_frames version_two b (asked c) (first_accepted k))
  where
    first_accepted : Calls b (c ∷ cs) (accepts (suc i)) e → edit_answer plane_frames version_two b (asked c) ≡ accepted tt
    first_accepted (then o j) = sym o.answered

-- of an accepted record, an edit is refused by one of its own reasons
own_reason : (b : List ℕ) (c : Correction) (n p : ℕ) → record_verdict plane_frames version_two b ≡ accepted tt → edit_answer plane_frames version_two b (asked c) ≡ refused n p
    → Plain 22 n p ⊎ (Plain 23 n p ⊎ (Plain 24 n p ⊎ (Plain 25 n p ⊎ Plain 12 n p)))
unfolding version_two
own_reason b c n p v e =
    ⊎_elim (λ w. absurd (clash (sym v ∙ w))) (λ rest. ⊎_elim (λ w. absurd (clash w)) (λ own. own) rest) (edit_refusals plane_frames version_two b (asked c) n p e)
  where
    clash : ◌≡◌ {A = answers.Done} (accepted tt) (refused n p) → ⊥
    clash h = let z : ◌≡◌ {A = ℕ} 0 1 = cc in omega arith

pub later_refusals : (b : List ℕ) → Bytes b → (cs : List Correction) (i : ℕ) (q : Refusal) (e : List ℕ) → CorrectedAll b (map asked cs) (view_corrected (stopped_at (suc i) q)) e
    → Plain 22 (number_of q.fault) q.place ⊎ (Plain 23 (number_of q.fault) q.place ⊎ (Plain 24 (number_of q.fault) q.place ⊎ (Plain 25 (number_of q.fault) q.place ⊎ Plain 12 (number_of q.fault) q.place)))
later_refusals b y cs i q e w =
    let S = to_stopped b cs e (suc i) q w in
    own_reason e S.wrong (number_of q.fault) q.place (sound_behind S.earlier i S.position S.calls y) (sym S.refused.answered)
