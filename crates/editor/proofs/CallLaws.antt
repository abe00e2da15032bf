-- Calls of the code as ledger's calls: the buffer that they leave, the corrections among them that were accepted, and the moments between them; and
-- that every list of corrections can be asked.
-- Assumes nothing.
use Prim.Native.Nat.{ℕ, zero, suc, ◌≤◌}
use mathlib.Core.Path.{◌≡◌, refl, sym, ap, ap₂, ◌∙◌}
use mathlib.Core.Logic.{◌↔◌}
use mathlib.Core.List.{List, [], ◌∷◌, map}
use native.Mathlib.Omega.{arith}
use lib.ListN.{length, get_or, take, length-map}
use Rattle.std.specs.Prelude.{Ok, Err}
use Rattle.format.specs.Answers as answers
use Rattle.format.specs.Answers.{accepted, refused}
use Rattle.book.specs.declared.refusal.Fault.{Fault}
use Rattle.book.specs.Refusals.{number_of}
use Rattle.book.specs.Refuses.{Refuses}
use Rattle.book.proofs.Named.{answer_for, refuses_told, told_refuses}
use Rattle.ledger.specs.Formats as formats
use Rattle.ledger.specs.Calls.{edit_answer, edit_exit}
use Rattle.ledger.specs.Histories.{keep, edit_all, edit_all_none, edit_all_more, made, record_after, accepted_edits}
use Rattle.ledger.specs.VersionTwo.{version_two}
use Rattle.ledger.specs.PlaneFrames.{plane_frames}
use Rattle.editor.specs.declared.editing.Correction.{Correction}
use Rattle.editor.specs.Views.{Answer, view_done, asked}
use Rattle.editor.specs.Promises.{Opened, Edited}
use Rattle.editor.specs.Sequences.{Calls, done, then, kept, made_by, Moment}
use Rattle.editor.proofs.Unique.{same_done}
use Rattle.editor.proofs.NamedLaws.{edit_named}

-- ---- answers
pub says_accepted : (r : Answer) → (r ≡ Ok tt) ↔ (view_done r ≡ accepted tt)
says_accepted r = (λ e. ap view_done e, same_done r (Ok tt))

pub says_refused : (r : Answer) (n p : ℕ) → Refuses r n p ↔ (view_done r ≡ refused n p)
says_refused r n p = (refuses_told (λ u. u) r n p, told_refuses (λ u. u) r n p)

pub says_fault : (r : Answer) (f : Fault) → view_done r ≡ refused (number_of f) 0 → r ≡ Err (record { fault = f; place = 0 })
says_fault r f = same_done r (Err (record { fault = f; place = 0 }))

-- ---- the buffer and the accepted corrections
pub calls_edit_all : {b e : List ℕ} {cs : List Correction} {rs : List Answer} → Calls b cs rs e → e ≡ edit_all plane_frames version_two b (map asked cs)
calls_edit_all {b = b} done = sym (edit_all_none plane_frames version_two b)
calls_edit_all {b = b} (then {c = c} {cs = cs} o k) =
    calls_edit_all k ∙ ap (λ (m : List ℕ). edit_all plane_frames version_two m (map asked cs)) o.left ∙ sym (edit_all_more plane_frames version_two b (asked c) (map asked cs))

kept_asked : (r : Answer) (c : Correction) (cs : List Correction) → map asked (kept r c cs) ≡ keep (view_done r) (asked c) (map asked cs)
kept_asked (Ok u) c cs = refl
kept_asked (Err q) c cs = refl

pub calls_made : {b e : List ℕ} {cs : List Correction} {rs : List Answer} → Calls b cs rs e → map asked (made_by cs rs) ≡ made plane_frames version_two b (map asked cs)
unfolding made_by made
calls_made done = refl
calls_made (then {c = c} {r = r} {cs = cs} {rs = rs} o k) =
    kept_asked r c (made_by cs rs)
    ∙ ap₂ (λ (d : answers.Done) (l : List formats.Correction). keep d (asked c) l) o.answered (calls_made k ∙ ap (λ (m : List ℕ). made plane_frames version_two m (map asked cs)) o.left)

-- of a frame f that was opened in a buffer, which left b
module _ (f buf b : List ℕ) (o : Opened f buf (view_done (Ok tt)) b) where
  pub after_calls : {e : List ℕ} {cs : List Correction} {rs : List Answer} → Calls b cs rs e → e ≡ record_after plane_frames version_two f buf (map asked cs)
  after_calls {cs = cs} k = calls_edit_all k ∙ ap (λ (m : List ℕ). edit_all plane_frames version_two m (map asked cs)) o.left

  pub edits_of_calls : {e : List ℕ} {cs : List Correction} {rs : List Answer} → Calls b cs rs e → accepted_edits plane_frames version_two f buf (map asked cs) ≡ map asked (made_by cs rs)
  edits_of_calls {cs = cs} k = sym (calls_made k ∙ ap (λ (m : List ℕ). made plane_frames version_two m (map asked cs)) o.left)

  pub count_of_calls : {e : List ℕ} {cs : List Correction} {rs : List Answer} → Calls b cs rs e
      → length (accepted_edits plane_frames version_two f buf (map asked cs)) ≡ length (made_by cs rs)
  count_of_calls {cs = cs} {rs = rs} k = ap length (edits_of_calls k) ∙ length-map (made_by cs rs) asked

-- the first n of some corrections, and one of them, as they are asked
pub asked_take : (n : ℕ) (cs : List Correction) → take n (map asked cs) ≡ map asked (take n cs)
asked_take zero cs = refl
asked_take (suc n) [] = refl
asked_take (suc n) (c ∷ cs) = ap (λ (l : List formats.Correction). asked c ∷ l) (asked_take n cs)

pub asked_nth : (cs : List Correction) (j : ℕ) (d : Correction) → get_or (map asked cs) j (asked d) ≡ asked (get_or cs j d)
asked_nth [] j d = refl
asked_nth (c ∷ cs) zero d = refl
asked_nth (c ∷ cs) (suc j) d = asked_nth cs j d

-- ---- moments
moment_first : {b e : List ℕ} {cs : List Correction} {rs : List Answer} → Calls b cs rs e → Moment b cs rs e 0
unfolding made_by
moment_first {b = b} {cs = cs} {rs = rs} k = record {
  earlier = [];
  answers = [];
  buffer = b;
  later = cs;
  replies = rs;
  before = done;
  after = k;
  all = refl;
  said = refl;
  count = refl;
}

moment_next : {b m e : List ℕ} {cs : List Correction} {rs : List Answer} (r : Answer) (c : Correction) (j k : ℕ) → Edited b (asked c) (view_done r) m
    → (M : Moment m cs rs e j) → length (kept r c (made_by M.earlier M.answers)) ≡ k → Moment b (c ∷ cs) (r ∷ rs) e k
unfolding made_by
moment_next r c j k o M h = record {
  earlier = c ∷ M.earlier;
  answers = r ∷ M.answers;
  buffer = M.buffer;
  later = M.later;
  replies = M.replies;
  before = then o M.before;
  after = M.after;
  all = ap (λ (l : List Correction). c ∷ l) M.all;
  said = ap (λ (l : List Answer). r ∷ l) M.said;
  count = h;
}

-- there is one for every number up to the count of the accepted
pub moment : {b e : List ℕ} {cs : List Correction} {rs : List Answer} → Calls b cs rs e → (k : ℕ) → k ≤ length (made_by cs rs) → Moment b cs rs e k
unfolding made_by
moment K zero h = moment_first K
moment done (suc k) h = absurd (omega arith)
moment (then {c = c} {r = Ok u} o K) (suc k) h = let M = moment K k (omega arith) in moment_next (Ok u) c k (suc k) o M (ap suc M.count)
moment (then {c = c} {r = Err q} o K) (suc k) h = let M = moment K (suc k) h in moment_next (Err q) c (suc k) (suc k) o M M.count

-- ---- every list of corrections can be asked, of every buffer
pub called : (b : List ℕ) (cs : List Correction) → (rs : List Answer) × ((e : List ℕ) × Calls b cs rs e)
called b [] = ([], (b, done))
called b (c ∷ cs) =
    let r = answer_for (edit_answer plane_frames version_two b (asked c)) (edit_named b (asked c)) in
    let k = called (edit_exit plane_frames version_two b (asked c)) cs in
    (r.0 ∷ k.0, (k.1.0, then (record { answered = r.1; left = refl }) k.1.1))
