-- Sequences in which single edits and lists of corrections stand: they are sequences of single edits, so that demand 3 holds of them as it stands.
-- Assumes nothing.
use Prim.Native.Nat.{ℕ, ◌+◌, ◌*◌, ◌≤◌}
use mathlib.Core.Path.{◌≡◌, refl, ap, ap₂, subst, ◌∙◌}
use mathlib.Core.List.{List, ◌++◌}
use lib.ListN.{length, take, drop}
use Rattle.std.specs.Prelude.{Result, Ok, Err}
use Rattle.format.specs.Words.{Bytes}
use Rattle.book.specs.declared.refusal.Refusal.{Refusal}
use Rattle.ledger.specs.Records.{entries_in}
use Rattle.ledger.specs.Histories.{oldest_first}
use Rattle.ledger.specs.VersionTwo.{version_two}
use Rattle.ledger.specs.Versions.{v2}
use Rattle.ledger.specs.Layout.{header_for, history_written}
use Rattle.records.specs.declared.answers.Record.{Record}
use Rattle.records.specs.Promises.{Recorded}
use Rattle.editor.specs.declared.editing.Correction.{Correction}
use Rattle.editor.specs.Views as edits
use Rattle.editor.specs.Views.{view_done}
use Rattle.editor.specs.Promises.{Opened, Restored}
use Rattle.editor.specs.Sequences.{Calls, done, then, kept, made_by, corrected, entries_for}
use Rattle.editor.proofs.SequenceLaws.{joined}
use Rattle.editor.proofs.front.Demand3 as demand3
use Rattle.corrections.specs.Singly.{Call, Mixed, none, edit, edit_all, asked_by, answers_to, made_in}
use Rattle.corrections.proofs.SinglyLaws.{singly, standing_made}

pub made_singly : {b e : List ℕ} {ks : List Call} → Mixed b ks e → Calls b (asked_by ks) (answers_to ks) e
unfolding asked_by answers_to
made_singly none = done
made_singly (edit o k) = then o (made_singly k)
made_singly (edit_all {b = b} {m = m} {cs = cs} {r = r} o k) = joined (singly b cs r m o) (made_singly k)

-- ---- the corrections that were made
made_both : {b m : List ℕ} {cs : List Correction} {rs : List edits.Answer} → Calls b cs rs m → (ds : List Correction) (qs : List edits.Answer)
    → made_by (cs ++ ds) (rs ++ qs) ≡ made_by cs rs ++ made_by ds qs
unfolding made_by
made_both done ds qs = refl
made_both (then {c = c} {r = r} {cs = cs} {rs = rs} o k) ds qs = ap (kept r c) (made_both k ds qs) ∙ go r
  where
    go : (r : edits.Answer) → kept r c (made_by cs rs ++ made_by ds qs) ≡ kept r c (made_by cs rs) ++ made_by ds qs
    go (Ok u) = refl
    go (Err q) = refl

pub made_in_lem : {b e : List ℕ} {ks : List Call} → Mixed b ks e → made_by (asked_by ks) (answers_to ks) ≡ made_in ks
unfolding asked_by answers_to made_in made_by
made_in_lem none = refl
made_in_lem (edit {c = c} {r = r} o k) = ap (kept r c) (made_in_lem k)
made_in_lem (edit_all {b = b} {m = m} {cs = cs} {r = r} {ks = ks} o k) =
    made_both (singly b cs r m o) (asked_by ks) (answers_to ks) ∙ ap₂ (λ (x y : List Correction). x ++ y) (standing_made cs r) (made_in_lem k)

-- ---- demand 3 of such sequences, from editor's own page
module _ (f buf : List ℕ) (y : Bytes f) (b : List ℕ) (o : Opened f buf (view_done (Ok tt)) b) (ks : List Call) (e : List ℕ) (k : Mixed b ks e) where
  pub record_told : (r : Result Record Refusal) → Recorded e r
      → r ≡ Ok (record { length = length f; count = length (made_in ks); total = 16 + length f + 24 * length (made_in ks) })
  record_told r t =
      subst (λ (l : List Correction). r ≡ Ok (record { length = length f; count = length l; total = 16 + length f + 24 * length l }))
      (made_in_lem k)
      (demand3.record_told f buf y b o (asked_by ks) (answers_to ks) e (made_singly k) r t)

  pub whole_record : e
      ≡ header_for v2 (length f) (length (made_in ks)) ++ (corrected f (made_in ks) ++ (history_written v2 (entries_for f (made_in ks)) ++ drop (16 + length f + 24 * length (made_in ks)) buf))
  whole_record =
      subst (λ (l : List Correction). e ≡ header_for v2 (length f) (length l) ++ (corrected f l ++ (history_written v2 (entries_for f l) ++ drop (16 + length f + 24 * length l) buf)))
      (made_in_lem k)
      (demand3.whole_record f buf y b o (asked_by ks) (answers_to ks) e (made_singly k))

  pub restores_to : (n : ℕ) (out : List ℕ) (r : edits.Answer) (left : List ℕ) → Restored e n out (view_done r) left → n ≤ length (made_in ks) → length f ≤ length out
      → (r ≡ Ok tt) × (left ≡ corrected f (take n (made_in ks)) ++ drop (length f) out)
  restores_to n out r left t =
      subst (λ (l : List Correction). n ≤ length l → length f ≤ length out → (r ≡ Ok tt) × (left ≡ corrected f (take n l) ++ drop (length f) out))
      (made_in_lem k)
      (demand3.restores_to f buf y b o (asked_by ks) (answers_to ks) e (made_singly k) n out r left t)

  pub history_in_order : oldest_first (entries_in version_two e) ≡ entries_for f (made_in ks)
  history_in_order = demand3.history_in_order f buf y b o (asked_by ks) (answers_to ks) e (made_singly k) ∙ ap (entries_for f) (made_in_lem k)
