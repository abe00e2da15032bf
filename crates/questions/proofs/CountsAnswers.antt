-- The counts question, by its ways out.
-- Assumes nothing.
use Prim.Native.Nat.{ℕ, ◌<◌, ◌≤◌}
use mathlib.Core.Path.{◌≡◌, sym, ap, ◌∙◌}
use mathlib.Core.List.{List, []}
use mathlib.Core.Option.{Option, none, some}
use lib.ListN.{length}
use Rattle.format.specs.Words.{Bytes}
use Rattle.format.specs.Answers.{Outcome, accepted, refused, and_then, Done}
use Rattle.format.specs.Items.{Item}
use Rattle.format.specs.Rules.{Kind, monitor_kind}
use Rattle.format.specs.Frames.{earlier_then, verdict}
use Rattle.format.specs.Questions.{Behind, present, past, past_at, is_histogram, done, cleared, fill_counts, counts_at, counts_left, Counted}
use Rattle.format.proofs.questions.FillQuestions.{counts_of, counts_room, counts_refused}
use Rattle.format.proofs.questions.WordFinds.{histogram_items}
use Rattle.format.specs.Cursor.{items_from}
use Rattle.format.proofs.reader.CursorLaws.{on_sound}
use Rattle.questions.specs.Sought.{Amid, HistogramAt, Filling}
use Rattle.questions.proofs.Reading.{Accepted, items_first}
use Rattle.questions.proofs.PastLaws.{none_past, no_histogram}

-- ---- no such histogram

pub of_other : (s : List ℕ) (kind : Kind) (chip c : ℕ) → Amid s kind 3 → (kind ≡ monitor_kind → ⊥) → past_at (is_histogram chip c) 3 (items_from s 3) ≡ none
of_other s kind chip c a d =
    let g = a.on in
    none_past (is_histogram chip c) g.frame.kind g.frame.card (no_histogram g.frame.kind (λ k. d (sym a.kind_is ∙ k)) g.frame.card chip c)
    3 (earlier_then [] g.before) (items_from s 3) (on_sound s 3 g)

-- ---- among the items

behind_header : (s : List ℕ) (chip c : ℕ) (o : Option Behind) → past_at (is_histogram chip c) 3 (items_from s 3) ≡ o
    → present (past (is_histogram chip c) (items_from s 3)) ≡ and_then (present o) (λ h. accepted h.items)
behind_header s chip c o e = histogram_items chip c (items_from s 3) ∙ ap (λ (o : Option Behind). and_then (present o) (λ h. accepted h.items)) e

pub counts_missing : (s : List ℕ) (chip c : ℕ) (l : List ℕ) (o : Done) → o ≡ refused 13 0 → past_at (is_histogram chip c) 3 (items_from s 3) ≡ none
    → Filling (present (past (is_histogram chip c) (items_from s 3))) counts_left l o l
counts_missing s chip c l o r e =
    let i = behind_header s chip c none e in
    record { answered = rw (r, i); filled = rw i }

pub counts_put : (s : List ℕ) (chip c q : ℕ) (l l₁ l₂ : List ℕ) → HistogramAt s chip c q → l₁ ≡ cleared 4096 0 l → l₂ ≡ fill_counts (items_from s q) l₁
    → Filling (present (past (is_histogram chip c) (items_from s 3))) counts_left l (accepted tt) l₂
counts_put s chip c q l l₁ l₂ h e f =
    let i = behind_header s chip c (some (record { index = q; items = items_from s q })) h.passed in
    record { answered = rw i; filled = rw (i, f, e) }

-- ---- of a frame

pub counts_stopped : (s : List ℕ) (chip c : ℕ) (l : List ℕ) (o : Done) (n p : ℕ) → o ≡ refused n p → verdict s ≡ refused n p → Counted s chip c l o l
counts_stopped s chip c l o n p r v =
    let e = counts_refused s n p v chip c (length l) in
    record { answered = rw (r, e); filled = rw e }

module _ (s : List ℕ) (kind : Kind) (chip c : ℕ) (l : List ℕ) (a : Accepted s kind) where
  pub counts_short : length l < 4096 → (o : Done) → o ≡ refused 12 0 → Counted s chip c l o l
  counts_short h o r =
      let e = counts_room s a.frame a.judged chip c (length l) h in
      record { answered = rw (r, e); filled = rw e }

  pub counts_answered : Bytes s → 4096 ≤ length l → (o : Done) (l' : List ℕ)
      → Filling (present (past (is_histogram chip c) (items_from s 3))) counts_left l o l' → Counted s chip c l o l'
  counts_answered bs h o l' r =
      let e : present (past (is_histogram chip c) (items_from s 3)) ≡ counts_at s chip c (length l) =
      ap (λ (xs : List Item). present (past (is_histogram chip c) xs)) (items_first s bs kind a) ∙ sym (counts_of s a.frame a.judged chip c (length l) h) in
      record { answered = r.answered ∙ ap done e; filled = r.filled ∙ ap (λ (o : Outcome (List Item)). counts_left o l) e }
