-- T39, T40. What the list's answer says on paper fixes the answer, and the promise has one answer and one buffer.
-- Assumes nothing.
use Prim.Native.Nat.{ℕ}
use mathlib.Core.Path.{◌≡◌, refl, sym, ◌∙◌}
use mathlib.Core.List.{List, map}
use Rattle.std.specs.Prelude.{Ok, Err}
use Rattle.book.proofs.Unique.{undone, fault_back, fault_back_lem}
use Rattle.editor.specs.declared.editing.Correction.{Correction}
use Rattle.editor.specs.Views.{asked}
use Rattle.corrections.specs.Lists.{ListAnswer, done, stopped}
use Rattle.corrections.specs.Views.{Answer, view_corrected}
use Rattle.corrections.specs.Promises.{CorrectedAll}

-- T40: the way back from an answer on paper
abbrev corrected_back : ListAnswer → Answer
corrected_back done = Ok tt
corrected_back (stopped i n p) = Err (record { position = i; refusal = record { fault = fault_back n; place = p } })

corrected_back_lem : (r : Answer) → corrected_back (view_corrected r) ≡ r
corrected_back_lem (Ok u) = refl
corrected_back_lem (Err s) = λ k. Err (record { position = s.position; refusal = record { fault = fault_back_lem s.refusal.fault k; place = s.refusal.place } })

pub same_corrected : (r q : Answer) → view_corrected r ≡ view_corrected q → r ≡ q
same_corrected = undone view_corrected corrected_back corrected_back_lem

-- T39: no second result
pub edit_all_once : (b : List ℕ) (cs : List Correction) (r q : Answer) (e g : List ℕ)
    → CorrectedAll b (map asked cs) (view_corrected r) e → CorrectedAll b (map asked cs) (view_corrected q) g → (r ≡ q) × (e ≡ g)
edit_all_once b cs r q e g x y = (same_corrected r q (x.answered ∙ sym y.answered), x.left ∙ sym y.left)
