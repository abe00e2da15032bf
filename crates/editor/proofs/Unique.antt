-- T39, T40. What an answer says on paper fixes the answer, and each call's promise has one answer and one buffer.
-- Assumes nothing.
use Prim.Native.Nat.{ℕ}
use mathlib.Core.Path.{◌≡◌, refl, sym, ◌∙◌}
use mathlib.Core.List.{List}
use Rattle.book.proofs.Unique.{undone, result_back, result_back_lem}
use Rattle.format.specs.Answers as answers
use Rattle.ledger.specs.Formats as formats
use Rattle.ledger.specs.VersionTwo.{time_in}
use Rattle.editor.specs.declared.editing.Correction.{Correction}
use Rattle.editor.specs.Views.{Answer, view_done, asked}
use Rattle.editor.specs.Promises.{Opened, Edited, Restored}

-- T40: the way back from an answer on paper, and from what an edit asks
abbrev done_back : answers.Done → Answer
done_back = result_back (λ u. u)

done_back_lem : (r : Answer) → done_back (view_done r) ≡ r
done_back_lem = result_back_lem (λ u. u) (λ u. u) (λ u. refl)

pub same_done : (r q : Answer) → view_done r ≡ view_done q → r ≡ q
same_done = undone view_done done_back done_back_lem

abbrev asked_back : formats.Correction → Correction
asked_back c = record { word = c.word; value = c.value; operator = c.operator; reason = c.reason; time = time_in c.extra }

pub same_asked : (c d : Correction) → asked c ≡ asked d → c ≡ d
same_asked = undone asked asked_back (λ c. refl)

-- T39: no second result, function by function
pub open_once : (f b : List ℕ) (r q : Answer) (e g : List ℕ) → Opened f b (view_done r) e → Opened f b (view_done q) g → (r ≡ q) × (e ≡ g)
open_once f b r q e g x y = (same_done r q (x.answered ∙ sym y.answered), x.left ∙ sym y.left)

pub edit_once : (b : List ℕ) (c : Correction) (r q : Answer) (e g : List ℕ)
    → Edited b (asked c) (view_done r) e → Edited b (asked c) (view_done q) g → (r ≡ q) × (e ≡ g)
edit_once b c r q e g x y = (same_done r q (x.answered ∙ sym y.answered), x.left ∙ sym y.left)

pub restore_once : (b : List ℕ) (k : ℕ) (out : List ℕ) (r q : Answer) (e g : List ℕ)
    → Restored b k out (view_done r) e → Restored b k out (view_done q) g → (r ≡ q) × (e ≡ g)
restore_once b k out r q e g x y = (same_done r q (x.answered ∙ sym y.answered), x.left ∙ sym y.left)
