-- T39: no second result, function by function. Each theorem is over the promise that the function's contract names (specs/Promises.antt), so that
-- a contract made weaker is refused here.
-- Assumes nothing.
use Prim.Native.Nat.{ℕ}
use mathlib.Core.Path.{◌≡◌, sym, ◌∙◌}
use mathlib.Core.List.{List}
use Rattle.std.specs.Prelude.{Result}
use denote.Ref.{Bor}
use denote.Slice.{shr_slice_vals}
use Rattle.format.specs.Steps.{read_of}
use Rattle.format.specs.PartialSteps.{partial_read_of}
use Rattle.format.specs.Questions.{shown_at}
use Rattle.book.specs.declared.refusal.Refusal.{Refusal}
use Rattle.book.proofs.Unique.{one}
use Rattle.frame.specs.declared.reading.Frame.{Frame}
use Rattle.frame.specs.declared.items.IndexedItem.{IndexedItem}
use Rattle.frame.specs.declared.begun.PartialFrame.{PartialFrame}
use Rattle.frame.specs.Views.{view_reading, view_found}
use Rattle.frame.specs.PartialViews.{view_partial}
use Rattle.frame.specs.Promises.{ReadAs, ItemAnswered, TextAnswered, PartialRead}
use Rattle.frame.proofs.Unique.{same_reading, same_found}
use Rattle.frame.proofs.PartialUnique.{same_partial}

pub read_once : (s : List ℕ) (r q : Result Frame Refusal) → ReadAs s r → ReadAs s q → r ≡ q
read_once s = one view_reading same_reading (read_of s)

pub item_once : (s : List ℕ) (n : ℕ) (r q : Result IndexedItem Refusal) → ItemAnswered s n r → ItemAnswered s n q → r ≡ q
item_once s n = one view_found same_found (shown_at s n)

-- A reference has a place, the elements that stand there, and a name by which the logic tracks them, of which no program can tell: what is
-- fixed is the place and the elements, and so the one machine value of the part, a pointer and a count.
pub text_once : (s : Bor (List ℕ)) (n : ℕ) (r q : Bor (List ℕ)) → TextAnswered s n r → TextAnswered s n q
    → (r.now ≡ q.now) × (r.ref_ptr ≡ q.ref_ptr) × (shr_slice_vals r ≡ shr_slice_vals q)
text_once s n r q e f =
    let a : r.now ≡ q.now = e.0 ∙ sym f.0 in
    let b : r.ref_ptr ≡ q.ref_ptr = e.1 ∙ sym f.1 in
    (a, b, (rw (a, b)))

pub partial_once : (buf : List ℕ) (n : ℕ) (r q : Result PartialFrame Refusal) → PartialRead buf n r → PartialRead buf n q → r ≡ q
partial_once buf n = one view_partial same_partial (partial_read_of buf n)
