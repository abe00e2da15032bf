-- What each call of the writer promises, under a name: its answer, and the whole of what it leaves in the buffer lent to it. The functions'
-- contracts and the theorems of proofs/Unique.antt are over these same names.
-- Assumes nothing.
use Rattle.std.specs.Prelude.{ℕ, List, Result}
use Rattle.format.specs.Items.{Text, whole}
use Rattle.format.specs.Writing.{begin_answer, begin_left, given, add_answer, add_left, close_answer, close_left, Wrote}
use Rattle.format.specs.PartialSteps.{put_answer, put_left, PutWrote}
use Rattle.book.specs.declared.items.Item.{Item}
use Rattle.book.specs.declared.refusal.Refusal.{Refusal}
use Rattle.book.specs.Views.{view_item}
use Rattle.rules.specs.declared.state.Kind.{Kind}
use Rattle.rules.specs.declared.state.State.{State}
use Rattle.rules.specs.Views.{view_kind, view_state}
use Rattle.writer.specs.declared.answers.Put.{Put}
use Rattle.writer.specs.Views.{view_written, view_put}

-- a partial frame begun in a buffer
abbrev pub Begun : List ℕ → Kind → ℕ → ℕ → Result ℕ Refusal → List ℕ → Type 0
Begun found kind card sequence r exit =
    Wrote (begin_answer found card sequence) (begin_left found (view_kind kind) card sequence) (view_written r) exit

-- an item added to the partial frame in its first n bytes
abbrev pub Added : List ℕ → ℕ → Item → Result ℕ Refusal → List ℕ → Type 0
Added found n item r exit = Wrote (add_answer found n (given (view_item item))) (add_left found n (given (view_item item))) (view_written r) exit

-- a text added
abbrev pub AddedText : List ℕ → ℕ → List ℕ → Result ℕ Refusal → List ℕ → Type 0
AddedText found n text r exit = Wrote (add_answer found n (whole (Text text))) (add_left found n (whole (Text text))) (view_written r) exit

-- the partial frame closed
abbrev pub Closed : List ℕ → ℕ → Result ℕ Refusal → List ℕ → Type 0
Closed found n r exit = Wrote (close_answer found n) (close_left found n) (view_written r) exit

-- an item put behind n bytes by the state that the rules are in, and a text
abbrev pub PutDone : List ℕ → ℕ → ℕ → State → Item → Result Put Refusal → List ℕ → Type 0
PutDone found n card st item r exit =
    PutWrote (put_answer found n card (view_state st) (given (view_item item))) (put_left found n card (view_state st) (given (view_item item))) (view_put r) exit

abbrev pub PutTextDone : List ℕ → ℕ → State → List ℕ → Result Put Refusal → List ℕ → Type 0
PutTextDone found n st text r exit =
    PutWrote (put_answer found n 0 (view_state st) (whole (Text text))) (put_left found n 0 (view_state st) (whole (Text text))) (view_put r) exit
