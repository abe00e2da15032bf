-- What each public function promises, under a name: the functions' contracts and the theorems of proofs/Once.antt are over these same names.
-- Assumes nothing.
use Rattle.std.specs.Prelude.{ℕ, ◌≡◌, List, Result}
use Rattle.std.specs.Borrow.{Bor}
use Rattle.format.specs.Steps.{read_of}
use Rattle.format.specs.PartialSteps.{partial_read_of}
use Rattle.format.specs.Questions.{shown_at, text_at}
use Rattle.book.specs.declared.refusal.Refusal.{Refusal}
use Rattle.frame.specs.declared.reading.Frame.{Frame}
use Rattle.frame.specs.declared.items.IndexedItem.{IndexedItem}
use Rattle.frame.specs.declared.begun.PartialFrame.{PartialFrame}
use Rattle.frame.specs.Views.{view_reading, view_found}
use Rattle.frame.specs.PartialViews.{view_partial}
use Rattle.frame.specs.Parts.{text_from, part_from}

-- whether the bytes are a frame, and of what kind, card, sequence word and items
abbrev pub ReadAs : List ℕ → Result Frame Refusal → Type 0
ReadAs s r = view_reading r ≡ read_of s

-- item n, and the index of the next
abbrev pub ItemAnswered : List ℕ → ℕ → Result IndexedItem Refusal → Type 0
ItemAnswered s n r = view_found r ≡ shown_at s n

-- the bytes of the text that is item n, and where they lie: in the frame itself
abbrev pub TextAnswered : Bor (List ℕ) → ℕ → Bor (List ℕ) → Type 0
TextAnswered s n r = (r.now ≡ text_at s.now n) × (r.ref_ptr ≡ part_from s.ref_ptr (text_from s.now n))

-- whether the first n bytes are a partial frame
abbrev pub PartialRead : List ℕ → ℕ → Result PartialFrame Refusal → Type 0
PartialRead buf n r = view_partial r ≡ partial_read_of buf n
