-- What each public function promises, under a name: the functions' contracts and the theorems of proofs/Once.antt are over these same names.
-- Assumes nothing.
use Rattle.std.specs.Prelude.{ℕ, ◌≡◌, List, Result}
use Rattle.runs.specs.Assembly.{new, give_up, take}
use Rattle.book.specs.declared.refusal.Refusal.{Refusal}
use Rattle.assembler.specs.declared.Assembler.{Assembler}
use Rattle.assembler.specs.declared.Taken.{Taken}
use Rattle.assembler.specs.Views.{view_assembler, view_taken}

-- an assembler of a card that has taken nothing
abbrev pub Unused : ℕ → Assembler → Type 0
Unused card r = view_assembler r ≡ new card

-- the same assembler, with no event open
abbrev pub GivenUp : Assembler → Assembler → Type 0
GivenUp self r = view_assembler r ≡ give_up (view_assembler self)

-- the step on a frame's bytes
abbrev pub TakenAs : Assembler → List ℕ → Result Taken Refusal → Type 0
TakenAs self s r = view_taken r ≡ take (view_assembler self) s
