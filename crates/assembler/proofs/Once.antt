-- T39, function by function: no second result meets the promise that a function's contract names.
-- Assumes nothing.
use Prim.Native.Nat.{ℕ}
use mathlib.Core.Path.{◌≡◌}
use mathlib.Core.List.{List}
use Rattle.std.specs.Prelude.{Result}
use Rattle.book.specs.declared.refusal.Refusal.{Refusal}
use Rattle.book.proofs.Unique.{one}
use Rattle.runs.specs.Assembly.{new, give_up, take}
use Rattle.assembler.specs.declared.Assembler.{Assembler}
use Rattle.assembler.specs.declared.Taken.{Taken}
use Rattle.assembler.specs.Views.{view_assembler, view_taken}
use Rattle.assembler.specs.Promises.{Unused, GivenUp, TakenAs}
use Rattle.assembler.proofs.Unique.{same_assembler, same_taken}

pub new_once : (card : ℕ) (r q : Assembler) → Unused card r → Unused card q → r ≡ q
new_once card = one view_assembler same_assembler (new card)

pub give_up_once : (self r q : Assembler) → GivenUp self r → GivenUp self q → r ≡ q
give_up_once self = one view_assembler same_assembler (give_up (view_assembler self))

pub take_once : (self : Assembler) (s : List ℕ) (r q : Result Taken Refusal) → TakenAs self s r → TakenAs self s q → r ≡ q
take_once self s = one view_taken same_taken (take (view_assembler self) s)
