-- T40. What a value says on paper fixes it: each view is injective.
-- Assumes nothing.
use mathlib.Core.Path.{◌≡◌}
use Rattle.std.specs.Prelude.{Result}
use Rattle.follower.proofs.front.Sequence.{states_injective}
use Rattle.book.specs.declared.refusal.Refusal.{Refusal}
use Rattle.book.proofs.Unique.{same_result, same_option}
use Rattle.assembler.specs.declared.OpenEvent.{OpenEvent}
use Rattle.assembler.specs.declared.Assembler.{Assembler}
use Rattle.assembler.specs.declared.Taken.{Taken}
use Rattle.assembler.specs.Views.{view_open, view_assembler, view_next, view_taken}

same_open : (o p : OpenEvent) → view_open o ≡ view_open p → o ≡ p
same_open o p e = λ i. record { number = (e i).number; size = (e i).size; key = (e i).key }

pub same_assembler : (a b : Assembler) → view_assembler a ≡ view_assembler b → a ≡ b
same_assembler a b e =
    let f = states_injective a.follower b.follower (λ i. (e i).follower) in
    let g = same_option view_open same_open a.event b.event (λ i. (e i).event) in
    λ i. record { card = (e i).card; follower = f i; event = g i }

same_next : (t u : Taken) → view_next t ≡ view_next u → t ≡ u
same_next t u e =
    let a = same_assembler t.next u.next (λ i. (e i).next) in
    λ i. record { lost = (e i).lost; next = a i }

pub same_taken : (r q : Result Taken Refusal) → view_taken r ≡ view_taken q → r ≡ q
same_taken = same_result view_next same_next
