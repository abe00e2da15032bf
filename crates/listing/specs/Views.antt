-- What the answer of this crate says in document 01.
-- Assumes nothing.
use Rattle.std.specs.Prelude.{ℕ, Result}
use Rattle.format.specs.Answers.{Outcome}
use Rattle.book.specs.Views.{view_result}
use Rattle.book.specs.declared.refusal.Refusal.{Refusal}

abbrev pub view_listing : Result ℕ Refusal → Outcome ℕ
view_listing = view_result (λ n. n)
