-- Of an answer that may be a refusal: that it is the one of a number at a place.
-- Assumes nothing.
use Rattle.std.specs.Prelude.{ℕ, ◌≡◌, Result, Err}
use Rattle.book.specs.declared.refusal.Refusal.{Refusal}
use Rattle.book.specs.Refusals.{number_of}

abbrev pub Refuses : {A : Type 0} → Result A Refusal → ℕ → ℕ → Type 0
Refuses r n p = (q : Refusal) × (r ≡ Err q) × (number_of q.fault ≡ n) × (q.place ≡ p)
