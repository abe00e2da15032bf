-- What the answer of this crate says in document 02.
-- Assumes nothing.
use Rattle.std.specs.Prelude.{ℕ, Result, Ok, Err}
use Rattle.book.specs.declared.refusal.Refusal.{Refusal}
use Rattle.book.specs.Refusals.{number_of}
use Rattle.corrections.specs.declared.Stopped.{Stopped}
use Rattle.corrections.specs.Lists.{ListAnswer, done, stopped}

-- what a list answers: that all were made, or where it stopped
abbrev pub Answer : Type 0
Answer = Result (Unit {0}) Stopped

-- that of a list that stopped at position i, where a correction was refused by q
abbrev pub stopped_at : ℕ → Refusal → Answer
stopped_at i q = Err (record { position = i; refusal = q })

abbrev pub view_corrected : Answer → ListAnswer
view_corrected (Ok u) = done
view_corrected (Err s) = stopped s.position (number_of s.refusal.fault) s.refusal.place
