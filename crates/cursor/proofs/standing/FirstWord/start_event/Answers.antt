-- `cursor::standing::FirstWord::start_event` meets its contract.
-- Assumes nothing.
use mathlib.Core.Path.{refl, ◌∙◌}
use native.Mathlib.Omega.{arith}
use Rattle.format.specs.Book.{start_event}
use Rattle.cursor.proofs.Shows.{cut_shown, start_shown}
use Rattle.cursor.proofs.standing.FirstWord.start_event.Goals as goal

pub returns-then-self : goal.returns-then-self
returns-then-self c = let a = c.args.self in let p = a.stands in cut_shown a.s.now a.last a.at a.w p.0 p.1 p.2 p.3 start_event 5 c.requires refl refl (omega arith)

pub returns : goal.returns
returns c = let a = c.args.self in let p = a.stands in c.found.ensures ∙ start_shown a.s.now a.last a.at a.w p.0 p.1 p.2 p.3 _ _ _ c.requires (omega arith) c.of_word.ensures c.time-timestamp.ensures c.long-number.ensures
