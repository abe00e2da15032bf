-- `cursor::standing::FirstWord::end_event` meets its contract.
-- Assumes nothing.
use mathlib.Core.Path.{refl, ◌∙◌}
use native.Mathlib.Omega.{arith}
use Rattle.format.specs.Book.{end_event}
use Rattle.cursor.proofs.Shows.{cut_shown, low_shown, end_shown}
use Rattle.cursor.proofs.standing.FirstWord.end_event.Goals as goal

pub returns-then-self : goal.returns-then-self
returns-then-self c = let a = c.args.self in let p = a.stands in cut_shown a.s.now a.last a.at a.w p.0 p.1 p.2 p.3 end_event 2 c.requires refl refl (omega arith)

pub returns-then-low_bits-ne0 : goal.returns-then-low_bits-ne0
returns-then-low_bits-ne0 c = let a = c.args.self in let p = a.stands in low_shown a.s.now a.last a.at a.w p.0 p.1 p.2 p.3 _ c.requires (omega arith) c.low_bits.ensures c.if-low_bits-ne0.true

pub returns : goal.returns
returns c = let a = c.args.self in let p = a.stands in c.found.ensures ∙ end_shown a.s.now a.last a.at a.w p.0 p.1 p.2 p.3 _ _ c.requires (omega arith) c.low_bits.ensures c.if-low_bits-ne0.false c.long-size.ensures
