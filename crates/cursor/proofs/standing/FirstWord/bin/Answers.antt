-- `cursor::standing::FirstWord::bin` meets its contract.
-- Assumes nothing.
use mathlib.Core.Path.{refl, ◌∙◌}
use native.Mathlib.Omega.{arith}
use Rattle.format.specs.Book.{bin}
use Rattle.cursor.proofs.Shows.{cut_shown, bin_shown}
use Rattle.cursor.proofs.standing.FirstWord.bin.Goals as goal

pub returns-then-self : goal.returns-then-self
returns-then-self c = let a = c.args.self in let p = a.stands in cut_shown a.s.now a.last a.at a.w p.0 p.1 p.2 p.3 bin 2 c.requires refl refl (omega arith)

pub returns : goal.returns
returns c = let a = c.args.self in let p = a.stands in c.found.ensures ∙ bin_shown a.s.now a.last a.at a.w p.0 p.1 p.2 p.3 _ _ c.requires (omega arith) c.of_word.ensures c.long-count.ensures
