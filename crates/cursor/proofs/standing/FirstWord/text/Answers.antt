-- `cursor::standing::FirstWord::text` meets its contract.
-- Assumes nothing.
use mathlib.Core.Path.{refl, sym, ◌∙◌}
use native.Mathlib.Omega.{arith}
use Rattle.format.specs.Book.{text}
use Rattle.cursor.proofs.Shows.{cut_shown, text_shown, unclosed_shown}
use Rattle.cursor.proofs.standing.FirstWord.text.Goals as goal

pub returns-then-self-next : goal.returns-then-self-next
returns-then-self-next c = let a = c.args.self in let p = a.stands in cut_shown a.s.now a.last a.at a.w p.0 p.1 p.2 p.3 text _ c.requires refl (sym c.text_words-more.ensures) (omega arith)

pub returns-then-is_closed : goal.returns-then-is_closed
returns-then-is_closed c =
    let a = c.args.self in
    let p = a.stands in
    c.found.ensures
    ∙ text_shown a.s.now a.last a.at a.w p.0 p.1 p.2 p.3 a.bytes _ _ c.requires
    c.of_word-x.ensures c.text_words-more.ensures (omega arith) _ c.is_closed.ensures c.if-is_closed.true

pub returns : goal.returns
returns c =
    let a = c.args.self in
    let p = a.stands in
    unclosed_shown a.s.now a.last a.at a.w p.0 p.1 p.2 p.3 a.bytes _ _ c.requires
    c.of_word-x.ensures c.text_words-more.ensures (omega arith) _ c.is_closed.ensures c.if-is_closed.false
