-- `exports::reading::plane_text` meets its contract.
-- Assumes nothing.
use mathlib.Core.Path.{ap, ◌∙◌}
use native.Mathlib.Omega.{arith}
use Rattle.exports.specs.Flat.{flat_found}
use Rattle.exports.proofs.TextLaws.{text_empty, there}
use Rattle.exports.proofs.reading.plane_text.Goals as goal

pub returns-then-count-lt1 : goal.returns-then-count-lt1
returns-then-count-lt1 c = text_empty _ _ _ (c.from-found.ensures ∙ ap flat_found c.item.ensures) c.if-count-lt1.true _ c.default.ensures

-- the text, where the item is one
pub overflow_sub-result : goal.overflow_sub-result
overflow_sub-result c = let p = there _ _ _ (c.from-found.ensures ∙ ap flat_found c.item.ensures) c.if-count-lt1.false in p.after_word

pub overflow_mul-result : goal.overflow_mul-result
overflow_mul-result c = let p = there _ _ _ (c.from-found.ensures ∙ ap flat_found c.item.ensures) c.if-count-lt1.false in omega (arith, p.inside)

pub returns : goal.returns
returns c = let p = there _ _ _ (c.from-found.ensures ∙ ap flat_found c.item.ensures) c.if-count-lt1.false in p.part (λ i. (c.type_inv.frame i).fits)
