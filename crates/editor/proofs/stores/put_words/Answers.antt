-- `editor::stores::put_words` meets its contract.
-- Assumes nothing.
use native.Mathlib.Omega.{arith}
use mathlib.Core.Path.{refl, ◌∙◌}
use Rattle.format.proofs.items.StoringLaws.{words_start, words_next, words_end}
use Rattle.editor.proofs.stores.put_words.Goals as goal

pub loop-i-init : goal.loop-i-init
loop-i-init c = (refl, words_start _ _ _ _ (omega arith))

pub loop-i-preserved : goal.loop-i-preserved
loop-i-preserved c =
    (c.put_word.auto.buf ∙ c.loop-i.invariant.0, words_next _ _ _ _ _ c.loop-i.invariant.1 (omega arith) _ c.put_word.ensures)

pub returns : goal.returns
returns c = words_end _ _ _ _ _ c.loop-i.invariant.1 (omega arith)
