-- `writer::steps::put_text` meets its contract.
-- Assumes nothing.
use mathlib.Core.Path.{refl}
use Rattle.writer.proofs.PutLaws.{text_long, text_put}
use Rattle.writer.proofs.steps.put_text.Goals as goal

pub returns-then-letters-gt-MOST : goal.returns-then-letters-gt-MOST
returns-then-letters-gt-MOST c = text_long c.args.buf.now _ _ _ _ _ _ _ c.if-letters-gt-MOST.true c.text.ensures c.answered.ensures refl

pub returns : goal.returns
returns c =
    text_put c.args.buf.now _ _ _ _ _ _ _ _ (λ i. (c.type_inv.letters i).fits) c.if-letters-gt-MOST.false c.no_zero.ensures c.text-turn.ensures c.text_words.ensures
