-- `frame::partial::partial_fault` meets its contract.
-- Assumes nothing.
use mathlib.Core.Path.{ap, sym, ◌∙◌}
use native.Mathlib.Omega.{arith}
use Rattle.format.specs.Frames.{start_fits}
use Rattle.format.proofs.reader.PartialJudging.{length_wrong, start_wrong, size_wrong, sequence_wrong, head_right}
use Rattle.frame.proofs.partial.partial_fault.Goals as goal

pub returns-then-word-ne0 : goal.returns-then-word-ne0
returns-then-word-ne0 c = size_wrong c.args.buf.now _ (sym c.measured.ensures ∙ c.if-not-measured.false) (ap start_fits (sym c.word.ensures) ∙ sym c.is_start.ensures ∙ c.if-not-is_start.false) (λ z. c.if-word-ne0.true (c.word-2.ensures ∙ z))

pub returns-then-word-gt-LAST_SEQUENCE : goal.returns-then-word-gt-LAST_SEQUENCE
returns-then-word-gt-LAST_SEQUENCE c =
    sequence_wrong c.args.buf.now _ (sym c.measured.ensures ∙ c.if-not-measured.false) (ap start_fits (sym c.word.ensures) ∙ sym c.is_start.ensures ∙ c.if-not-is_start.false) (sym c.word-2.ensures ∙ c.if-word-ne0.false) (omega (arith, c.word-3.ensures))

pub returns : goal.returns
returns c =
    head_right c.args.buf.now _ (sym c.measured.ensures ∙ c.if-not-measured.false) (ap start_fits (sym c.word.ensures) ∙ sym c.is_start.ensures ∙ c.if-not-is_start.false) (sym c.word-2.ensures ∙ c.if-word-ne0.false) (omega (arith, c.word-3.ensures))

pub returns-then-not-is_start : goal.returns-then-not-is_start
returns-then-not-is_start c = start_wrong c.args.buf.now _ (sym c.measured.ensures ∙ c.if-not-measured.false) (ap start_fits (sym c.word.ensures) ∙ sym c.is_start.ensures ∙ c.if-not-is_start.true)

pub returns-then-not-measured : goal.returns-then-not-measured
returns-then-not-measured c = length_wrong c.args.buf.now _ (sym c.measured.ensures ∙ c.if-not-measured.true)
