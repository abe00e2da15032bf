-- `frame::head::head_fault` meets its contract: each test is a rule, in their order.
-- Assumes nothing.
use mathlib.Core.Path.{ap, sym, ◌∙◌}
use native.Mathlib.Omega.{arith}
use Rattle.format.specs.Frames.{start_fits}
use Rattle.format.proofs.reader.HeadTests.{odd, low, high, start_wrong, size_wrong, sequence_wrong, end_wrong, head_right}
use Rattle.frame.proofs.head.head_fault.Goals as goal
use Rattle.frame.proofs.head.head_fault.Goals.{then-n-ne0-via-then-n-ne0, then-n-ne0-via-else-n-ne0+then-n-lt-LEAST, then-n-ne0-via-else-n-ne0+else-n-lt-LEAST+then-n-gt-MOST}

pub returns-then-n-ne0 : goal.returns-then-n-ne0
returns-then-n-ne0 c =
    elim c.then-n-ne0.branch [
      | then-n-ne0-via-then-n-ne0 w ↦ odd c.args.s.now w.if-n-ne0.true
      | then-n-ne0-via-else-n-ne0+then-n-lt-LEAST w ↦ low c.args.s.now w.if-n-ne0.false w.if-n-lt-LEAST.true
      | then-n-ne0-via-else-n-ne0+else-n-lt-LEAST+then-n-gt-MOST w ↦ high c.args.s.now w.if-n-ne0.false w.if-n-gt-MOST.true
    ]

pub returns-then-word-n : goal.returns-then-word-n
returns-then-word-n c =
    size_wrong c.args.s.now c.if-n-ne0.false c.if-n-lt-LEAST.false c.if-n-gt-MOST.false (ap start_fits (sym c.word.ensures) ∙ sym c.is_start.ensures ∙ c.if-not-is_start.false) (λ z. c.if-word-n.true (c.word-2.ensures ∙ z))

pub returns-then-word-gt-LAST_SEQUENCE : goal.returns-then-word-gt-LAST_SEQUENCE
returns-then-word-gt-LAST_SEQUENCE c =
    sequence_wrong c.args.s.now c.if-n-ne0.false c.if-n-lt-LEAST.false c.if-n-gt-MOST.false (ap start_fits (sym c.word.ensures) ∙ sym c.is_start.ensures ∙ c.if-not-is_start.false) (sym c.word-2.ensures ∙ c.if-word-n.false) (omega (arith, c.word-3.ensures))

pub returns-then-word-ne-END : goal.returns-then-word-ne-END
returns-then-word-ne-END c =
    end_wrong c.args.s.now c.if-n-ne0.false c.if-n-lt-LEAST.false c.if-n-gt-MOST.false (ap start_fits (sym c.word.ensures) ∙ sym c.is_start.ensures ∙ c.if-not-is_start.false) (sym c.word-2.ensures ∙ c.if-word-n.false) (omega (arith, c.word-3.ensures)) (λ z. c.if-word-ne-END.true (c.word-4.ensures ∙ z))

pub returns : goal.returns
returns c =
    head_right c.args.s.now c.if-n-ne0.false c.if-n-lt-LEAST.false c.if-n-gt-MOST.false (ap start_fits (sym c.word.ensures) ∙ sym c.is_start.ensures ∙ c.if-not-is_start.false) (sym c.word-2.ensures ∙ c.if-word-n.false) (omega (arith, c.word-3.ensures)) (sym c.word-4.ensures ∙ c.if-word-ne-END.false)

pub returns-then-not-is_start : goal.returns-then-not-is_start
returns-then-not-is_start c =
    start_wrong c.args.s.now c.if-n-ne0.false c.if-n-lt-LEAST.false c.if-n-gt-MOST.false (ap start_fits (sym c.word.ensures) ∙ sym c.is_start.ensures ∙ c.if-not-is_start.true)
