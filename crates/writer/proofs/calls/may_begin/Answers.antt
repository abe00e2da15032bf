-- `writer::calls::may_begin` meets its contract.
-- Assumes nothing.
use mathlib.Core.Path.{ap, ◌∙◌}
use Rattle.book.specs.Refusals.{refusal}
use Rattle.writer.proofs.CallLaws.{card_wide, sequence_wide, begin_short, may_begin}
use Rattle.writer.proofs.calls.may_begin.Goals as goal

pub returns-then-card-gt-LAST_CARD : goal.returns-then-card-gt-LAST_CARD
returns-then-card-gt-LAST_CARD c = ap refusal c.into.ensures ∙ card_wide c.args.buf.now _ _ c.if-card-gt-LAST_CARD.true

pub returns-then-sequence-gt-LAST_SEQUENCE : goal.returns-then-sequence-gt-LAST_SEQUENCE
returns-then-sequence-gt-LAST_SEQUENCE c =
    ap refusal c.into-then-sequence-gt-LAST_SEQUENCE.ensures ∙ sequence_wide c.args.buf.now _ _ c.if-card-gt-LAST_CARD.false c.if-sequence-gt-LAST_SEQUENCE.true

pub returns-then-buf-lt-LEAST : goal.returns-then-buf-lt-LEAST
returns-then-buf-lt-LEAST c =
    ap refusal c.into-then-buf-lt-LEAST.ensures ∙ begin_short c.args.buf.now _ _ c.if-card-gt-LAST_CARD.false c.if-sequence-gt-LAST_SEQUENCE.false c.if-buf-lt-LEAST.true

pub returns : goal.returns
returns c = may_begin c.args.buf.now _ _ c.if-card-gt-LAST_CARD.false c.if-sequence-gt-LAST_SEQUENCE.false c.if-buf-lt-LEAST.false
