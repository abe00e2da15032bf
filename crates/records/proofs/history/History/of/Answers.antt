-- `records::history::History::of` meets its contract: the header, then the frame.
-- Assumes nothing.
use mathlib.Core.Path.{refl, ap, sym, ◌∙◌}
use native.Mathlib.Omega.{arith}
use Rattle.format.specs.Steps.{read_of}
use Rattle.book.specs.Views.{refusal}
use Rattle.ledger.specs.Versions.{format_in}
use Rattle.records.proofs.RecordLaws.{passed_by, judge_refused, judge_accepted, frame_part, room, framed_header, framed_frame, framed_right, history_framed, length_is, count_is}
use Rattle.records.proofs.history.History.of.Goals as goal

pub returns-then-not-header_right : goal.returns-then-not-header_right
returns-then-not-header_right c = ap refusal c.into.ensures ∙ framed_header _ _ (sym c.header_right.ensures ∙ c.if-not-header_right.true)

pub slice_bounds-frame-end : goal.slice_bounds-frame-end
slice_bounds-frame-end c = omega (arith, (room (format_in c.args.buf.now) c.args.buf.now (sym c.header_right.ensures ∙ c.if-not-header_right.false)).within, length_is c.args.buf.now c.word-length.result c.word-length.ensures)

pub returns-in_err-read : goal.returns-in_err-read
returns-in_err-read c =
    passed_by _ _ _ _ c.from_residual.ensures.1
    (framed_frame _ _ _ _ (sym c.header_right.ensures ∙ c.if-not-header_right.false) (judge_refused _ _ _ (c.in_err-read.ensures ∙ ap read_of (frame_part _ _ (length_is _ _ c.word-length.ensures)))))

pub invariant_of-result : goal.invariant_of-result
invariant_of-result c =
    record {
      framed = history_framed _ (λ i. (c.type_inv.buf i).fits) (sym c.header_right.ensures ∙ c.if-not-header_right.false) (judge_accepted _ _ (c.in_ok-read.ensures ∙ ap read_of (frame_part _ _ (length_is _ _ c.word-length.ensures))))
          _ _ _ c.word-version.ensures (count_is _ _ c.word-count.ensures) (frame_part _ _ (length_is _ _ c.word-length.ensures));
    }

pub returns : goal.returns
returns c =
    let h = sym c.header_right.ensures ∙ c.if-not-header_right.false in
    let part = frame_part _ _ (length_is _ _ c.word-length.ensures) in
    record {
      answered = framed_right _ _ h (judge_accepted _ _ (c.in_ok-read.ensures ∙ ap read_of part)) _ _ _ (length_is _ _ c.word-length.ensures) (count_is _ _ c.word-count.ensures) (c.word-total.ensures ∙ (room _ _ h).total);
      lent = refl;
      part = part;
      first = c.word-version.ensures;
    }
