-- `frame::walk::step` meets its contract: each arm is the turn of its class.
-- Assumes nothing.
use Prim.Native.Nat.{ℕ, ◌<◌}
use mathlib.Core.List.{List}
use mathlib.Core.Logic.{inl, inr}
use mathlib.Core.Path.{◌≡◌, ap, sym, ◌∙◌}
use native.Mathlib.Omega.{arith}
use Rattle.format.specs.Book.{class_of}
use Rattle.book.specs.Views.{view}
use Rattle.book.specs.Page.{book_page, on_page}
use Rattle.book.proofs.PageLaws.{page_tells}
use Rattle.book.specs.declared.class.Class.{Class}
use Rattle.frame.proofs.Steps.{channel_step, histogram_step, hit_step, sample_step, cell_step, time_step, data_step, monitor_step, command_step, end_step, unassigned_step}
use Rattle.frame.proofs.walk.step.Goals as goal

-- the class that was found is that of the word
class_is : (r k : Class) (rows : List ℕ) (w : ℕ) → rows ≡ book_page → view r ≡ on_page rows w → w < 65536 → r ≡ k → view k ≡ class_of w
class_is r k rows w p h l e = ap view (sym e) ∙ h ∙ page_tells rows w p l

pub bin_at-requires : goal.bin_at-requires
bin_at-requires c =
    class_is _ _ _ _ c.requires.2 c.classify_on-class.ensures (omega arith) c.in-Bin.is

pub text_at-requires : goal.text_at-requires
text_at-requires c =
    class_is _ _ _ _ c.requires.2 c.classify_on-class.ensures (omega arith) c.in-Text.is

pub start_at-requires : goal.start_at-requires
start_at-requires c =
    class_is _ _ _ _ c.requires.2 c.classify_on-class.ensures (omega arith) c.in-StartEvent.is

pub end_at-requires : goal.end_at-requires
end_at-requires c =
    class_is _ _ _ _ c.requires.2 c.classify_on-class.ensures (omega arith) c.in-EndEvent.is

pub continue_at-requires : goal.continue_at-requires
continue_at-requires c =
    class_is _ _ _ _ c.requires.2 c.classify_on-class.ensures (omega arith) c.in-ContinueEvent.is

pub returns-in-Channel : goal.returns-in-Channel
returns-in-Channel c =
    channel_step _ _ _ _ _ _ c.word-w.ensures _ _ (class_is _ _ _ _ c.requires.2 c.classify_on-class.ensures (omega arith) c.in-Channel.is) c.of_word.ensures c.channel.ensures

pub returns-in-Histogram : goal.returns-in-Histogram
returns-in-Histogram c =
    histogram_step _ _ _ _ _ _ c.word-w.ensures _ _ (class_is _ _ _ _ c.requires.2 c.classify_on-class.ensures (omega arith) c.in-Histogram.is) c.of_word-in-Histogram.ensures c.histogram.ensures

pub returns-in-HitCount : goal.returns-in-HitCount
returns-in-HitCount c =
    hit_step _ _ _ _ _ _ c.word-w.ensures _ _ (class_is _ _ _ _ c.requires.2 c.classify_on-class.ensures (omega arith) c.in-HitCount.is) c.of_word-in-HitCount.ensures c.hit_count.ensures

pub returns-in-Sample : goal.returns-in-Sample
returns-in-Sample c =
    sample_step _ _ _ _ _ _ c.word-w.ensures _ _ (class_is _ _ _ _ c.requires.2 c.classify_on-class.ensures (omega arith) c.in-Sample.is) c.of_word-in-Sample.ensures c.sample.ensures

pub returns-in-Bin : goal.returns-in-Bin
returns-in-Bin c =
    c.bin_at.ensures _

pub returns-in-LastCell : goal.returns-in-LastCell
returns-in-LastCell c =
    cell_step _ _ _ _ _ _ c.word-w.ensures _ _ (class_is _ _ _ _ c.requires.2 c.classify_on-class.ensures (omega arith) c.in-LastCell.is) c.of_word-in-LastCell.ensures c.last_cell.ensures

pub returns-in-TimeBin : goal.returns-in-TimeBin
returns-in-TimeBin c =
    time_step _ _ _ _ _ _ c.word-w.ensures _ _ (class_is _ _ _ _ c.requires.2 c.classify_on-class.ensures (omega arith) c.in-TimeBin.is) c.of_word-in-TimeBin.ensures c.time_bin.ensures

pub returns-in-DataFrame : goal.returns-in-DataFrame
returns-in-DataFrame c =
    elim c.in-DataFrame.is [
      | inl e ↦ data_step _ _ _ _ _ _ c.word-w.ensures (class_is _ _ _ _ c.requires.2 c.classify_on-class.ensures (omega arith) e)
      | inr (inl e) ↦ monitor_step _ _ _ _ _ _ c.word-w.ensures (class_is _ _ _ _ c.requires.2 c.classify_on-class.ensures (omega arith) e)
      | inr (inr (inl e)) ↦ command_step _ _ _ _ _ _ c.word-w.ensures (class_is _ _ _ _ c.requires.2 c.classify_on-class.ensures (omega arith) e)
      | inr (inr (inr e)) ↦ end_step _ _ _ _ _ _ c.word-w.ensures (class_is _ _ _ _ c.requires.2 c.classify_on-class.ensures (omega arith) e)
    ]

pub returns-in-Text : goal.returns-in-Text
returns-in-Text c =
    c.text_at.ensures _

pub returns-in-StartEvent : goal.returns-in-StartEvent
returns-in-StartEvent c =
    c.start_at.ensures _

pub returns-in-EndEvent : goal.returns-in-EndEvent
returns-in-EndEvent c =
    c.end_at.ensures _

pub returns-in-Unassigned : goal.returns-in-Unassigned
returns-in-Unassigned c =
    unassigned_step _ _ _ _ _ _ c.word-w.ensures (class_is _ _ _ _ c.requires.2 c.classify_on-class.ensures (omega arith) c.in-Unassigned.is)

pub returns-in-ContinueEvent : goal.returns-in-ContinueEvent
returns-in-ContinueEvent c =
    c.continue_at.ensures _
