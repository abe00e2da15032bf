-- `cursor::standing::FirstWord::item` meets its contract: each arm is what stands at a word of its class.
-- Assumes nothing.
use Prim.Native.Nat.{ℕ}
use mathlib.Core.Path.{◌≡◌, ap, sym, ◌∙◌}
use Rattle.format.specs.Book.{class_of}
use Rattle.book.specs.Views.{view}
use Rattle.book.specs.declared.class.Class.{Class}
use Rattle.cursor.proofs.Shows.{channel_shown, histogram_shown, hit_shown, sample_shown, cell_shown, time_shown, data_shown, monitor_shown, command_shown, frame_end_shown, unassigned_shown}
use Rattle.cursor.proofs.standing.FirstWord.item.Goals as goal

-- the class that was found is that of the word
class_is : (r k : Class) (w : ℕ) → view r ≡ class_of w → r ≡ k → view k ≡ class_of w
class_is r k w h e = ap view (sym e) ∙ h

pub returns-in-Channel : goal.returns-in-Channel
returns-in-Channel c =
    let p = c.args.self.stands in
    c.found.ensures ∙ channel_shown _ _ _ _ p.0 p.1 p.2 p.3 _ (class_is _ _ _ c.classify-class.ensures c.in-Channel.is) c.of_word.ensures

pub returns-in-Histogram : goal.returns-in-Histogram
returns-in-Histogram c =
    let p = c.args.self.stands in
    c.found-in-Histogram.ensures ∙ histogram_shown _ _ _ _ p.0 p.1 p.2 p.3 _ (class_is _ _ _ c.classify-class.ensures c.in-Histogram.is) c.of_word-in-Histogram.ensures

pub returns-in-HitCount : goal.returns-in-HitCount
returns-in-HitCount c =
    let p = c.args.self.stands in
    c.found-in-HitCount.ensures ∙ hit_shown _ _ _ _ p.0 p.1 p.2 p.3 _ (class_is _ _ _ c.classify-class.ensures c.in-HitCount.is) c.of_word-in-HitCount.ensures

pub returns-in-Sample : goal.returns-in-Sample
returns-in-Sample c =
    let p = c.args.self.stands in
    c.found-in-Sample.ensures ∙ sample_shown _ _ _ _ p.0 p.1 p.2 p.3 _ (class_is _ _ _ c.classify-class.ensures c.in-Sample.is) c.of_word-in-Sample.ensures

pub returns-in-LastCell : goal.returns-in-LastCell
returns-in-LastCell c =
    let p = c.args.self.stands in
    c.found-in-LastCell.ensures ∙ cell_shown _ _ _ _ p.0 p.1 p.2 p.3 _ (class_is _ _ _ c.classify-class.ensures c.in-LastCell.is) c.of_word-in-LastCell.ensures

pub returns-in-TimeBin : goal.returns-in-TimeBin
returns-in-TimeBin c =
    let p = c.args.self.stands in
    c.found-in-TimeBin.ensures ∙ time_shown _ _ _ _ p.0 p.1 p.2 p.3 _ (class_is _ _ _ c.classify-class.ensures c.in-TimeBin.is) c.of_word-in-TimeBin.ensures

pub returns-in-DataFrame : goal.returns-in-DataFrame
returns-in-DataFrame c =
    let p = c.args.self.stands in
    data_shown _ _ _ _ p.0 p.1 p.2 p.3 (class_is _ _ _ c.classify-class.ensures c.in-DataFrame.is)

pub returns-in-MonitorFrame : goal.returns-in-MonitorFrame
returns-in-MonitorFrame c =
    let p = c.args.self.stands in
    monitor_shown _ _ _ _ p.0 p.1 p.2 p.3 (class_is _ _ _ c.classify-class.ensures c.in-MonitorFrame.is)

pub returns-in-CommandFrame : goal.returns-in-CommandFrame
returns-in-CommandFrame c =
    let p = c.args.self.stands in
    command_shown _ _ _ _ p.0 p.1 p.2 p.3 (class_is _ _ _ c.classify-class.ensures c.in-CommandFrame.is)

pub returns-in-FrameEnd : goal.returns-in-FrameEnd
returns-in-FrameEnd c =
    let p = c.args.self.stands in
    frame_end_shown _ _ _ _ p.0 p.1 p.2 p.3 (class_is _ _ _ c.classify-class.ensures c.in-FrameEnd.is)

pub returns-in-Unassigned : goal.returns-in-Unassigned
returns-in-Unassigned c =
    let p = c.args.self.stands in
    unassigned_shown _ _ _ _ p.0 p.1 p.2 p.3 (class_is _ _ _ c.classify-class.ensures c.in-Unassigned.is)
