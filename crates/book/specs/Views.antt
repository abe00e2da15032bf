-- What the answers of this crate say in document 01: the class for each case of `Class`, the item for each case of `Item`, answers
-- that are refused or missing.
-- Assumes nothing.
use Rattle.std.specs.Prelude.{ℕ, Option, Some, None, Result, Ok, Err}
use Rattle.std.proofs.Math.Option as paper
use Rattle.format.specs.Answers.{Outcome, accepted}
use Rattle.format.specs.Book as format
use Rattle.format.specs.Items as items
use Rattle.book.specs.declared.class.Class.{Class}
use Rattle.book.specs.declared.class.Class.TheVariants.{Channel, Histogram, HitCount, Sample, Bin, LastCell, TimeBin, DataFrame, MonitorFrame, CommandFrame, Text, StartEvent, ContinueEvent, EndEvent, FrameEnd, Unassigned}
use Rattle.book.specs.declared.items.Item.{Item}
use Rattle.book.specs.declared.items.Item.TheVariants as item
use Rattle.book.specs.declared.refusal.Refusal.{Refusal}
pub use Rattle.book.specs.Refusals.{refusal}

abbrev pub view : Class → format.Class
view Channel = format.channel
view Histogram = format.histogram
view HitCount = format.hit_count
view Sample = format.sample
view Bin = format.bin
view LastCell = format.last_cell
view TimeBin = format.time_bin
view DataFrame = format.data_frame
view MonitorFrame = format.monitor_frame
view CommandFrame = format.command_frame
view Text = format.text
view StartEvent = format.start_event
view ContinueEvent = format.continue_event
view EndEvent = format.end_event
view FrameEnd = format.frame_end
view Unassigned = format.unassigned

-- an item as it is answered: of a text, its n, the final zero included
abbrev pub view_item : Item → items.ItemOf ℕ
view_item (item.Channel x) = items.Channel x.card x.chip x.channel
view_item (item.Histogram x) = items.Histogram x.card x.chip x.channel
view_item (item.HitCount x) = items.HitCount x.card x.chip x.count
view_item (item.Sample x) = items.Sample x.value
view_item (item.Bin x) = items.Bin x.bin x.count
view_item (item.LastCell x) = items.LastCell x.chip x.cell
view_item (item.TimeBin x) = items.TimeBin x.time
view_item (item.Text x) = items.Text x.length
view_item (item.StartEvent x) = items.StartEvent x.kind x.timestamp x.number
view_item (item.ContinueEvent x) = items.ContinueEvent x.number
view_item (item.EndEvent x) = items.EndEvent x.size

-- an answer that is accepted says what `look` makes of it; a refusal its number and place
abbrev pub view_result : {A B : Type 0} → (A → B) → Result A Refusal → Outcome B
view_result look (Ok x) = accepted (look x)
view_result look (Err r) = refusal r

-- an answer that may be missing
abbrev pub view_option : {A B : Type 0} → (A → B) → Option A → paper.Option B
view_option look (Some x) = paper.some (look x)
view_option look None = paper.none
