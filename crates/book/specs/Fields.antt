-- The fields of a word, cut from it by position and put in the same way, and the items that the item structs stand for.
-- Assumes nothing.
use Rattle.std.specs.Prelude.{ℕ, ◌+◌, ◌*◌, ◌/◌, ◌%◌}
use Rattle.format.specs.Items as items
use Rattle.book.specs.declared.items.Header.{Header}
use Rattle.book.specs.declared.items.HitCount.{HitCount}
use Rattle.book.specs.declared.items.Sample.{Sample}
use Rattle.book.specs.declared.items.Bin.{Bin}
use Rattle.book.specs.declared.items.LastCell.{LastCell}
use Rattle.book.specs.declared.items.TimeBin.{TimeBin}
use Rattle.book.specs.declared.items.Text.{Text}
use Rattle.book.specs.declared.items.StartEvent.{StartEvent}
use Rattle.book.specs.declared.items.ContinueEvent.{ContinueEvent}
use Rattle.book.specs.declared.items.EndEvent.{EndEvent}

-- the headers, by the prefix that each word begins with
abbrev pub Channel : Type 0
Channel = Header 0xC000

abbrev pub Histogram : Type 0
Histogram = Header 0x8000

-- card 5, chip 2, channel 7
abbrev pub header_of : {prefix : ℕ} → ℕ → Header prefix
header_of w = record { card = w / 512 % 32; chip = w / 128 % 4; channel = w % 128 }

abbrev pub channel_of : ℕ → Channel
channel_of w = header_of w

abbrev pub histogram_of : ℕ → Histogram
histogram_of w = header_of w

-- card 5, chip 2, count 7
abbrev pub hits_of : ℕ → HitCount
hits_of w = record { card = w / 512 % 32; chip = w / 128 % 4; count = w % 128 }

-- chip 2, cell 9
abbrev pub cell_of : ℕ → LastCell
cell_of w = record { chip = w / 512 % 4; cell = w % 512 }

abbrev pub sample_of : ℕ → Sample
sample_of w = record { value = w % 4096 }

-- of the items with words after the first, what the first word holds
abbrev pub bin_of : ℕ → ℕ
bin_of w = w % 4096

abbrev pub time_bin_of : ℕ → TimeBin
time_bin_of w = record { time = w % 512 }

abbrev pub text_of : ℕ → Text
text_of w = record { length = w % 256 }

abbrev pub type_of : ℕ → ℕ
type_of w = w % 16

-- three fields, each cut to its width, put together
abbrev pub header_bits_cut : ℕ → ℕ → ℕ → ℕ
header_bits_cut a b c = items.header_bits (a % 32) (b % 4) (c % 128)

-- the first word of each item, its fields cut to their widths
abbrev pub channel_word : Channel → ℕ
channel_word x = 0xC000 + header_bits_cut x.card x.chip x.channel

abbrev pub histogram_word : Histogram → ℕ
histogram_word x = 0x8000 + header_bits_cut x.card x.chip x.channel

abbrev pub hits_word : HitCount → ℕ
hits_word x = 0x4000 + header_bits_cut x.card x.chip x.count

abbrev pub sample_word : Sample → ℕ
sample_word x = 0x3000 + x.value % 4096

abbrev pub bin_word : Bin → ℕ
bin_word x = 0x2000 + x.bin % 4096

abbrev pub cell_word : LastCell → ℕ
cell_word x = 0x1800 + (x.chip % 4 * 512 + x.cell % 512)

abbrev pub time_bin_word : TimeBin → ℕ
time_bin_word x = 0x0E00 + x.time % 512

abbrev pub text_word : Text → ℕ
text_word x = 0x0100 + x.length % 256

abbrev pub start_word : StartEvent → ℕ
start_word x = 0x00F0 + x.kind % 16

-- the items that the structs stand for
abbrev pub channel_item : Channel → items.Item
channel_item x = items.Channel x.card x.chip x.channel

abbrev pub histogram_item : Histogram → items.Item
histogram_item x = items.Histogram x.card x.chip x.channel

abbrev pub hits_item : HitCount → items.Item
hits_item x = items.HitCount x.card x.chip x.count

abbrev pub sample_item : Sample → items.Item
sample_item x = items.Sample x.value

abbrev pub bin_item : Bin → items.Item
bin_item x = items.Bin x.bin x.count

abbrev pub cell_item : LastCell → items.Item
cell_item x = items.LastCell x.chip x.cell

abbrev pub time_item : TimeBin → items.Item
time_item x = items.TimeBin x.time

abbrev pub start_item : StartEvent → items.Item
start_item x = items.StartEvent x.kind x.timestamp x.number

abbrev pub continue_item : ContinueEvent → items.Item
continue_item x = items.ContinueEvent x.number

abbrev pub end_item : EndEvent → items.Item
end_item x = items.EndEvent x.size
