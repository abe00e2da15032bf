-- What each public function promises, under a name: `Read` of an item is what a word says of it, `Word` the word with its fields, `Valid` whether
-- it keeps the value rules. The functions' contracts and the theorems of proofs/Once.antt are over these same names.
-- Assumes nothing.
use Rattle.std.specs.Prelude.{ℕ, ◌%◌, ◌≡◌, ◌<◌, Bool, List, bit_or, Result, Ok, Err}
use Rattle.std.proofs.lemmas.List.Edits.{sets}
use Rattle.format.specs.Words.{word_at, long_at, time_at}
use Rattle.format.specs.Book.{class_of, row_of, after, text_words}
use Rattle.format.specs.Items.{in_range, key}
use Rattle.format.specs.Items as items
use Rattle.book.specs.declared.class.Class.{Class}
use Rattle.book.specs.declared.class.NoClass.{NoClass}
use Rattle.book.specs.declared.items.Header.{Header}
use Rattle.book.specs.declared.items.HitCount.{HitCount}
use Rattle.book.specs.declared.items.Sample.{Sample}
use Rattle.book.specs.declared.items.Bin.{Bin}
use Rattle.book.specs.declared.items.LastCell.{LastCell}
use Rattle.book.specs.declared.items.TimeBin.{TimeBin}
use Rattle.book.specs.declared.items.Text.{Text}
use Rattle.book.specs.declared.items.StartEvent.{StartEvent}
use Rattle.book.specs.Fields.{Channel, Histogram, channel_of, histogram_of, header_of, header_bits_cut, channel_word, histogram_word, hits_of, bin_of, cell_of, type_of, hits_word, sample_word, bin_word, cell_word, time_bin_word, text_word, start_word, channel_item, histogram_item, hits_item, sample_item, bin_item, cell_item, time_item, start_item}
use Rattle.book.specs.declared.refusal.Fault.{Fault}
use Rattle.book.specs.declared.refusal.Refusal.{Refusal}
use Rattle.book.specs.Refusals.{number_of}
use Rattle.book.specs.Views.{view}
use Rattle.book.specs.Page.{on_page, book_page}

-- ---- the class of a word, and the words that come after it

abbrev pub Classified : ℕ → Class → Type 0
Classified w r = view r ≡ class_of w

-- the book's page
abbrev pub PageTold : List ℕ → Type 0
PageTold r = r ≡ book_page

-- by any page
abbrev pub ClassifiedOn : List ℕ → ℕ → Class → Type 0
ClassifiedOn page w r = view r ≡ on_page page w

-- its row in document 01's table
abbrev pub RowTold : Class → ℕ → Type 0
RowTold c r = r ≡ row_of (view c)

-- the class of a row; a number that no row has is no class
abbrev pub ClassOf : ℕ → Result Class NoClass → Type 0
ClassOf n (Ok c) = n ≡ row_of (view c)
ClassOf n (Err e) = 15 < n

abbrev pub TextLong : ℕ → ℕ → Type 0
TextLong w r = r ≡ text_words w

abbrev pub WordsAfter : ℕ → ℕ → Type 0
WordsAfter w r = r ≡ after (class_of w) w

-- ---- the items

-- the order key of a header with these fields
abbrev pub KeyTold : ℕ → ℕ → ℕ → ℕ → Type 0
KeyTold card chip channel r = r ≡ key card chip channel

-- of a Channel and of a Histogram alike
abbrev pub HeaderRead : (prefix : ℕ) → ℕ → Header prefix → Type 0
HeaderRead prefix w r = r ≡ header_of w

-- the word that begins with the prefix
abbrev pub HeaderWord : (prefix : ℕ) → Header prefix → ℕ → Type 0
HeaderWord prefix x r = r ≡ bit_or (header_bits_cut x.card x.chip x.channel) prefix

abbrev pub HeaderValid : (prefix : ℕ) → Header prefix → ℕ → Bool → Type 0
HeaderValid prefix x card r = (r ≡ in_range card (items.Channel x.card x.chip x.channel)) × (r ≡ in_range card (items.Histogram x.card x.chip x.channel))

-- at the two prefixes
abbrev pub ChannelRead : ℕ → Channel → Type 0
ChannelRead w r = r ≡ channel_of w

abbrev pub ChannelWord : Channel → ℕ → Type 0
ChannelWord x r = r ≡ channel_word x

abbrev pub ChannelValid : Channel → ℕ → Bool → Type 0
ChannelValid x card r = r ≡ in_range card (channel_item x)

abbrev pub HistogramRead : ℕ → Histogram → Type 0
HistogramRead w r = r ≡ histogram_of w

abbrev pub HistogramWord : Histogram → ℕ → Type 0
HistogramWord x r = r ≡ histogram_word x

abbrev pub HistogramValid : Histogram → ℕ → Bool → Type 0
HistogramValid x card r = r ≡ in_range card (histogram_item x)

abbrev pub HitCountRead : ℕ → HitCount → Type 0
HitCountRead w r = r ≡ hits_of w

abbrev pub HitCountWord : HitCount → ℕ → Type 0
HitCountWord x r = r ≡ hits_word x

abbrev pub HitCountValid : HitCount → ℕ → Bool → Type 0
HitCountValid x card r = r ≡ in_range card (hits_item x)

abbrev pub SampleRead : ℕ → Sample → Type 0
SampleRead w r = r.value ≡ w % 4096

abbrev pub SampleWord : Sample → ℕ → Type 0
SampleWord x r = r ≡ sample_word x

abbrev pub SampleValid : Sample → Bool → Type 0
SampleValid x r = r ≡ in_range 0 (sample_item x)

abbrev pub BinRead : ℕ → ℕ → Type 0
BinRead w r = r ≡ bin_of w

abbrev pub BinWord : Bin → ℕ → Type 0
BinWord x r = r ≡ bin_word x

abbrev pub BinValid : Bin → Bool → Type 0
BinValid x r = r ≡ in_range 0 (bin_item x)

abbrev pub LastCellRead : ℕ → LastCell → Type 0
LastCellRead w r = r ≡ cell_of w

abbrev pub LastCellWord : LastCell → ℕ → Type 0
LastCellWord x r = r ≡ cell_word x

abbrev pub LastCellValid : LastCell → Bool → Type 0
LastCellValid x r = r ≡ in_range 0 (cell_item x)

abbrev pub TimeBinRead : ℕ → TimeBin → Type 0
TimeBinRead w r = r.time ≡ w % 512

abbrev pub TimeBinWord : TimeBin → ℕ → Type 0
TimeBinWord x r = r ≡ time_bin_word x

abbrev pub TimeBinValid : TimeBin → Bool → Type 0
TimeBinValid x r = r ≡ in_range 0 (time_item x)

abbrev pub TextRead : ℕ → Text → Type 0
TextRead w r = r.length ≡ w % 256

abbrev pub TextWord : Text → ℕ → Type 0
TextWord x r = r ≡ text_word x

abbrev pub StartEventRead : ℕ → ℕ → Type 0
StartEventRead w r = r ≡ type_of w

abbrev pub StartEventWord : StartEvent → ℕ → Type 0
StartEventWord x r = r ≡ start_word x

abbrev pub StartEventValid : StartEvent → Bool → Type 0
StartEventValid x r = r ≡ in_range 0 (start_item x)

-- the low four bits of an End event's first word
abbrev pub EndEventLow : ℕ → ℕ → Type 0
EndEventLow w r = r ≡ w % 16

-- the content of a Continue event's first word
abbrev pub ContinueEventLow : ℕ → ℕ → Type 0
ContinueEventLow w r = r ≡ w % 512

-- ---- refusals

-- a fault's number in the documents' tables
abbrev pub FaultNumbered : Fault → ℕ → Type 0
FaultNumbered f r = r ≡ number_of f

-- the refusal for a fault, at a place
abbrev pub Placed : Fault → ℕ → Refusal → Type 0
Placed f place r = r ≡ record { fault = f; place = place }

-- ---- words of 16, 32 and 48 bits in bytes; bytes copied to the start of others, as far as there is room

abbrev pub WordRead : List ℕ → ℕ → ℕ → Type 0
WordRead s i r = r ≡ word_at s i

abbrev pub LongRead : List ℕ → ℕ → ℕ → Type 0
LongRead s i r = r ≡ long_at s i

abbrev pub TimeRead : List ℕ → ℕ → ℕ → Type 0
TimeRead s i r = r ≡ time_at s i

abbrev pub Copied : List ℕ → List ℕ → List ℕ → Type 0
Copied src found exit = exit ≡ sets found 0 src
