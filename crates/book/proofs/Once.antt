-- T39: no second result, function by function. Each theorem is over the promise that the function's contract names (specs/Promises.antt), so that
-- a contract made weaker is refused here.
-- Assumes nothing.
use Prim.Native.Nat.{ℕ, ◌%◌}
use mathlib.Core.Path.{◌≡◌, refl, sym, ap, ◌∙◌}
use native.Mathlib.Omega.{arith}
use lib.Bits.{bit_or}
use Rattle.std.specs.Prelude.{Result, Ok, Err}
use mathlib.Core.Bool.{Bool}
use mathlib.Core.List.{List}
use lib.Seq.{sets}
use Rattle.format.specs.Words.{word_at, long_at, time_at}
use Rattle.format.specs.Book.{class_of, row_of, after, text_words}
use Rattle.format.specs.Items.{in_range, key}
use Rattle.book.specs.declared.class.Class.{Class}
use Rattle.book.specs.declared.class.NoClass.{NoClass}
use Rattle.book.specs.declared.items.Header.{Header}
use Rattle.book.specs.Fields.{Channel, Histogram}
use Rattle.book.specs.declared.items.HitCount.{HitCount}
use Rattle.book.specs.declared.items.Sample.{Sample}
use Rattle.book.specs.declared.items.Bin.{Bin}
use Rattle.book.specs.declared.items.LastCell.{LastCell}
use Rattle.book.specs.declared.items.TimeBin.{TimeBin}
use Rattle.book.specs.declared.items.Text.{Text}
use Rattle.book.specs.declared.items.StartEvent.{StartEvent}
use Rattle.follower.specs.declared.SequenceError.{SequenceError}
use Rattle.book.specs.declared.refusal.Fault.{Fault}
use Rattle.book.specs.declared.refusal.Refusal.{Refusal}
use Rattle.book.specs.Refusals.{number_of, fault_of, AtStart, FaultOf, FollowerAtStart}
use Rattle.book.specs.Fields.{header_of, header_bits_cut, channel_of, histogram_of, hits_of, bin_of, cell_of, type_of, channel_word, histogram_word, hits_word, sample_word, bin_word, cell_word, time_bin_word, text_word, start_word, channel_item, histogram_item, hits_item, sample_item, bin_item, cell_item, time_item, start_item}
use Rattle.book.specs.Page.{on_page, book_page}
use Rattle.book.specs.Views.{view}
use Rattle.book.specs.Promises.{Classified, PageTold, ClassifiedOn, RowTold, ClassOf, HeaderRead, HeaderWord, HeaderValid, FaultNumbered, Placed, TextLong, WordsAfter, KeyTold, ChannelRead, ChannelWord, ChannelValid, HistogramRead, HistogramWord, HistogramValid, HitCountRead, HitCountWord, HitCountValid, SampleRead, SampleWord, SampleValid, BinRead, BinWord, BinValid, LastCellRead, LastCellWord, LastCellValid, TimeBinRead, TimeBinWord, TimeBinValid, TextRead, TextWord, StartEventRead, StartEventWord, StartEventValid, EndEventLow, ContinueEventLow, WordRead, LongRead, TimeRead, Copied}
use Rattle.book.proofs.Unique.{one, undone, same_class, same_row, row_most, equal_once}

-- ---- the class of a word, and the words that come after it

pub classify_once : (w : ℕ) (r q : Class) → Classified w r → Classified w q → r ≡ q
classify_once w = one view same_class (class_of w)

pub page_once : (r q : List ℕ) → PageTold r → PageTold q → r ≡ q
page_once = equal_once book_page

pub classify_on_once : (page : List ℕ) (w : ℕ) (r q : Class) → ClassifiedOn page w r → ClassifiedOn page w q → r ≡ q
classify_on_once page w = one view same_class (on_page page w)

pub row_once : (c : Class) (r q : ℕ) → RowTold c r → RowTold c q → r ≡ q
row_once c = equal_once (row_of (view c))

-- `Class::try_from`: a row is one class's, and no class has a row above 15
pub class_of_row_once : (n : ℕ) (r q : Result Class NoClass) → ClassOf n r → ClassOf n q → r ≡ q
class_of_row_once n (Ok c) (Ok d) e f = ap Ok (same_row c d (sym e ∙ f))
class_of_row_once n (Ok c) (Err x) e f = absurd (omega (arith, row_most c))
class_of_row_once n (Err x) (Ok c) e f = absurd (omega (arith, row_most c))
class_of_row_once n (Err x) (Err y) e f = refl

pub text_words_once : (w r q : ℕ) → TextLong w r → TextLong w q → r ≡ q
text_words_once w = equal_once (text_words w)

pub words_after_once : (w r q : ℕ) → WordsAfter w r → WordsAfter w q → r ≡ q
words_after_once w = equal_once (after (class_of w) w)

-- ---- the items

pub key_once : (card chip channel r q : ℕ) → KeyTold card chip channel r → KeyTold card chip channel q → r ≡ q
key_once card chip channel = equal_once (key card chip channel)

pub header_read_once : (prefix w : ℕ) (r q : Header prefix) → HeaderRead prefix w r → HeaderRead prefix w q → r ≡ q
header_read_once prefix w = equal_once (header_of w)

pub header_word_once : (prefix : ℕ) (x : Header prefix) (r q : ℕ) → HeaderWord prefix x r → HeaderWord prefix x q → r ≡ q
header_word_once prefix x = equal_once (bit_or (header_bits_cut x.card x.chip x.channel) prefix)

pub header_valid_once : (prefix : ℕ) (x : Header prefix) (card : ℕ) (r q : Bool) → HeaderValid prefix x card r → HeaderValid prefix x card q → r ≡ q
header_valid_once prefix x card r q e f = e.0 ∙ sym f.0

-- the same at the two prefixes, where the general promise is the one of the Channel (proofs/Headers.antt) and of the Histogram

pub channel_read_once : (w : ℕ) (r q : Channel) → ChannelRead w r → ChannelRead w q → r ≡ q
channel_read_once w = equal_once (channel_of w)

pub channel_word_once : (x : Channel) (r q : ℕ) → ChannelWord x r → ChannelWord x q → r ≡ q
channel_word_once x = equal_once (channel_word x)

pub channel_valid_once : (x : Channel) (card : ℕ) (r q : Bool) → ChannelValid x card r → ChannelValid x card q → r ≡ q
channel_valid_once x card = equal_once (in_range card (channel_item x))

pub histogram_read_once : (w : ℕ) (r q : Histogram) → HistogramRead w r → HistogramRead w q → r ≡ q
histogram_read_once w = equal_once (histogram_of w)

pub histogram_word_once : (x : Histogram) (r q : ℕ) → HistogramWord x r → HistogramWord x q → r ≡ q
histogram_word_once x = equal_once (histogram_word x)

pub histogram_valid_once : (x : Histogram) (card : ℕ) (r q : Bool) → HistogramValid x card r → HistogramValid x card q → r ≡ q
histogram_valid_once x card = equal_once (in_range card (histogram_item x))

pub hit_count_read_once : (w : ℕ) (r q : HitCount) → HitCountRead w r → HitCountRead w q → r ≡ q
hit_count_read_once w = equal_once (hits_of w)

pub hit_count_word_once : (x : HitCount) (r q : ℕ) → HitCountWord x r → HitCountWord x q → r ≡ q
hit_count_word_once x = equal_once (hits_word x)

pub hit_count_valid_once : (x : HitCount) (card : ℕ) (r q : Bool) → HitCountValid x card r → HitCountValid x card q → r ≡ q
hit_count_valid_once x card = equal_once (in_range card (hits_item x))

pub sample_read_once : (w : ℕ) (r q : Sample) → SampleRead w r → SampleRead w q → r ≡ q
sample_read_once w = one (λ (r : Sample). r.value) (undone (λ (r : Sample). r.value) (λ (v : ℕ). record { value = v }) (λ r. refl)) (w % 4096)

pub sample_word_once : (x : Sample) (r q : ℕ) → SampleWord x r → SampleWord x q → r ≡ q
sample_word_once x = equal_once (sample_word x)

pub sample_valid_once : (x : Sample) (r q : Bool) → SampleValid x r → SampleValid x q → r ≡ q
sample_valid_once x = equal_once (in_range 0 (sample_item x))

pub bin_read_once : (w r q : ℕ) → BinRead w r → BinRead w q → r ≡ q
bin_read_once w = equal_once (bin_of w)

pub bin_word_once : (x : Bin) (r q : ℕ) → BinWord x r → BinWord x q → r ≡ q
bin_word_once x = equal_once (bin_word x)

pub bin_valid_once : (x : Bin) (r q : Bool) → BinValid x r → BinValid x q → r ≡ q
bin_valid_once x = equal_once (in_range 0 (bin_item x))

pub last_cell_read_once : (w : ℕ) (r q : LastCell) → LastCellRead w r → LastCellRead w q → r ≡ q
last_cell_read_once w = equal_once (cell_of w)

pub last_cell_word_once : (x : LastCell) (r q : ℕ) → LastCellWord x r → LastCellWord x q → r ≡ q
last_cell_word_once x = equal_once (cell_word x)

pub last_cell_valid_once : (x : LastCell) (r q : Bool) → LastCellValid x r → LastCellValid x q → r ≡ q
last_cell_valid_once x = equal_once (in_range 0 (cell_item x))

pub time_bin_read_once : (w : ℕ) (r q : TimeBin) → TimeBinRead w r → TimeBinRead w q → r ≡ q
time_bin_read_once w = one (λ (r : TimeBin). r.time) (undone (λ (r : TimeBin). r.time) (λ (v : ℕ). record { time = v }) (λ r. refl)) (w % 512)

pub time_bin_word_once : (x : TimeBin) (r q : ℕ) → TimeBinWord x r → TimeBinWord x q → r ≡ q
time_bin_word_once x = equal_once (time_bin_word x)

pub time_bin_valid_once : (x : TimeBin) (r q : Bool) → TimeBinValid x r → TimeBinValid x q → r ≡ q
time_bin_valid_once x = equal_once (in_range 0 (time_item x))

pub text_read_once : (w : ℕ) (r q : Text) → TextRead w r → TextRead w q → r ≡ q
text_read_once w = one (λ (r : Text). r.length) (undone (λ (r : Text). r.length) (λ (v : ℕ). record { length = v }) (λ r. refl)) (w % 256)

pub text_word_once : (x : Text) (r q : ℕ) → TextWord x r → TextWord x q → r ≡ q
text_word_once x = equal_once (text_word x)

pub start_event_read_once : (w r q : ℕ) → StartEventRead w r → StartEventRead w q → r ≡ q
start_event_read_once w = equal_once (type_of w)

pub start_event_word_once : (x : StartEvent) (r q : ℕ) → StartEventWord x r → StartEventWord x q → r ≡ q
start_event_word_once x = equal_once (start_word x)

pub start_event_valid_once : (x : StartEvent) (r q : Bool) → StartEventValid x r → StartEventValid x q → r ≡ q
start_event_valid_once x = equal_once (in_range 0 (start_item x))

pub low_bits_once : (w r q : ℕ) → EndEventLow w r → EndEventLow w q → r ≡ q
low_bits_once w = equal_once (w % 16)

pub continue_low_once : (w r q : ℕ) → ContinueEventLow w r → ContinueEventLow w q → r ≡ q
continue_low_once w = equal_once (w % 512)

-- ---- refusals

pub fault_number_once : (f : Fault) (r q : ℕ) → FaultNumbered f r → FaultNumbered f q → r ≡ q
fault_number_once f = equal_once (number_of f)

pub placed_once : (f : Fault) (place : ℕ) (r q : Refusal) → Placed f place r → Placed f place q → r ≡ q
placed_once f place = equal_once (record { fault = f; place = place })

-- `Refusal::from`
pub at_start_once : (f : Fault) (r q : Refusal) → AtStart f r → AtStart f q → r ≡ q
at_start_once f = equal_once (record { fault = f; place = 0 })

-- `Fault::from`, `Refusal::from` of the follower's faults
pub fault_of_once : (e : SequenceError) (r q : Fault) → FaultOf e r → FaultOf e q → r ≡ q
fault_of_once e = equal_once (fault_of e)

pub follower_at_start_once : (e : SequenceError) (r q : Refusal) → FollowerAtStart e r → FollowerAtStart e q → r ≡ q
follower_at_start_once e = equal_once (record { fault = fault_of e; place = 0 })

-- ---- words in bytes; `copy` answers nothing, its promise is of the list that it leaves, whole

pub word_once : (s : List ℕ) (i r q : ℕ) → WordRead s i r → WordRead s i q → r ≡ q
word_once s i = equal_once (word_at s i)

pub long_once : (s : List ℕ) (i r q : ℕ) → LongRead s i r → LongRead s i q → r ≡ q
long_once s i = equal_once (long_at s i)

pub time_once : (s : List ℕ) (i r q : ℕ) → TimeRead s i r → TimeRead s i q → r ≡ q
time_once s i = equal_once (time_at s i)

pub copy_once : (src found r q : List ℕ) → Copied src found r → Copied src found q → r ≡ q
copy_once src found = equal_once (sets found 0 src)
