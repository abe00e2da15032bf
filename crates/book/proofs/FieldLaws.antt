-- T3 of the code's item structs, the way back: fields that fit go into a word and come out again, and a word of a class is the word of its
-- fields. One law over the widths (format's proofs/book/FieldLaws) stands behind all of them; a struct is tied to it by how it lists its fields.
-- Then: the code's fields are the meaning's. Its word is the first of `words_of`, and `decode` gives what its `of_word` gives.
-- Assumes nothing.
use Prim.Native.Nat.{ℕ, ◌+◌, ◌*◌, ◌/◌, ◌%◌, ◌^◌, ◌<◌}
use mathlib.Core.Path.{◌≡◌, refl, sym, ap, ◌∙◌}
use mathlib.Core.List.{List, [], ◌∷◌, ◌++◌}
use mathlib.Core.Bool.{true}
use mathlib.Core.Option.{some}
use native.Mathlib.Nat.{div-one, mod-eq_of_lt}
use native.Mathlib.Omega.{arith}
use lib.ListN.{length, get_or, drop}
use Rattle.format.specs.Words.{words, long_of, time_of, long_words, time_words}
use Rattle.format.specs.Book as paper
use Rattle.format.specs.Book.{class_of}
use Rattle.format.specs.Items as items
use Rattle.format.specs.Items.{words_of, fits, decode, token_of, whole}
use Rattle.format.specs.Fields.{total, cut, pack, Fit, widths}
use Rattle.format.proofs.book.BookLaws.{ranged}
use Rattle.format.proofs.book.FieldLaws.{cut_fit, cut_packed, pack_cut}
use Rattle.format.proofs.items.WrittenLaws.{content_fit, first_word_lem, read_content}
use Rattle.book.specs.declared.items.HitCount.{HitCount}
use Rattle.book.specs.declared.items.Sample.{Sample}
use Rattle.book.specs.declared.items.Bin.{Bin}
use Rattle.book.specs.declared.items.LastCell.{LastCell}
use Rattle.book.specs.declared.items.TimeBin.{TimeBin}
use Rattle.book.specs.declared.items.Text.{Text}
use Rattle.book.specs.declared.items.StartEvent.{StartEvent}
use Rattle.book.specs.declared.items.ContinueEvent.{ContinueEvent}
use Rattle.book.specs.declared.items.EndEvent.{EndEvent}
use Rattle.book.specs.Fields.{Channel, Histogram, channel_of, histogram_of, hits_of, sample_of, bin_of, cell_of, time_bin_of, text_of, type_of, header_bits_cut, channel_word, histogram_word, hits_word, sample_word, bin_word, cell_word, time_bin_word, text_word, start_word, channel_item, histogram_item, hits_item, sample_item, bin_item, cell_item, time_item, start_item, continue_item, end_item}

-- values of A lie in words as fields of the widths ns below a head
pub record Laid (A : Type 0) (ns : List ℕ) (head : ℕ) : Type 0 where
  pub fields : A → List ℕ
  pub of_word : ℕ → A
  pub word : A → ℕ
  -- the fields are all there is to a value
  pub same : (x y : A) → fields x ≡ fields y → x ≡ y
  pub lists : (w : ℕ) → fields (of_word w) ≡ cut ns w
  pub puts : (x : A) → Fit ns (fields x) → word x ≡ pack ns head (fields x)

module _ {A : Type 0} {ns : List ℕ} {head : ℕ} (l : Laid A ns head) where
  -- THE LAW, there
  pub there : (x : A) → Fit ns (l.fields x) → l.of_word (l.word x) ≡ x
  there x f = l.same _ x (l.lists (l.word x) ∙ ap (cut ns) (l.puts x f) ∙ cut_packed ns head (l.fields x) f)

  -- THE LAW, back
  pub back : (w : ℕ) → w / 2 ^ total ns ≡ head → l.word (l.of_word w) ≡ w
  back w h =
      l.puts (l.of_word w) (rw (l.lists w) (cut_fit ns w))
      ∙ ap (pack ns head) (l.lists w)
      ∙ ap (λ (h : ℕ). pack ns h (cut ns w)) (sym h)
      ∙ pack_cut ns w

-- the kinds of layout: one field, as wide as what the head leaves; chip 2, cell 9; card 5, chip 2 and 7 bits

module _ {A : Type 0} (n head : ℕ) (get : A → ℕ) (make : ℕ → A) (made : (x : A) → make (get x) ≡ x) (got : (v : ℕ) → get (make v) ≡ v) where
  abbrev pub one_field : Laid A (n ∷ []) head
  one_field = record {
    fields = λ (x : A). get x ∷ [];
    of_word = λ (w : ℕ). make (w % 2 ^ n);
    word = λ (x : A). head * 2 ^ n + get x % 2 ^ n;
    same = λ x y e. sym (made x) ∙ ap (λ (l : List ℕ). make (get_or l 0 0)) e ∙ made y;
    lists = λ w. ap (λ (v : ℕ). v ∷ []) (got (w % 2 ^ n) ∙ ap (λ (v : ℕ). v % 2 ^ n) (sym (div-one w)));
    puts = λ x f. ap (λ (v : ℕ). head * 2 ^ n + v) (mod-eq_of_lt f.0);
  }

pub cell_puts : (a b : ℕ) → a < 4 → b < 512 → 0x1800 + (a % 4 * 512 + b % 512) ≡ pack (2 ∷ 9 ∷ []) 3 (a ∷ b ∷ [])
cell_puts a b p q = omega arith

pub three_puts : (head a b c : ℕ) → a < 32 → b < 4 → c < 128 → head * 16384 + header_bits_cut a b c ≡ pack (5 ∷ 2 ∷ 7 ∷ []) head (a ∷ b ∷ c ∷ [])
three_puts head a b c p q r = omega arith

module _ {A : Type 0} (head : ℕ) (card chip low : A → ℕ) (make : ℕ → ℕ → ℕ → A) (made : (x : A) → make (card x) (chip x) (low x) ≡ x)
    (got : (a b c : ℕ) → card (make a b c) ∷ chip (make a b c) ∷ low (make a b c) ∷ [] ≡ a ∷ b ∷ c ∷ []) where
  abbrev pub three_fields : Laid A (5 ∷ 2 ∷ 7 ∷ []) head
  three_fields = record {
    fields = λ (x : A). card x ∷ chip x ∷ low x ∷ [];
    of_word = λ (w : ℕ). make (w / 512 % 32) (w / 128 % 4) (w % 128);
    word = λ (x : A). head * 16384 + header_bits_cut (card x) (chip x) (low x);
    same = λ x y e. sym (made x) ∙ ap (λ (l : List ℕ). make (get_or l 0 0) (get_or l 1 0) (get_or l 2 0)) e ∙ made y;
    lists = λ w. got (w / 512 % 32) (w / 128 % 4) (w % 128) ∙ ap (λ (v : ℕ). (w / 512 % 32) ∷ (w / 128 % 4) ∷ (v % 128) ∷ []) (sym (div-one w));
    puts = λ x f. three_puts head (card x) (chip x) (low x) f.0 f.1.0 f.1.1.0;
  }

-- the structs

abbrev pub channel : Laid Channel (widths paper.channel) 0b11
channel = three_fields 0b11 (λ (x : Channel). x.card) (λ (x : Channel). x.chip) (λ (x : Channel). x.channel)
    (λ (a b c : ℕ). record { card = a; chip = b; channel = c }) (λ x. refl) (λ a b c. refl)

abbrev pub histogram : Laid Histogram (widths paper.histogram) 0b10
histogram = three_fields 0b10 (λ (x : Histogram). x.card) (λ (x : Histogram). x.chip) (λ (x : Histogram). x.channel)
    (λ (a b c : ℕ). record { card = a; chip = b; channel = c }) (λ x. refl) (λ a b c. refl)

abbrev pub hits : Laid HitCount (widths paper.hit_count) 0b01
hits = three_fields 0b01 (λ (x : HitCount). x.card) (λ (x : HitCount). x.chip) (λ (x : HitCount). x.count)
    (λ (a b c : ℕ). record { card = a; chip = b; count = c }) (λ x. refl) (λ a b c. refl)

abbrev pub sample : Laid Sample (widths paper.sample) 0b0011
sample = one_field 12 0b0011 (λ (x : Sample). x.value) (λ (v : ℕ). record { value = v }) (λ x. refl) (λ v. refl)

abbrev pub cell : Laid LastCell (widths paper.last_cell) 0b00011
cell = record {
  fields = λ (x : LastCell). x.chip ∷ x.cell ∷ [];
  of_word = cell_of;
  word = cell_word;
  same = λ x y e. ap (λ (l : List ℕ). record { chip = get_or l 0 0; cell = get_or l 1 0 }) e;
  lists = λ w. ap (λ (v : ℕ). (w / 512 % 4) ∷ (v % 512) ∷ []) (sym (div-one w));
  puts = λ x f. cell_puts x.chip x.cell f.0 f.1.0;
}

abbrev pub time_bin : Laid TimeBin (widths paper.time_bin) 0b0000111
time_bin = one_field 9 0b0000111 (λ (x : TimeBin). x.time) (λ (v : ℕ). record { time = v }) (λ x. refl) (λ v. refl)

abbrev pub text : Laid Text (widths paper.text) 0x01
text = one_field 8 0x01 (λ (x : Text). x.length) (λ (v : ℕ). record { length = v }) (λ x. refl) (λ v. refl)

-- of the items with words after the first, the number that the first holds
abbrev pub bin : Laid ℕ (widths paper.bin) 0b0010
bin = one_field 12 0b0010 (λ (x : ℕ). x) (λ (x : ℕ). x) (λ x. refl) (λ x. refl)

abbrev pub type : Laid ℕ (widths paper.start_event) 0x00F
type = one_field 4 0x00F (λ (x : ℕ). x) (λ (x : ℕ). x) (λ x. refl) (λ x. refl)

-- FIELDS THERE: what fits goes in and comes out again.

pub channel_there : (x : Channel) → fits (channel_item x) ≡ true → channel_of (channel_word x) ≡ x
channel_there x f = there channel x (content_fit (channel_item x) f)

pub histogram_there : (x : Histogram) → fits (histogram_item x) ≡ true → histogram_of (histogram_word x) ≡ x
histogram_there x f = there histogram x (content_fit (histogram_item x) f)

pub hits_there : (x : HitCount) → fits (hits_item x) ≡ true → hits_of (hits_word x) ≡ x
hits_there x f = there hits x (content_fit (hits_item x) f)

pub sample_there : (x : Sample) → fits (sample_item x) ≡ true → sample_of (sample_word x) ≡ x
sample_there x f = there sample x (content_fit (sample_item x) f)

pub bin_there : (x : Bin) → fits (bin_item x) ≡ true → bin_of (bin_word x) ≡ x.bin
bin_there x f = there bin x.bin (content_fit (bin_item x) f)

pub cell_there : (x : LastCell) → fits (cell_item x) ≡ true → cell_of (cell_word x) ≡ x
cell_there x f = there cell x (content_fit (cell_item x) f)

pub time_there : (x : TimeBin) → fits (time_item x) ≡ true → time_bin_of (time_bin_word x) ≡ x
time_there x f = there time_bin x (content_fit (time_item x) f)

-- a text's n is a byte: 255 at most, the final zero counted
pub text_there : (x : Text) → x.length < 256 → text_of (text_word x) ≡ x
text_there x f = there text x (f, tt)

pub start_there : (x : StartEvent) → fits (start_item x) ≡ true → type_of (start_word x) ≡ x.kind
start_there x f = there type x.kind (content_fit (start_item x) f)

-- WORDS BACK: a word of the class is the word of its fields.

pub channel_back : (w : ℕ) → class_of w ≡ paper.channel → channel_word (channel_of w) ≡ w
channel_back w k = let (p, q) = ranged w paper.channel k refl in back channel w (omega arith)

pub histogram_back : (w : ℕ) → class_of w ≡ paper.histogram → histogram_word (histogram_of w) ≡ w
histogram_back w k = let (p, q) = ranged w paper.histogram k refl in back histogram w (omega arith)

pub hits_back : (w : ℕ) → class_of w ≡ paper.hit_count → hits_word (hits_of w) ≡ w
hits_back w k = let (p, q) = ranged w paper.hit_count k refl in back hits w (omega arith)

pub sample_back : (w : ℕ) → class_of w ≡ paper.sample → sample_word (sample_of w) ≡ w
sample_back w k = let (p, q) = ranged w paper.sample k refl in back sample w (omega arith)

pub bin_back : (w count : ℕ) → class_of w ≡ paper.bin → bin_word (record { bin = bin_of w; count = count }) ≡ w
bin_back w count k = let (p, q) = ranged w paper.bin k refl in back bin w (omega arith)

pub cell_back : (w : ℕ) → class_of w ≡ paper.last_cell → cell_word (cell_of w) ≡ w
cell_back w k = let (p, q) = ranged w paper.last_cell k refl in back cell w (omega arith)

pub time_back : (w : ℕ) → class_of w ≡ paper.time_bin → time_bin_word (time_bin_of w) ≡ w
time_back w k = let (p, q) = ranged w paper.time_bin k refl in back time_bin w (omega arith)

pub text_back : (w : ℕ) → class_of w ≡ paper.text → text_word (text_of w) ≡ w
text_back w k = let (p, q) = ranged w paper.text k refl in back text w (omega arith)

pub start_back : (w timestamp number : ℕ) → class_of w ≡ paper.start_event → start_word (record { kind = type_of w; timestamp = timestamp; number = number }) ≡ w
start_back w timestamp number k = let (p, q) = ranged w paper.start_event k refl in back type w (omega arith)

-- WRITTEN: the word of an item that fits is the first of the item's words.

module _ {A : Type 0} {ns : List ℕ} {head : ℕ} (l : Laid A ns head) where
  written : (x : A) (rest : List ℕ) → Fit ns (l.fields x) → pack ns head (l.fields x) ∷ rest ≡ l.word x ∷ rest
  written x rest f = ap (λ (w : ℕ). w ∷ rest) (sym (l.puts x f))

pub channel_words : (x : Channel) → fits (channel_item x) ≡ true → words_of (channel_item x) ≡ channel_word x ∷ []
channel_words x f = first_word_lem (channel_item x) ∙ written channel x [] (content_fit (channel_item x) f)

pub histogram_words : (x : Histogram) → fits (histogram_item x) ≡ true → words_of (histogram_item x) ≡ histogram_word x ∷ []
histogram_words x f = first_word_lem (histogram_item x) ∙ written histogram x [] (content_fit (histogram_item x) f)

pub hits_words : (x : HitCount) → fits (hits_item x) ≡ true → words_of (hits_item x) ≡ hits_word x ∷ []
hits_words x f = first_word_lem (hits_item x) ∙ written hits x [] (content_fit (hits_item x) f)

pub sample_words : (x : Sample) → fits (sample_item x) ≡ true → words_of (sample_item x) ≡ sample_word x ∷ []
sample_words x f = first_word_lem (sample_item x) ∙ written sample x [] (content_fit (sample_item x) f)

pub bin_words : (x : Bin) → fits (bin_item x) ≡ true → words_of (bin_item x) ≡ bin_word x ∷ long_words x.count
bin_words x f = first_word_lem (bin_item x) ∙ written bin x.bin (long_words x.count) (content_fit (bin_item x) f)

pub cell_words : (x : LastCell) → fits (cell_item x) ≡ true → words_of (cell_item x) ≡ cell_word x ∷ []
cell_words x f = first_word_lem (cell_item x) ∙ written cell x [] (content_fit (cell_item x) f)

pub time_words_lem : (x : TimeBin) → fits (time_item x) ≡ true → words_of (time_item x) ≡ time_bin_word x ∷ []
time_words_lem x f = first_word_lem (time_item x) ∙ written time_bin x [] (content_fit (time_item x) f)

pub text_words : (x : Text) (s : List ℕ) → fits (items.Text s) ≡ true → x.length ≡ length s + 1
    → words_of (items.Text s) ≡ text_word x ∷ words (s ++ (0 ∷ []))
text_words x s f e =
    first_word_lem (items.Text s) ∙ written text (record { length = length s + 1 }) (words (s ++ (0 ∷ []))) (content_fit (items.Text s) f)
    ∙ ap (λ (n : ℕ). (0x0100 + n % 256) ∷ words (s ++ (0 ∷ []))) (sym e)

pub start_words : (x : StartEvent) → fits (start_item x) ≡ true
    → words_of (start_item x) ≡ start_word x ∷ (time_words x.timestamp ++ long_words x.number)
start_words x f = first_word_lem (start_item x) ∙ written type x.kind (time_words x.timestamp ++ long_words x.number) (content_fit (start_item x) f)

pub continue_words : (x : ContinueEvent) → words_of (continue_item x) ≡ 0x0A00 ∷ long_words x.number
continue_words x = first_word_lem (continue_item x)

pub end_words : (x : EndEvent) → words_of (end_item x) ≡ 0x00E0 ∷ long_words x.size
end_words x = first_word_lem (end_item x)

-- READ: what `decode` gives of a word of the class is the item of the code's fields.

pub channel_read : (w : ℕ) (ws : List ℕ) → decode paper.channel w ws ≡ some (channel_item (channel_of w))
unfolding decode
channel_read w ws = refl

pub histogram_read : (w : ℕ) (ws : List ℕ) → decode paper.histogram w ws ≡ some (histogram_item (histogram_of w))
unfolding decode
histogram_read w ws = refl

pub hits_read : (w : ℕ) (ws : List ℕ) → decode paper.hit_count w ws ≡ some (hits_item (hits_of w))
unfolding decode
hits_read w ws = refl

pub sample_read : (w : ℕ) (ws : List ℕ) → decode paper.sample w ws ≡ some (sample_item (sample_of w))
unfolding decode
sample_read w ws = refl

pub bin_read : (w : ℕ) (ws : List ℕ) → decode paper.bin w ws ≡ some (bin_item (record { bin = bin_of w; count = long_of ws }))
unfolding decode
bin_read w ws = refl

pub cell_read : (w : ℕ) (ws : List ℕ) → decode paper.last_cell w ws ≡ some (cell_item (cell_of w))
unfolding decode
cell_read w ws = refl

pub time_read : (w : ℕ) (ws : List ℕ) → decode paper.time_bin w ws ≡ some (time_item (time_bin_of w))
unfolding decode
time_read w ws = refl

pub start_read : (w : ℕ) (ws : List ℕ)
    → decode paper.start_event w ws ≡ some (start_item (record { kind = type_of w; timestamp = time_of ws; number = long_of (drop 3 ws) }))
unfolding decode
start_read w ws = refl

pub continue_read : (w : ℕ) (ws : List ℕ) → w % 512 ≡ 0 → decode paper.continue_event w ws ≡ some (continue_item (record { number = long_of ws }))
unfolding decode
continue_read w ws e = rw e

pub end_read : (w : ℕ) (ws : List ℕ) → w % 16 ≡ 0 → decode paper.end_event w ws ≡ some (end_item (record { size = long_of ws }))
unfolding decode
end_read w ws e = rw e

-- of a text that is read at a word, `of_word` gives the n: its bytes and the final zero
pub text_read : (w : ℕ) (ws s : List ℕ) → ((i : ℕ) → get_or ws i 0 < 65536) → token_of w ws ≡ whole (items.Text s) → (text_of w).length ≡ length s + 1
text_read w ws s b e = let n = ap (λ (l : List ℕ). get_or l 0 0) (read_content w ws (items.Text s) b e) in omega (arith, n)
