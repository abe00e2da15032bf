-- What the general promise of a header says at the two prefixes: the word, the fields and the value rules of a Channel and of a Histogram.
-- Assumes nothing.
use Prim.Native.Nat.{ℕ, ◌<◌}
use mathlib.Core.Path.{◌≡◌, refl, ◌∙◌}
use mathlib.Core.Bool.{Bool}
use native.Mathlib.Omega.{arith}
use lib.Bits.{bit_or}
use Rattle.book.specs.Fields.{Channel, Histogram, header_bits_cut, channel_word, histogram_word}
use Rattle.book.specs.Promises.{HeaderRead, HeaderWord, HeaderValid, ChannelRead, ChannelWord, ChannelValid, HistogramRead, HistogramWord, HistogramValid}
use Rattle.book.proofs.Bits.{head}

below : (a b c : ℕ) → header_bits_cut a b c < 16384
below a b c = omega arith

pub channel_put : (x : Channel) → bit_or (header_bits_cut x.card x.chip x.channel) 0xC000 ≡ channel_word x
channel_put x = head 14 _ 0xC000 refl (below x.card x.chip x.channel)

pub histogram_put : (x : Histogram) → bit_or (header_bits_cut x.card x.chip x.channel) 0x8000 ≡ histogram_word x
histogram_put x = head 14 _ 0x8000 refl (below x.card x.chip x.channel)

-- promise by promise

pub channel_reads : (w : ℕ) (r : Channel) → HeaderRead 0xC000 w r → ChannelRead w r
channel_reads w r e = e

pub channel_words : (x : Channel) (r : ℕ) → HeaderWord 0xC000 x r → ChannelWord x r
channel_words x r e = e ∙ channel_put x

pub channel_valids : (x : Channel) (card : ℕ) (r : Bool) → HeaderValid 0xC000 x card r → ChannelValid x card r
channel_valids x card r e = e.0

pub histogram_reads : (w : ℕ) (r : Histogram) → HeaderRead 0x8000 w r → HistogramRead w r
histogram_reads w r e = e

pub histogram_words : (x : Histogram) (r : ℕ) → HeaderWord 0x8000 x r → HistogramWord x r
histogram_words x r e = e ∙ histogram_put x

pub histogram_valids : (x : Histogram) (card : ℕ) (r : Bool) → HeaderValid 0x8000 x card r → HistogramValid x card r
histogram_valids x card r e = e.1
