-- The classes with the shortest prefixes, by the range of a word.
-- Assumes nothing.
use Prim.Native.Nat.{ℕ, ◌<◌, ◌≤◌}
use mathlib.Core.Path.{◌≡◌}
use native.Mathlib.Omega.{arith}
use lib.Dec.{lit<}
use Rattle.format.specs.Book.{channel, histogram, hit_count, sample, bin, class_of}
use Rattle.format.proofs.book.BookLaws.{entry}

pub bin_is : (w : ℕ) → 0x2000 ≤ w → w < 0x3000 → bin ≡ class_of w
bin_is w a b = entry w 4 (lit< tt) (omega arith)

pub sample_is : (w : ℕ) → 0x3000 ≤ w → w < 0x4000 → sample ≡ class_of w
sample_is w a b = entry w 3 (lit< tt) (omega arith)

pub hits_is : (w : ℕ) → 0x4000 ≤ w → w < 0x8000 → hit_count ≡ class_of w
hits_is w a b = entry w 2 (lit< tt) (omega arith)

pub histogram_is : (w : ℕ) → 0x8000 ≤ w → w < 0xC000 → histogram ≡ class_of w
histogram_is w a b = entry w 1 (lit< tt) (omega arith)

pub channel_is : (w : ℕ) → 0xC000 ≤ w → w < 65536 → channel ≡ class_of w
channel_is w a b = entry w 0 (lit< tt) (omega arith)
