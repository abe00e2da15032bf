-- The numbers of a case's head, each of 8 bytes, low byte first.
-- Assumes nothing.
use Rattle.std.specs.Prelude.{List, ℕ, ◌≡◌, ◌+◌, ◌*◌}
use Rattle.book.specs.Promises.{LongRead}

-- the i-th number of some bytes is n: the book's numbers of 32 bits that stand there, the low one first
pub record NumberAt (s : List ℕ) (i n : ℕ) : Type 0 where
  pub low : ℕ
  pub high : ℕ
  pub low_there : LongRead s (4 * i) low
  pub high_there : LongRead s (4 * i + 2) high
  pub whole : n ≡ low + 4294967296 * high
