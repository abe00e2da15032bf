-- The versions of the record, and which of them a buffer is of: header word 0 says it.
-- Assumes nothing.
use Rattle.std.specs.Prelude.{ℕ, ◌≡◌, refl, List, eqb}
use Rattle.format.specs.Words.{pick, word_at}
use Rattle.ledger.specs.Formats.{Format}
use Rattle.ledger.specs.VersionOne.{version_one}
use Rattle.ledger.specs.VersionTwo.{version_two}

pub data Version : Type 0 where
  v1 : Version
  v2 : Version

abbrev pub format_of : Version → Format
format_of v1 = version_one
format_of v2 = version_two

-- a number other than 1 is taken for the version of today, whose header test then refuses any but 2
abbrev pub version_for : ℕ → Version
version_for n = pick (eqb n 1) v1 v2

unfoldable pub format_for : ℕ → Format
format_for n = format_of (version_for n)

-- the version and the format that a buffer is judged by
abbrev pub version_in : List ℕ → Version
version_in b = version_for (word_at b 0)

abbrev pub format_in : List ℕ → Format
format_in b = format_for (word_at b 0)

pub format_for_lem : (n : ℕ) → format_for n ≡ format_of (version_for n)
unfolding format_for
format_for_lem n = refl
