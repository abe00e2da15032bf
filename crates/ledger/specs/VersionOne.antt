-- Document 01's format: version 1, entries of 16 bytes with nothing after the reason, at most 512 of them.
-- Assumes nothing.
use Rattle.std.specs.Prelude.{ℕ, Bool, true, false, List, [], ◌∷◌, length, leb}
use Rattle.format.specs.Answers.{accepted}
use Rattle.ledger.specs.Formats.{Format}

-- no content
abbrev pub no_extra : List ℕ → Bool
no_extra [] = true
no_extra (x ∷ xs) = false

unfoldable pub version_one : Format
version_one = record {
  version = 1;
  extra = 0;
  written = λ x. [];
  read = λ s. [];
  good = no_extra;
  suits = λ x s. true;
  asked = λ x. accepted tt;
  limit = λ es. leb (length es) 512;
}
