-- Document 02, request 3: version 2. "An entry grows to 24 bytes: after the reason come a time (6 bytes) and a desk number (2 bytes, 0 for now)."
-- Any later version whose entries have those two fields is `stamped` too, with tests of its own.
-- Assumes nothing.
use Rattle.std.specs.Prelude.{ℕ, ◌/◌, ◌%◌, Bool, false, ◌&&◌, List, [], ◌∷◌, length, get_or, leb, ltb, eqb}
use Rattle.format.specs.Words.{bytes, word_at, time_at}
use Rattle.format.specs.Answers.{accepted, Done}
use Rattle.format.specs.Spots.{Spot}
use Rattle.ledger.specs.Formats.{Entry, Format}

-- the content: a time and a desk
abbrev pub time_in : List ℕ → ℕ
time_in x = get_or x 0 0

abbrev pub desk_in : List ℕ → ℕ
desk_in x = get_or x 1 0

-- as words, low word first
abbrev pub stamp_words : List ℕ → List ℕ
stamp_words x = (time_in x % 65536) ∷ (time_in x / 65536 % 65536) ∷ (time_in x / 4294967296 % 65536) ∷ desk_in x ∷ []

-- both fit their fields
abbrev pub stamp_fits : List ℕ → Bool
stamp_fits [] = false
stamp_fits (t ∷ []) = false
stamp_fits (t ∷ d ∷ []) = ltb t 281474976710656 && ltb d 65536
stamp_fits (t ∷ d ∷ y ∷ x) = false

-- entries with a time and a desk, in a version that tests the desk against the item and before it, and says how many entries may stand
abbrev pub stamped : ℕ → (ℕ → Spot → Bool) → (ℕ → Done) → (List Entry → Bool) → Format
stamped version suits asked limit = record {
  version = version;
  extra = 8;
  written = λ x. bytes (stamp_words x);
  read = λ s. time_at s 0 ∷ word_at s 3 ∷ [];
  good = stamp_fits;
  suits = λ x s. suits (desk_in x) s;
  asked = λ x. asked (desk_in x);
  limit = limit;
}

-- "0 for now", whatever the item
abbrev pub no_desk : ℕ → Spot → Bool
no_desk desk s = eqb desk 0

-- at most 512 entries, whatever their times: "a clock may go back"
abbrev pub few_entries : List Entry → Bool
few_entries es = leb (length es) 512

unfoldable pub version_two : Format
version_two = stamped 2 no_desk (λ desk. accepted tt) few_entries
