-- What each public function promises, under a name: the functions' contracts and the theorems of proofs/Once.antt are over these same names.
-- Assumes nothing.
use Rattle.std.specs.Prelude.{ℕ, ◌*◌, ◌%◌, ◌≡◌, Bool, ◌&&◌, List, eqb, length, Option}
use Rattle.format.specs.Words.{non_zero}
use Rattle.format.specs.Book.{text_words}
use Rattle.format.specs.Items.{closed}
use Rattle.format.specs.Cursor.{standing_at, shown_by}
use Rattle.cursor.specs.declared.standing.FoundItem.{FoundItem}
use Rattle.cursor.specs.Views.{view_standing}

-- the item that stands at word `at` of any bytes, and the index of the next
abbrev pub StandingAnswered : List ℕ → ℕ → Option FoundItem → Type 0
StandingAnswered s at r = view_standing r ≡ shown_by (standing_at s at)

abbrev pub ZeroFree : List ℕ → Bool → Type 0
ZeroFree s r = r ≡ non_zero s

-- the bytes are those of the text whose word is w: as many as its words hold, and closed
abbrev pub TextClosed : List ℕ → ℕ → Bool → Type 0
TextClosed s w r = r ≡ (eqb (length s) (2 * text_words w) && closed (w % 256) s)
