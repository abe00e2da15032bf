-- T39: no second result, function by function. Each theorem is over the promise that the function's contract names (specs/Promises.antt), so that
-- a contract made weaker is refused here.
-- Assumes nothing.
use Prim.Native.Nat.{ℕ, ◌*◌, ◌%◌}
use mathlib.Core.Path.{◌≡◌}
use mathlib.Core.Bool.{Bool, ◌&&◌}
use mathlib.Core.List.{List}
use lib.Dec.{eqb}
use lib.ListN.{length}
use Rattle.std.specs.Prelude.{Option}
use Rattle.format.specs.Words.{non_zero}
use Rattle.format.specs.Book.{text_words}
use Rattle.format.specs.Items.{closed}
use Rattle.format.specs.Cursor.{standing_at, shown_by}
use Rattle.book.proofs.Unique.{one, equal_once}
use Rattle.cursor.specs.declared.standing.FoundItem.{FoundItem}
use Rattle.cursor.specs.Views.{view_standing}
use Rattle.cursor.specs.Promises.{StandingAnswered, ZeroFree, TextClosed}
use Rattle.cursor.proofs.Unique.{same_standing}

pub item_at_once : (s : List ℕ) (at : ℕ) (r q : Option FoundItem) → StandingAnswered s at r → StandingAnswered s at q → r ≡ q
item_at_once s at = one view_standing same_standing (shown_by (standing_at s at))

pub no_zero_once : (s : List ℕ) (r q : Bool) → ZeroFree s r → ZeroFree s q → r ≡ q
no_zero_once s = equal_once (non_zero s)

pub is_closed_once : (s : List ℕ) (w : ℕ) (r q : Bool) → TextClosed s w r → TextClosed s w q → r ≡ q
is_closed_once s w = equal_once (eqb (length s) (2 * text_words w) && closed (w % 256) s)
