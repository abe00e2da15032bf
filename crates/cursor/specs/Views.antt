-- What the item that stands at a word says in document 01.
-- Assumes nothing.
use Rattle.std.specs.Prelude as found
use Rattle.std.proofs.Math.Option.{Option}
use Rattle.format.specs.Questions.{Shown}
use Rattle.book.specs.Views.{view_item, view_option}
use Rattle.cursor.specs.declared.standing.FoundItem.{FoundItem}

abbrev pub view_found_item : FoundItem → Shown
view_found_item x = record { item = view_item x.item; next = x.next }

abbrev pub view_standing : found.Option FoundItem → Option Shown
view_standing = view_option view_found_item
