-- `book::words::copy` meets its contract: what has no room is not stored.
-- Assumes nothing.
use mathlib.Core.Path.{sym, ◌∙◌}
use native.Mathlib.Omega.{arith}
use native.Mathlib.Nat.{min-le_left}
use lib.ListN.{length-take}
use lib.Seq.{length-take-le}
use Rattle.format.proofs.items.StoringLaws.{sets_room}
use Rattle.book.proofs.words.copy.Goals as goal

pub slice_bounds-copy_all-end : goal.slice_bounds-copy_all-end
slice_bounds-copy_all-end c = sym (length-take-le _ c.args.src.now (omega arith))

pub copy_all-requires-else-src-room : goal.copy_all-requires-else-src-room
copy_all-requires-else-src-room c = simp length-take (min-le_left _ _)

pub returns-else-src-room : goal.returns-else-src-room
returns-else-src-room c =
    c.copy_all-else-src-room.ensures ∙ sets_room c.args.dst.now c.args.src.now
