-- `cursor::standing::item_at` meets its contract: a word between the first three and the last, by its class.
-- Assumes nothing.
use mathlib.Core.Path.{refl, ap, sym, ◌∙◌}
use native.Mathlib.Omega.{arith}
use lib.Dec.{lit<}
use Rattle.format.specs.Cursor.{shown_by}
use Rattle.format.proofs.book.BookLaws.{in_range}
use Rattle.format.proofs.reader.CursorLaws.{standing_early, standing_late}
use Rattle.cursor.proofs.Shows.{sample_shown}
use Rattle.cursor.proofs.standing.item_at.Goals as goal

pub returns-then-at-lt-FIRST : goal.returns-then-at-lt-FIRST
returns-then-at-lt-FIRST c = sym (ap shown_by (standing_early _ _ (omega arith)))

pub returns-then-s-at : goal.returns-then-s-at
returns-then-s-at c = sym (ap shown_by (standing_late _ _ (omega arith)))

pub returns-then-last-at : goal.returns-then-last-at
returns-then-last-at c = sym (ap shown_by (standing_late _ _ (omega arith)))

pub returns-then-w-ge-SAMPLE : goal.returns-then-w-ge-SAMPLE
returns-then-w-ge-SAMPLE c =
    c.found.ensures ∙ sample_shown _ _ _ _ (omega arith) (omega arith) refl c.word-w.ensures _ (sym (in_range _ 3 (lit< tt) (omega arith, omega arith))) c.of_word.ensures

pub bin-requires : goal.bin-requires
bin-requires c = sym (in_range _ 4 (lit< tt) (omega arith, omega arith))
