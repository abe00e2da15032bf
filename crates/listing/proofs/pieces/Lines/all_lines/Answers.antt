-- `listing::pieces::Lines::all_lines` meets its contract.
-- Assumes nothing.
use mathlib.Core.Path.{ap, sym, ◌∙◌}
use native.Mathlib.Omega.{arith}
use Rattle.records.specs.Views.{view_record}
use Rattle.listing.proofs.Putting.{wider}
use Rattle.listing.proofs.Listings.{told_known, refused_text, retold}
use Rattle.listing.proofs.pieces.Lines.all_lines.Goals as goal

pub record_lines-requires : goal.record_lines-requires
record_lines-requires c =
    (told_known _ _ (sym (ap view_record c.in-Ok.is) ∙ c.«record».ensures), omega arith)

pub returns-in-Err : goal.returns-in-Err
returns-in-Err c =
    wider 92520 (omega arith) (retold (refused_text _ _ _ (sym (ap view_record c.in-Err.is) ∙ c.«record».ensures)) c.refused_line.ensures)
