-- Frames in a row and what an assembler answers to them: each row of the table (specs/Figures.antt) is answered as it says. Computed.
-- Assumes nothing.
use mathlib.Core.Path.{◌≡◌, refl}
use mathlib.Core.List.{map}
use Rattle.follower.specs.Follow.{numbered, follow}
use Rattle.format.specs.Words.{words, bytes, non_zero, all_zero}
use Rattle.format.specs.Prefix.{find}
use Rattle.format.specs.Book.{class_of}
use Rattle.format.specs.Items.{words_of, decode, token_of, tokens}
use Rattle.format.specs.Rules.{since, count, total, gather, above, check}
use Rattle.format.specs.Frames.{earlier_then, all_words, head_fault, front, walk, judged, verdict}
use Rattle.format.specs.Steps.{above_all}
use Rattle.format.specs.Questions.{until}
use Rattle.runs.specs.Assembly.{from, open_after, take, take_all}
use Rattle.runs.specs.Figures.{Row, table}

pub figures : map (λ (r : Row). take_all r.from r.frames) table ≡ map (λ (r : Row). r.answer) table
unfolding bytes words non_zero all_zero find class_of words_of decode token_of tokens since count total gather above check earlier_then all_words head_fault front walk judged verdict until above_all numbered follow from open_after take take_all
figures = refl
