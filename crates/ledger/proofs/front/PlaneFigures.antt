-- T38, the record's part. Figures 10 and 11 of document 01, and their form in version 2, in one table over the written rules: what they answer to each
-- row's question is the answer beside it.
-- Assumes nothing.
use mathlib.Core.Path.{◌≡◌, refl}
use mathlib.Core.List.{map}
use Rattle.format.specs.Words.{words, bytes, non_zero, all_zero}
use Rattle.format.specs.Answers.{first_of}
use Rattle.format.specs.Prefix.{find}
use Rattle.format.specs.Book.{class_of}
use Rattle.format.specs.Items.{words_of, decode, token_of, tokens}
use Rattle.format.specs.Rules.{since, count, total, gather, above, check}
use Rattle.format.specs.Frames.{earlier_then, head_fault, front, walk, judged, verdict}
use Rattle.format.specs.Spots.{spot_in, spot, put, legal_value}
use Rattle.ledger.specs.Tests.{all}
use Rattle.ledger.specs.Records.{header, length_in, count_in, entry_bytes, entry_of, numbered, entries_to, header_right, signed, fits_item, fits, history_verdict, record_verdict}
use Rattle.ledger.specs.Calls.{new_value, undone, entry_answer, open_answer, open_exit, edit_tests, edit_answer, edit_written, edit_exit, restored, restore_answer, restore_exit}
use Rattle.ledger.specs.Histories.{edit_all}
use Rattle.ledger.specs.VersionOne.{version_one}
use Rattle.ledger.specs.VersionTwo.{version_two}
use Rattle.ledger.specs.Versions.{format_for}
use Rattle.ledger.specs.PlaneFrames.{plane_frames}
use Rattle.ledger.specs.PlaneTable.{Row, ask, table}

pub figures : map (λ (r : Row). ask r.asked) table ≡ map (λ (r : Row). r.answer) table
unfolding bytes words non_zero all_zero first_of find class_of words_of decode token_of tokens since count total gather above check earlier_then head_fault front walk judged verdict spot_in spot put legal_value all header length_in count_in entry_bytes entry_of numbered entries_to header_right signed fits_item fits history_verdict record_verdict new_value undone open_answer open_exit edit_tests edit_answer edit_written edit_exit restored restore_answer restore_exit edit_all version_one version_two format_for entry_answer plane_frames
figures = refl
