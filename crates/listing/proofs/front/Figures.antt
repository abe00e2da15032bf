-- What the documents say that `list` prints, by computation: case 10 after its edit, in version 1 as ever and in version 2 with the time; and of
-- either version the same record before its edit and with its entry cut off, and an entry that does not fit; and an empty buffer.
-- Assumes nothing.
use mathlib.Core.Path.{◌≡◌, refl}
use mathlib.Core.List.{[], ◌∷◌, map}
use lib.ListN.{take}
use lib.Seq.{sets}
use Rattle.format.specs.Words.{words, bytes, non_zero, all_zero}
use Rattle.format.specs.Answers.{first_of}
use Rattle.format.specs.Prefix.{find}
use Rattle.format.specs.Book.{class_of}
use Rattle.format.specs.Items.{words_of, decode, token_of, tokens}
use Rattle.format.specs.Rules.{since, count, total, gather, above, check}
use Rattle.format.specs.Frames.{earlier_then, head_fault, front, walk, judged, verdict}
use Rattle.format.specs.Spots.{spot_in, spot, put, legal_value}
use Rattle.ledger.specs.Tests.{all}
use Rattle.ledger.specs.Records.{header, length_in, count_in, entry_bytes, entry_of, numbered, entries_to, header_right, signed, fits_item, fits, history_verdict, record_verdict}
use Rattle.ledger.specs.Calls.{new_value, undone, open_answer, open_exit, edit_tests, edit_answer, edit_written, edit_exit}
use Rattle.ledger.specs.Histories.{edit_all}
use Rattle.ledger.specs.VersionOne.{version_one}
use Rattle.ledger.specs.VersionTwo.{version_two}
use Rattle.ledger.specs.Versions.{v1, v2, format_for}
use Rattle.ledger.specs.PlaneFrames.{plane_frames}
use Rattle.ledger.specs.PlaneTable.{recorded}
use Rattle.listing.specs.Ascii.{ascii}
use Rattle.listing.specs.Figures.{edited}
use Rattle.listing.specs.Text.{decimal_in, decimal, hex}
use Rattle.listing.specs.Listing.{frame_line, change_text, time_text, signer_text, entry_line, end_line, refused_line, entry_lines, frame_of, listing}
use Rattle.listing.proofs.TimedFigure as law

pub figures
    : map listing (edited v1 ∷ recorded v1 [] ∷ take 65 (edited v1) ∷ sets (edited v1) 64 (6 ∷ []) ∷ recorded v2 [] ∷ take 73 (edited v2) ∷ sets (edited v2) 72 (1 ∷ []) ∷ [] ∷ [])
    ≡ ascii "frame D card 5 seq 0100 bytes 34 items 6\nedit 1 word 11 sample 250 -> 260 by 9 reason 2\nend 1\n"
    ∷ ascii "frame D card 5 seq 0100 bytes 34 items 6\nend 0\n"
    ∷ ascii "refused 20 at 0\n"
    ∷ ascii "refused 21 at 1\n"
    ∷ ascii "frame D card 5 seq 0100 bytes 34 items 6\nend 0\n"
    ∷ ascii "refused 20 at 0\n"
    ∷ ascii "refused 21 at 1\n"
    ∷ ascii "refused 20 at 0\n"
    ∷ []
unfolding bytes words non_zero all_zero first_of find class_of words_of decode token_of tokens since count total gather above check earlier_then head_fault front walk judged verdict spot_in spot put legal_value all header length_in count_in entry_bytes entry_of numbered entries_to header_right signed fits_item fits history_verdict record_verdict new_value undone open_answer open_exit edit_tests edit_answer edit_written edit_exit edit_all version_one version_two format_for plane_frames decimal_in decimal hex frame_line change_text time_text signer_text entry_line end_line refused_line entry_lines frame_of listing
figures = refl

-- version 2's twin of the first
pub figure_timed : listing (edited v2) ≡ ascii "frame D card 5 seq 0100 bytes 34 items 6\nedit 1 word 11 sample 250 -> 260 by 9 reason 2 at 1773403200\nend 1\n"
figure_timed = law.timed_listing
