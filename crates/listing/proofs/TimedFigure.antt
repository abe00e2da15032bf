-- The figure of version 2's listing, in steps: `decimal` of a literal computes in as many turns as the number counts, so that the time's digits come
-- from a law.
-- Assumes nothing.
use Prim.Native.Nat.{ℕ}
use mathlib.Core.Path.{◌≡◌, refl, ◌∙◌}
use mathlib.Core.List.{[], ◌∷◌, ◌++◌}
use native.Mathlib.Omega.{arith}
use Rattle.format.specs.Words.{words, bytes, non_zero, all_zero}
use Rattle.format.specs.Answers.{first_of}
use Rattle.format.specs.Prefix.{find}
use Rattle.format.specs.Book.{class_of}
use Rattle.format.specs.Items.{words_of, decode, token_of, tokens}
use Rattle.format.specs.Rules.{data_kind, since, count, total, gather, above, check}
use Rattle.format.specs.Frames.{earlier_then, head_fault, front, walk, judged, verdict}
use Rattle.format.specs.Spots.{spot_in, spot, put, legal_value}
use Rattle.ledger.specs.Tests.{all}
use Rattle.ledger.specs.Formats.{Entry}
use Rattle.ledger.specs.Records.{header, length_in, count_in, entry_bytes, entry_of, numbered, entries_to, header_right, signed, fits_item, fits, history_verdict, record_verdict}
use Rattle.ledger.specs.Calls.{new_value, undone, open_answer, open_exit, edit_tests, edit_answer, edit_written, edit_exit}
use Rattle.ledger.specs.Histories.{edit_all}
use Rattle.ledger.specs.VersionOne.{version_one}
use Rattle.ledger.specs.VersionTwo.{version_two}
use Rattle.ledger.specs.Versions.{v2, format_for}
use Rattle.ledger.specs.PlaneFrames.{plane_frames}
use Rattle.listing.specs.Ascii.{ascii}
use Rattle.listing.specs.Figures.{edited}
use Rattle.listing.specs.Text.{decimal_in, decimal, hex}
use Rattle.listing.specs.Listing.{frame_line, change_text, time_text, signer_text, entry_line, end_line, entry_lines, frame_of, listing}
use Rattle.listing.proofs.Decimals.{decimal_small, decimal_large}

entry_of_lem : ℕ → Entry
entry_of_lem time = record { word = 11; kind = 1; old = 250; new = 260; operator = 9; reason = 2; extra = time ∷ 0 ∷ [] }

lines : listing (edited v2) ≡ frame_line data_kind 5 0x0100 34 6 ++ entry_line 1 (entry_of_lem 1773403200) ++ end_line 1
unfolding entry_of_lem bytes words non_zero all_zero first_of find class_of words_of decode token_of tokens since count total gather above check earlier_then head_fault front walk judged verdict spot_in spot put legal_value all header length_in count_in entry_bytes entry_of numbered entries_to header_right signed fits_item fits history_verdict record_verdict new_value undone open_answer open_exit edit_tests edit_answer edit_written edit_exit edit_all version_one version_two format_for plane_frames entry_lines frame_of listing
lines = refl

timed_line : (time : ℕ) → entry_line 1 (entry_of_lem time) ≡ ascii "edit 1 word 11 sample 250 -> 260 by 9 reason 2 at " ++ decimal time ++ ascii "\n"
unfolding entry_line change_text time_text signer_text decimal decimal_in entry_of_lem
timed_line time = refl

other_lines : (frame_line data_kind 5 0x0100 34 6 ≡ ascii "frame D card 5 seq 0100 bytes 34 items 6\n") × (end_line 1 ≡ ascii "end 1\n")
unfolding frame_line end_line hex decimal decimal_in
other_lines = (refl, refl)

time_digits : decimal 1773403200 ≡ ascii "1773403200"
time_digits = rw (decimal_large 1773403200 (omega arith), decimal_large 177340320 (omega arith), decimal_large 17734032 (omega arith), decimal_large 1773403 (omega arith), decimal_large 177340 (omega arith), decimal_large 17734 (omega arith), decimal_large 1773 (omega arith), decimal_large 177 (omega arith), decimal_large 17 (omega arith), decimal_small 1 (omega arith))

pub timed_listing : listing (edited v2) ≡ ascii "frame D card 5 seq 0100 bytes 34 items 6\nedit 1 word 11 sample 250 -> 260 by 9 reason 2 at 1773403200\nend 1\n"
timed_listing = lines ∙ rw (timed_line 1773403200, other_lines.0, other_lines.1, time_digits)
