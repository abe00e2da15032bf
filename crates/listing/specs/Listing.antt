-- What the program `list` prints of a buffer (document 01, "Figures to agree with"; document 02, request 3: "Listing lines of version 2 end in `at`
-- and the time"). A record is listed by the version that its first word names.
-- Assumes nothing.
use Rattle.std.specs.Prelude.{ℕ, zero, suc, ◌≤◌, ◌≡◌, List, [], ◌∷◌, ◌++◌, length, eqb, leb}
use Rattle.std.proofs.lemmas.List.Edits.{sets}
use Rattle.format.specs.Words.{pick, word_at}
use Rattle.format.specs.Answers.{Outcome, accepted, refused, and_then, need, leaves}
use Rattle.format.specs.Rules.{Kind, data_kind, monitor_kind, command_kind}
use Rattle.format.specs.Frames.{Frame, verdict}
use Rattle.ledger.specs.Formats.{Entry}
use Rattle.ledger.specs.Records.{length_in, count_in, frame_in, numbered, record_verdict}
use Rattle.ledger.specs.Versions.{format_in}
use Rattle.ledger.specs.PlaneFrames.{plane_frames}
use Rattle.listing.specs.Ascii.{ascii}
use Rattle.listing.specs.Text.{decimal, hex}

-- D, M or C
abbrev pub letter : Kind → List ℕ
letter data_kind = ascii "D"
letter monitor_kind = ascii "M"
letter command_kind = ascii "C"

-- "frame D card 5 seq 0100 bytes 34 items 6"
unfoldable pub frame_line : Kind → ℕ → ℕ → ℕ → ℕ → List ℕ
frame_line kind card sequence size items =
    ascii "frame " ++ letter kind ++ (ascii " card " ++ decimal card) ++ ascii " seq " ++ hex sequence ++ (ascii " bytes " ++ decimal size) ++ (ascii " items " ++ decimal items) ++ ascii "\n"

abbrev pub kind_text : ℕ → List ℕ
kind_text kind = pick (eqb kind 1) (ascii " sample ") (ascii " bin ")

-- "edit 1 word 11 sample 250 -> 260"
unfoldable pub change_text : ℕ → ℕ → ℕ → ℕ → ℕ → List ℕ
change_text j word kind old new = (ascii "edit " ++ decimal j) ++ (ascii " word " ++ decimal word) ++ (kind_text kind ++ decimal old) ++ (ascii " -> " ++ decimal new)

-- " at 1773403200": the time, the first that an entry keeps after its reason; an entry of version 1 keeps nothing there
unfoldable pub time_text : List ℕ → List ℕ
time_text [] = []
time_text (time ∷ x) = ascii " at " ++ decimal time

-- " by 9 reason 2 at 1773403200", and the line's end
unfoldable pub signer_text : ℕ → ℕ → List ℕ → List ℕ
signer_text operator reason extra = (ascii " by " ++ decimal operator) ++ (ascii " reason " ++ decimal reason) ++ time_text extra ++ ascii "\n"

-- "edit 1 word 11 sample 250 -> 260 by 9 reason 2", and in version 2 " at 1773403200"
unfoldable pub entry_line : ℕ → Entry → List ℕ
entry_line j e = change_text j e.word e.kind e.old e.new ++ signer_text e.operator e.reason e.extra

-- "end 1"
unfoldable pub end_line : ℕ → List ℕ
end_line count = (ascii "end " ++ decimal count) ++ ascii "\n"

-- "refused 21 at 1"
unfoldable pub refused_line : ℕ → ℕ → List ℕ
refused_line number place = (ascii "refused " ++ decimal number) ++ (ascii " at " ++ decimal place) ++ ascii "\n"

-- the lines of the first n entries of a record, from the oldest
unfoldable pub entry_lines : List ℕ → ℕ → List ℕ
entry_lines b zero = []
entry_lines b (suc n) = entry_lines b n ++ entry_line (suc n) (numbered (format_in b) b (suc n))

-- the frame of an accepted record
unfoldable pub frame_of : List ℕ → Outcome Frame
frame_of b = and_then (record_verdict plane_frames (format_in b) b) (λ u. verdict (frame_in b))

-- the frame's line, one line an entry, the entry count; or a refusal alone
abbrev pub listing_of : Outcome Frame → List ℕ → List ℕ
listing_of (accepted f) b =
    frame_line f.kind f.card f.sequence (length_in b) (length f.items) ++ entry_lines b (count_in b) ++ end_line (count_in b)
listing_of (refused number place) b = refused_line number place

unfoldable pub listing : List ℕ → List ℕ
listing b = listing_of (frame_of b) b

-- ---- the listing written to the start of a lent buffer: its length, or 12 where it does not fit
unfoldable pub listing_answer : List ℕ → List ℕ → Outcome ℕ
listing_answer b found = and_then (need (leb (length (listing b)) (length found)) 12 0) (λ u. accepted (length (listing b)))

unfoldable pub listing_exit : List ℕ → List ℕ → List ℕ
listing_exit b found = leaves (listing_answer b found) found (sets found 0 (listing b))

-- ---- what a listing speaks of, alike in two accepted records b and c with the frames f and g: kind, card, sequence word, length and number of items
-- of the frame, the entries as a whole, times included, and the version where there are entries: it is their lines that tell it
pub record SameRecord (b c : List ℕ) (f g : Frame) : Type 0 where
  pub kind : f.kind ≡ g.kind
  pub card : f.card ≡ g.card
  pub sequence : f.sequence ≡ g.sequence
  pub size : length_in b ≡ length_in c
  pub items : length f.items ≡ length g.items
  pub count : count_in b ≡ count_in c
  pub entries : (j : ℕ) → 1 ≤ j → j ≤ count_in b → numbered (format_in b) b j ≡ numbered (format_in c) c j
  pub version : 1 ≤ count_in b → word_at b 0 ≡ word_at c 0
