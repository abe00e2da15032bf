-- The figures 10 and 11 of document 01 and their form in version 2 (document 02, request 3) as one table: what is asked of case 3's frame and of its
-- record, and beside it the answer, the document's own or worked out by hand (docs/landings/03-when.md).
-- Assumes nothing.
use Rattle.std.specs.Prelude.{ℕ, List, [], ◌∷◌, take, drop, replicate}
use Rattle.std.proofs.Math.Option.{Option, none, some}
use Rattle.format.specs.Words.{bytes}
use Rattle.format.specs.Answers.{Outcome, accepted, refused, Done}
use Rattle.format.specs.Figures.{pulse}
use Rattle.format.specs.Spots.{Spot}
use Rattle.ledger.specs.Formats.{Entry, Correction}
use Rattle.ledger.specs.Calls.{entry_answer, edit_answer, restore_exit}
use Rattle.ledger.specs.Histories.{record_after}
use Rattle.ledger.specs.Versions.{Version, v1, v2, format_of, format_in}
use Rattle.ledger.specs.PlaneFrames.{plane_frames}

-- case 3
abbrev pub frame : List ℕ
frame = pulse 0x0E03 0x001A

-- its record in a version, in a buffer with room for two entries, after some edits of that version's editor
abbrev pub recorded : Version → List Correction → List ℕ
recorded v1 cs = record_after plane_frames (format_of v1) frame (replicate 82 0xEE) cs
recorded v2 cs = record_after plane_frames (format_of v2) frame (replicate 98 0xEE) cs

-- operator 9, reason 2; in version 2 also a time, at desk 0
abbrev pub correction : ℕ → ℕ → Correction
correction w v = record { word = w; value = v; operator = 9; reason = 2; extra = [] }

abbrev pub timed : ℕ → ℕ → ℕ → Correction
timed w v t = record { word = w; value = v; operator = 9; reason = 2; extra = t ∷ 0 ∷ [] }

-- case 10's edit, in version 2 at 12:00 on 13 March 2026, 1,773,403,200 seconds
abbrev pub first : Version → List Correction
first v1 = correction 11 260 ∷ []
first v2 = timed 11 260 1773403200 ∷ []

pub data Question : Type 0 where
  -- the item of the frame at a word
  item : ℕ → Question
  -- of the record after some edits: the bytes from one on, so many
  part : Version → List Correction → ℕ → ℕ → Question
  -- an edit by that version's editor, after some others
  edit : Version → List Correction → Correction → Question
  -- an edit by the editor of today of a record of that version
  today : Version → List Correction → Correction → Question
  -- the frame restored to k, and entry j, after some edits: whatever the version, by the number in header word 0
  back : Version → List Correction → ℕ → Question
  entry : Version → List Correction → ℕ → Question

pub data Reply : Type 0 where
  stands : Option Spot → Reply
  reads : List ℕ → Reply
  answers : Done → Reply
  tells : Outcome Entry → Reply

abbrev pub ask : Question → Reply
ask (item w) = stands (plane_frames.spot frame w)
ask (part v cs at n) = reads (take n (drop at (recorded v cs)))
ask (edit v cs c) = answers (edit_answer plane_frames (format_of v) (recorded v cs) c)
ask (today v cs c) = answers (edit_answer plane_frames (format_of v2) (recorded v cs) c)
ask (back v cs k) = reads (restore_exit plane_frames (format_in (recorded v cs)) (recorded v cs) k (replicate 34 0xEE))
ask (entry v cs j) = tells (entry_answer plane_frames (format_in (recorded v cs)) (recorded v cs) j)

pub record Row : Type 0 where
  pub asked : Question
  pub answer : Reply

abbrev pub row : Question → Reply → Row
row q a = record { asked = q; answer = a }

-- card 5, chip 2, channel 10
abbrev pub sample_of : ℕ → Reply
sample_of v = stands (some (record { kind = 1; value = v; header = record { card = 5; chip = 2; channel = 10 } }))

-- word 11 from 250 to 260
abbrev pub entry_of : List ℕ → Reply
entry_of x = tells (accepted (record { word = 11; kind = 1; old = 250; new = 260; operator = 9; reason = 2; extra = x }))

abbrev pub table : List Row
table =
    -- the samples 250 and 251 stand at words 11 and 12; at word 10 stands the Time bin
    row (item 11) (sample_of 250)
    ∷ row (item 12) (sample_of 251)
    ∷ row (item 10) (stands none)
    -- 10. "header 0001 0001 0010 0022 0032 0000 0032 0000"
    ∷ row (part v1 [] 0 16) (reads (bytes (0x0001 ∷ 0x0001 ∷ 0x0010 ∷ 0x0022 ∷ 0x0032 ∷ 0x0000 ∷ 0x0032 ∷ 0x0000 ∷ [])))
    ∷ row (part v1 [] 16 34) (reads frame)
    -- "Edit word 11 to 260, operator 9, reason 2: word 11 is 3104, entry count 1, total 0042"
    ∷ row (edit v1 [] (correction 11 260)) (answers (accepted tt))
    ∷ row (part v1 (first v1) 38 2) (reads (bytes (0x3104 ∷ [])))
    ∷ row (part v1 (first v1) 0 16) (reads (bytes (0x0001 ∷ 0x0001 ∷ 0x0010 ∷ 0x0022 ∷ 0x0032 ∷ 0x0001 ∷ 0x0042 ∷ 0x0000 ∷ [])))
    -- "entry 0B 00 01 00 FA 00 00 00 04 01 00 00 09 00 02 00"
    ∷ row (part v1 (first v1) 50 16)
    (reads (0x0B ∷ 0x00 ∷ 0x01 ∷ 0x00 ∷ 0xFA ∷ 0x00 ∷ 0x00 ∷ 0x00 ∷ 0x04 ∷ 0x01 ∷ 0x00 ∷ 0x00 ∷ 0x09 ∷ 0x00 ∷ 0x02 ∷ 0x00 ∷ []))
    ∷ row (entry v1 (first v1) 1) (entry_of [])
    ∷ row (back v1 (first v1) 0) (reads frame)
    -- 11. "The same edit again: 23. Word 10: 22. Word 12 to 4,095: accepted; to 4,096: 23"
    ∷ row (edit v1 (first v1) (correction 11 260)) (answers (refused 23 0))
    ∷ row (edit v1 (first v1) (correction 10 260)) (answers (refused 22 0))
    ∷ row (edit v1 (first v1) (correction 12 4095)) (answers (accepted tt))
    ∷ row (edit v1 (first v1) (correction 12 4096)) (answers (refused 23 0))
    -- document 02, request 3: "editing a version 1 record is 20"
    ∷ row (today v1 [] (timed 11 260 1773403200)) (answers (refused 20 0))
    ∷ row (today v1 (first v1) (timed 12 4095 1773403200)) (answers (refused 20 0))
    -- "New records are version 2, their total uses 24": 16 + 34 + 24 = 74 = 004A; 1,773,403,200 = 69B3FC40 in hex
    ∷ row (part v2 [] 0 16) (reads (bytes (0x0002 ∷ 0x0001 ∷ 0x0010 ∷ 0x0022 ∷ 0x0032 ∷ 0x0000 ∷ 0x0032 ∷ 0x0000 ∷ [])))
    ∷ row (part v2 [] 16 34) (reads frame)
    ∷ row (today v2 [] (timed 11 260 1773403200)) (answers (accepted tt))
    ∷ row (part v2 (first v2) 38 2) (reads (bytes (0x3104 ∷ [])))
    ∷ row (part v2 (first v2) 0 16) (reads (bytes (0x0002 ∷ 0x0001 ∷ 0x0010 ∷ 0x0022 ∷ 0x0032 ∷ 0x0001 ∷ 0x004A ∷ 0x0000 ∷ [])))
    ∷ row (part v2 (first v2) 50 24)
    (reads (0x0B ∷ 0x00 ∷ 0x01 ∷ 0x00 ∷ 0xFA ∷ 0x00 ∷ 0x00 ∷ 0x00 ∷ 0x04 ∷ 0x01 ∷ 0x00 ∷ 0x00 ∷ 0x09 ∷ 0x00 ∷ 0x02 ∷ 0x00 ∷ 0x40 ∷ 0xFC ∷ 0xB3 ∷ 0x69 ∷ 0x00 ∷ 0x00 ∷ 0x00 ∷ 0x00 ∷ []))
    ∷ row (entry v2 (first v2) 1) (entry_of (1773403200 ∷ 0 ∷ []))
    ∷ row (back v2 (first v2) 0) (reads frame)
    ∷ row (today v2 (first v2) (timed 11 260 1773403201)) (answers (refused 23 0))
    ∷ row (today v2 (first v2) (timed 10 260 1773403201)) (answers (refused 22 0))
    ∷ row (today v2 (first v2) (timed 12 4096 1773403201)) (answers (refused 23 0))
    -- "a time of 2^48 or more is 24"; "a clock may go back"
    ∷ row (today v2 (first v2) (timed 12 4095 281474976710656)) (answers (refused 24 0))
    ∷ row (today v2 (first v2) (timed 12 4095 281474976710655)) (answers (accepted tt))
    ∷ row (today v2 (first v2) (timed 12 4095 0)) (answers (accepted tt))
    ∷ []
