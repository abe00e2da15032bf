-- The figures of document 01, as bytes; and items with their words.
-- Assumes nothing.
use Rattle.std.specs.Prelude.{ℕ, List, [], ◌∷◌}
use Rattle.format.specs.Words.{bytes}
use Rattle.format.specs.Book.{Class, channel, histogram, hit_count, sample, bin, last_cell, time_bin, data_frame, monitor_frame, command_frame, text, start_event, continue_event, end_event, frame_end, unassigned}
use Rattle.format.specs.Items.{Item, Channel, Histogram, HitCount, Sample, Bin, LastCell, TimeBin, Text, StartEvent, ContinueEvent, EndEvent}

-- document 01's table, in its order, document 02's Continue event, and a word that is of no row
abbrev pub tabled : List Class
tabled =
    channel ∷ histogram ∷ hit_count ∷ sample ∷ bin ∷ last_cell ∷ time_bin ∷ data_frame ∷ monitor_frame ∷ command_frame ∷ text ∷ start_event ∷ end_event ∷ frame_end
    ∷ continue_event ∷ unassigned ∷ []

-- case 1 with its start word
abbrev pub empty : ℕ → List ℕ
empty start = bytes (start ∷ 0x0008 ∷ 0x0000 ∷ 0x000F ∷ [])

-- case 3 with its Time bin word and its size word
abbrev pub pulse : ℕ → ℕ → List ℕ
pulse time size =
    bytes
    (0x0805 ∷ 0x0022 ∷ 0x0100 ∷ 0x00F1 ∷ 0x03E8 ∷ 0x0000 ∷ 0x0000 ∷ 0x0007 ∷ 0x0000 ∷ 0xCB0A ∷ time ∷ 0x30FA ∷ 0x30FB ∷ 0x00E0 ∷ size ∷ 0x0000
    ∷ 0x000F ∷ [])

-- case 7 with its header and its count
abbrev pub pedestal : ℕ → ℕ → ℕ → List ℕ
pedestal header low high = bytes (0x0605 ∷ 0x0010 ∷ 0x0000 ∷ header ∷ 0x2100 ∷ low ∷ high ∷ 0x000F ∷ [])

-- items of its cases 3 and 7, and a few more, and the words that they are written as
abbrev pub figures : List Item
figures =
    -- case 3: "event 0, number 7, chip 2, channel 10, samples 250 and 251 at times 3 and 4"
    StartEvent 1 1000 7 ∷ Channel 5 2 10 ∷ TimeBin 3 ∷ Sample 250 ∷ Sample 251 ∷ EndEvent 26
    -- case 7: "chip 0, channel 78, bin 256, count 70,000"
    ∷ Histogram 5 0 78 ∷ Bin 256 70000
    -- the two that no case has, and texts of two bytes, of one and of none
    ∷ HitCount 5 0 79 ∷ LastCell 2 300 ∷ Text (0x41 ∷ 0x42 ∷ []) ∷ Text (0x41 ∷ []) ∷ Text []
    -- document 02's Continue event, of event 70,007
    ∷ ContinueEvent 70007 ∷ []

abbrev pub figure_words : List ℕ
figure_words =
    0x00F1 ∷ 0x03E8 ∷ 0x0000 ∷ 0x0000 ∷ 0x0007 ∷ 0x0000 ∷ 0xCB0A ∷ 0x0E03 ∷ 0x30FA ∷ 0x30FB ∷ 0x00E0 ∷ 0x001A ∷ 0x0000
    ∷ 0x8A4E ∷ 0x2100 ∷ 0x1170 ∷ 0x0001
    ∷ 0x4A4F ∷ 0x1D2C ∷ 0x0103 ∷ 0x4241 ∷ 0x0000 ∷ 0x0102 ∷ 0x0041 ∷ 0x0101 ∷ 0x0000
    ∷ 0x0A00 ∷ 0x1177 ∷ 0x0001 ∷ []
