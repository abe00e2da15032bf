-- Frames of card 5 with an event over several of them, as bytes, word by word; and what an assembler answers to them, as one table.
-- Assumes nothing.
use Rattle.std.specs.Prelude.{ℕ, List, [], ◌∷◌}
use Rattle.std.proofs.Math.Option.{Option, none, some}
use Rattle.follower.specs.Follow.{State, idle, expecting}
use Rattle.format.specs.Words.{bytes}
use Rattle.format.specs.Answers.{Outcome, accepted, refused}
use Rattle.runs.specs.Assembly.{Open, Assembler, new, give_up}

-- ---- frames, each with its sequence word

-- event 7 begins: chip 2, channel 10, one sample. Nine words of 18 bytes
abbrev pub beginning : ℕ → List ℕ
beginning sequence =
    bytes (0x0805 ∷ 0x001A ∷ sequence ∷ 0x00F1 ∷ 0x03E8 ∷ 0x0000 ∷ 0x0000 ∷ 0x0007 ∷ 0x0000 ∷ 0xCB0A ∷ 0x0E03 ∷ 0x30FA ∷ 0x000F ∷ [])

-- event `number` goes on with a Continue event alone: 6 bytes
abbrev pub continuing : ℕ → ℕ → List ℕ
continuing sequence number = bytes (0x0805 ∷ 0x000E ∷ sequence ∷ 0x0A00 ∷ number ∷ 0x0000 ∷ 0x000F ∷ [])

-- event 7 goes on with a Channel word and one sample, and ends: 18 bytes, of which the Continue event has six
abbrev pub ending : ℕ → ℕ → ℕ → List ℕ
ending sequence header size =
    bytes (0x0805 ∷ 0x001A ∷ sequence ∷ 0x0A00 ∷ 0x0007 ∷ 0x0000 ∷ header ∷ 0x0E00 ∷ 0x30FB ∷ 0x00E0 ∷ size ∷ 0x0000 ∷ 0x000F ∷ [])

-- event 7 ends, and event 8 begins
abbrev pub turning : ℕ → List ℕ
turning sequence =
    bytes
    (0x0805 ∷ 0x0020 ∷ sequence ∷ 0x0A00 ∷ 0x0007 ∷ 0x0000 ∷ 0x00E0 ∷ 0x001E ∷ 0x0000 ∷ 0x00F0 ∷ 0x0000 ∷ 0x0000 ∷ 0x0000 ∷ 0x0008 ∷ 0x0000
    ∷ 0x000F ∷ [])

-- a frame without items, by its start word
abbrev pub empty : ℕ → ℕ → List ℕ
empty start sequence = bytes (start ∷ 0x0008 ∷ sequence ∷ 0x000F ∷ [])

-- ---- what an assembler answers to some frames, one after the other

-- an assembler of card 5; the key of chip 2, channel 10 is 10,506
abbrev pub holding : State → Option Open → Assembler
holding st o = record { card = 5; follower = st; event = o }

abbrev pub opened : ℕ → ℕ → ℕ → Option Open
opened number size key = some (record { number = number; size = size; key = key })

pub record Row : Type 0 where
  pub from : Assembler
  pub frames : List (List ℕ)
  pub answer : Outcome Assembler

abbrev pub row : Assembler → List (List ℕ) → Outcome Assembler → Row
row a ss o = record { from = a; frames = ss; answer = o }

-- 15 LINK at place 0
abbrev pub link : Outcome Assembler
link = refused 15 0

abbrev pub table : List Row
table =
    -- an event over two frames: 18 + 18 bytes
    row (new 5) (beginning 0x0100 ∷ []) (accepted (holding (expecting 1) (opened 7 18 10507)))
    ∷ row (new 5) (beginning 0x0100 ∷ ending 0x0001 0xCB0B 0x0024 ∷ []) (accepted (holding (expecting 2) none))
    -- the size without the Continue item; and that of the part alone
    ∷ row (new 5) (beginning 0x0100 ∷ ending 0x0001 0xCB0B 0x001E ∷ []) link
    ∷ row (new 5) (beginning 0x0100 ∷ ending 0x0001 0xCB0B 0x0012 ∷ []) link
    -- a channel header that does not rise
    ∷ row (new 5) (beginning 0x0100 ∷ ending 0x0001 0xCB0A 0x0024 ∷ []) link
    -- over three frames, one of them without a channel: the last key stands
    ∷ row (new 5) (beginning 0x0100 ∷ continuing 0x0001 0x0007 ∷ []) (accepted (holding (expecting 2) (opened 7 24 10507)))
    ∷ row (new 5) (beginning 0x0100 ∷ continuing 0x0001 0x0007 ∷ ending 0x0002 0xCB0B 0x002A ∷ []) (accepted (holding (expecting 3) none))
    ∷ row (new 5) (beginning 0x0100 ∷ continuing 0x0001 0x0007 ∷ ending 0x0002 0xCB0A 0x002A ∷ []) link
    -- another event's number; a frame without items, a Start event inside an event; a Continue event outside
    ∷ row (new 5) (beginning 0x0100 ∷ continuing 0x0001 0x0008 ∷ []) link
    ∷ row (new 5) (beginning 0x0100 ∷ empty 0x0805 0x0001 ∷ []) link
    ∷ row (new 5) (beginning 0x0100 ∷ beginning 0x0001 ∷ []) link
    ∷ row (new 5) (continuing 0x0100 0x0007 ∷ []) link
    -- one event ends, and another is left open
    ∷ row (new 5) (beginning 0x0100 ∷ turning 0x0001 ∷ []) (accepted (holding (expecting 2) (opened 8 12 0)))
    -- one frame lost inside an event; 0x0100 there, and numbers that are not in use
    ∷ row (new 5) (beginning 0x0100 ∷ ending 0x0002 0xCB0B 0x0024 ∷ []) link
    ∷ row (new 5) (beginning 0x0100 ∷ ending 0x0100 0xCB0B 0x0024 ∷ []) (accepted (holding (expecting 1) none))
    ∷ row (new 5) (beginning 0x0000 ∷ ending 0x0000 0xCB0B 0x0024 ∷ []) (accepted (holding idle none))
    -- outside an event a loss is only reported
    ∷ row (new 5) (empty 0x0805 0x0100 ∷ empty 0x0805 0x0004 ∷ []) (accepted (holding (expecting 5) none))
    -- a monitor frame and another card's; with number 5 before a start, 14 comes first; and a frame's own refusal before that
    ∷ row (new 5) (empty 0x0605 0x0100 ∷ []) link
    ∷ row (new 5) (empty 0x0806 0x0100 ∷ []) link
    ∷ row (new 5) (empty 0x0605 0x0005 ∷ []) (refused 14 0)
    ∷ row (new 5) (empty 0x0825 0x0005 ∷ []) (refused 2 0)
    -- past 32 bits: 4,294,967,290 bytes and six more; four fewer are taken
    ∷ row (holding (expecting 1) (opened 7 4294967290 0)) (continuing 0x0001 0x0007 ∷ []) link
    ∷ row (holding (expecting 1) (opened 7 4294967286 0)) (continuing 0x0001 0x0007 ∷ []) (accepted (holding (expecting 2) (opened 7 4294967292 0)))
    -- given up, the event does not go on, and another begins; what was lost is told then
    ∷ row (give_up (holding (expecting 1) (opened 7 18 10507))) (ending 0x0001 0xCB0B 0x0024 ∷ []) link
    ∷ row (give_up (holding (expecting 1) (opened 7 18 10507))) (beginning 0x0009 ∷ []) (accepted (holding (expecting 10) (opened 7 18 10507)))
    ∷ []
