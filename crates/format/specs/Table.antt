-- The figures of document 01, cases 1 to 9 and 12, as one table: what is asked, and beside it the answer that the document gives.
-- Assumes nothing.
use Rattle.std.specs.Prelude.{ℕ, List, [], ◌∷◌, map, get_or, replicate}
use Rattle.std.proofs.Math.Option.{some}
use Rattle.follower.specs.Follow as follower
use Rattle.follower.specs.Sender.{answers}
use Rattle.format.specs.Answers.{Outcome, accepted, refused, and_then}
use Rattle.format.specs.Items.{ItemOf, Channel, Histogram, Sample, Bin, TimeBin, StartEvent, EndEvent}
use Rattle.format.specs.Rules.{data_kind, monitor_kind}
use Rattle.format.specs.Frames.{Frame, verdict}
use Rattle.format.specs.Questions.{IndexedShown, shown_at, Event, event_at, samples_at, samples_left, counts_at, counts_left}
use Rattle.format.specs.Figures.{empty, pulse, pedestal}

pub data Question : Type 0 where
  -- of some bytes: what frame are they
  reading : List ℕ → Question
  -- item n
  ordinal : List ℕ → ℕ → Question
  -- event e
  event : List ℕ → ℕ → Question
  -- of event e, chip, channel: what stands in 512 lent words at these times
  samples : List ℕ → ℕ → ℕ → ℕ → List ℕ → Question
  -- of a histogram's chip and channel: what stands in 4,096 lent words at these bins
  counts : List ℕ → ℕ → ℕ → List ℕ → Question
  -- the follower in a state, fed some words one after another
  following : follower.State → List ℕ → Question

pub data Reply : Type 0 where
  frame : Outcome Frame → Reply
  showing : Outcome IndexedShown → Reply
  event_reply : Outcome Event → Reply
  standing : Outcome (List ℕ) → Reply
  followed : List follower.Answer → Reply

-- the elements at these places
abbrev pub elements : List ℕ → List ℕ → List ℕ
elements l places = map (λ (i : ℕ). get_or l i 0) places

-- the lent words are 1 each when the question is asked
abbrev pub ask : Question → Reply
ask (reading s) = frame (verdict s)
ask (ordinal s n) = showing (shown_at s n)
ask (event s e) = event_reply (event_at s e)
ask (samples s e chip c times) =
    standing (and_then (samples_at s e chip c 512) (λ xs. accepted (elements (samples_left (accepted xs) (replicate 512 1)) times)))
ask (counts s chip c bins) =
    standing (and_then (counts_at s chip c 4096) (λ xs. accepted (elements (counts_left (accepted xs) (replicate 4096 1)) bins)))
ask (following s words) = followed (answers s words)

pub record Row : Type 0 where
  pub asked : Question
  pub answer : Reply

abbrev pub row : Question → Reply → Row
row q a = record { asked = q; answer = a }

-- an item as it is answered, between its own index and that of the next
abbrev pub at : ℕ → ItemOf ℕ → ℕ → Reply
at index x next = showing (accepted (record { index = index; item = x; next = next }))

-- each row under its case's words
abbrev pub table : List Row
table =
    -- 1. "accepted, card 5, no items"
    row (reading (empty 0x0805)) (frame (accepted (record { kind = data_kind; card = 5; sequence = 0; items = [] })))
    -- 2. "2 at 0"
    ∷ row (reading (empty 0x0825)) (frame (refused 2 0))
    -- 3. "accepted, six items; event 0, number 7, chip 2, channel 10, samples 250 and 251 at times 3 and 4"
    ∷ row (reading (pulse 0x0E03 0x001A))
    (frame
    (accepted
    (record {
      kind = data_kind;
      card = 5;
      sequence = 0x0100;
      items = StartEvent 1 1000 7 ∷ Channel 5 2 10 ∷ TimeBin 3 ∷ Sample 250 ∷ Sample 251 ∷ EndEvent 26 ∷ [];
    })))
    ∷ row (ordinal (pulse 0x0E03 0x001A) 0) (at 3 (StartEvent 1 1000 7) 9)
    ∷ row (ordinal (pulse 0x0E03 0x001A) 1) (at 9 (Channel 5 2 10) 10)
    ∷ row (ordinal (pulse 0x0E03 0x001A) 2) (at 10 (TimeBin 3) 11)
    ∷ row (ordinal (pulse 0x0E03 0x001A) 3) (at 11 (Sample 250) 12)
    ∷ row (ordinal (pulse 0x0E03 0x001A) 4) (at 12 (Sample 251) 13)
    ∷ row (ordinal (pulse 0x0E03 0x001A) 5) (at 13 (EndEvent 26) 16)
    ∷ row (ordinal (pulse 0x0E03 0x001A) 6) (showing (refused 13 0))
    ∷ row (event (pulse 0x0E03 0x001A) 0) (event_reply (accepted (record { began = some (record { kind = 1; timestamp = 1000 }); number = 7; size = some 26; index = 3 })))
    ∷ row (event (pulse 0x0E03 0x001A) 1) (event_reply (refused 13 0))
    ∷ row (samples (pulse 0x0E03 0x001A) 0 2 10 (2 ∷ 3 ∷ 4 ∷ 5 ∷ [])) (standing (accepted (0xFFFF ∷ 250 ∷ 251 ∷ 0xFFFF ∷ [])))
    ∷ row (samples (pulse 0x0E03 0x001A) 0 2 11 (3 ∷ [])) (standing (refused 13 0))
    -- 4. "9 at 13", 5. "8 at 10", 6. "10 at 12"
    ∷ row (reading (pulse 0x0E03 0x001C)) (frame (refused 9 13))
    ∷ row (reading (pulse 0x30FA 0x001A)) (frame (refused 8 10))
    ∷ row (reading (pulse 0x0FFF 0x001A)) (frame (refused 10 12))
    -- 7. "chip 0, channel 78, bin 256, count 70,000"
    ∷ row (reading (pedestal 0x8A4E 0x1170 0x0001))
    (frame (accepted (record { kind = monitor_kind; card = 5; sequence = 0; items = Histogram 5 0 78 ∷ Bin 256 70000 ∷ [] })))
    ∷ row (ordinal (pedestal 0x8A4E 0x1170 0x0001) 0) (at 3 (Histogram 5 0 78) 4)
    ∷ row (ordinal (pedestal 0x8A4E 0x1170 0x0001) 1) (at 4 (Bin 256 70000) 7)
    ∷ row (counts (pedestal 0x8A4E 0x1170 0x0001) 0 78 (255 ∷ 256 ∷ 257 ∷ [])) (standing (accepted (0 ∷ 70000 ∷ 0 ∷ [])))
    -- 8. "9 at 3", 9. "9 at 4"
    ∷ row (reading (pedestal 0x8A4F 0x1170 0x0001)) (frame (refused 9 3))
    ∷ row (reading (pedestal 0x8A4E 0x0000 0x0000)) (frame (refused 9 4))
    -- 12. "Expecting 255, 00FF: lost 0, expect 0. Then 0000: lost 0, expect 1."
    ∷ row (following (follower.expecting 255) (0x00FF ∷ 0x0000 ∷ []))
    (followed (follower.accepted 0 (follower.expecting 0) ∷ follower.accepted 0 (follower.expecting 1) ∷ []))
    ∷ []
