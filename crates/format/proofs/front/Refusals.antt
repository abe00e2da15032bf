-- The front page of refusals (document 01, "Numbered refusals", "Shape of a frame"): one reading, every refusal with its number and place, one
-- answer, and the words after an item. Each theorem is one law; when a refusal is due is said in specs/Faults.antt.
-- Assumes nothing.
use Prim.Native.Nat.{ℕ, ◌+◌, ◌*◌, ◌<◌, ◌≤◌}
use mathlib.Core.Path.{◌≡◌}
use mathlib.Core.List.{List, [], ◌∷◌, ◌++◌, map}
use mathlib.Core.Logic.{◌↔◌}
use Rattle.format.specs.Words.{Bytes}
use Rattle.format.specs.Answers.{accepted, refused}
use Rattle.format.specs.Items.{Item, Histogram, Bin, whole, tokens}
use Rattle.format.specs.Rules.{Kind, monitor_kind}
use Rattle.format.specs.Frames.{Frame, Sound, all_words, encode, Legal, body, verdict}
use Rattle.format.specs.Questions.{events, event_at}
use Rattle.format.specs.Figures.{pedestal}
use Rattle.format.specs.Faults.{Refused, Placed, Answered}
use Rattle.format.proofs.verdict.RefusalLaws as law

-- T6. Two legal frames that are written as the same bytes are one.
pub one_reading : (f g : Frame) → Legal f → Legal g → encode f ≡ encode g → f ≡ g
one_reading = law.one_reading

-- T7. A refusal is given exactly where it is due, both ways.
pub refusals : (s : List ℕ) → Bytes s → (n p : ℕ) → (verdict s ≡ refused n p) ↔ Refused s n p
refusals = law.refusals

-- T37. The numbers and the places: 1 to 11; 0, the word index of an item, or that of the last word.
pub places : (s : List ℕ) → Bytes s → (n p : ℕ) → verdict s ≡ refused n p → Placed s n p
places = law.places

-- T8. Each frame's bytes are read as the one legal frame that is written so, or one refusal of 1 to 11 is due, and never both.
pub answered : (s : List ℕ) → Bytes s → Answered s
answered = law.answered

-- T9. "The words after an item are data".

-- What is read in the words of some items, and in whatever comes after them, is those items and what is read after them.
pub alone : (kind : Kind) (card : ℕ) (q xs : List Item) (rest : List ℕ) → Sound kind card q xs → tokens 0 (all_words xs ++ rest) ≡ map whole xs ++ tokens 0 rest
alone = law.alone

-- No item of an accepted frame begins inside another: what begins at its words is its items, one for one.
pub items_only : (s : List ℕ) → Bytes s → (f : Frame) → verdict s ≡ accepted f → body s ≡ map whole f.items
items_only = law.items_only

-- 00F1 in a Bin's count, where it looks like a Start event,
pub bin_count : (b high : ℕ) (rest : List ℕ) → b ≤ 4095 → high < 65536
    → tokens 0 ((0x2000 + b) ∷ 0x00F1 ∷ high ∷ rest) ≡ whole (Bin b (0x00F1 + 65536 * high)) ∷ tokens 0 rest
bin_count = law.bin_count

-- is none: a Bin opens no event, whatever its count.
pub no_event : (at b n : ℕ) (xs : List Item) → events at (Bin b n ∷ xs) ≡ events (at + 3) xs
no_event = law.no_event

-- Case 7 with 00F1 in the count's low word: a histogram and its bin, and no event.
pub counted : verdict (pedestal 0x8A4E 0x00F1 1) ≡ accepted (record { kind = monitor_kind; card = 5; sequence = 0; items = Histogram 5 0 78 ∷ Bin 256 0x100F1 ∷ [] })
counted = law.counted

pub no_event_there : event_at (pedestal 0x8A4E 0x00F1 1) 0 ≡ refused 13 0
no_event_there = law.no_event_there

-- There are legal frames: of every kind, card and sequence word the one without items.
pub empty_legal : (kind : Kind) (card sequence : ℕ) → card ≤ 31 → sequence ≤ 0x0100
    → Legal (record { kind = kind; card = card; sequence = sequence; items = [] })
empty_legal = law.empty_legal
