-- Items: what they are written as, and what a word with the words behind it is read as (document 01, "The word book").
-- Assumes nothing.
use Rattle.std.specs.Prelude.{ℕ, zero, suc, ◌+◌, ◌-◌, ◌*◌, ◌/◌, ◌%◌, List, [], ◌∷◌, ◌++◌, Bool, true, ◌&&◌, length, take, drop, leb, ltb, eqb}
use Rattle.std.proofs.Math.Option.{Option, none, some}
use Rattle.std.proofs.Math.Pow.{are_bytes}
use Rattle.format.specs.Words.{pick, words, bytes, long_of, time_of, long_words, time_words, non_zero, all_zero}
use Rattle.format.specs.Book.{Class, channel, histogram, hit_count, sample, bin, last_cell, time_bin, data_frame, monitor_frame, command_frame, text, start_event, continue_event, end_event, frame_end, unassigned, class_of, after, assigned}

-- the eleven kinds, each with its content in the book's order; T is what a text holds
pub data ItemOf (T : Type 0) : Type 0 where
  -- card, chip, channel
  Channel : ℕ → ℕ → ℕ → ItemOf T
  Histogram : ℕ → ℕ → ℕ → ItemOf T
  -- card, chip, count
  HitCount : ℕ → ℕ → ℕ → ItemOf T
  Sample : ℕ → ItemOf T
  -- bin, count
  Bin : ℕ → ℕ → ItemOf T
  -- chip, cell
  LastCell : ℕ → ℕ → ItemOf T
  TimeBin : ℕ → ItemOf T
  Text : T → ItemOf T
  -- type, timestamp, number
  StartEvent : ℕ → ℕ → ℕ → ItemOf T
  -- number
  ContinueEvent : ℕ → ItemOf T
  -- size
  EndEvent : ℕ → ItemOf T

-- an item holds its text's bytes, without the final zero
abbrev pub Item : Type 0
Item = ItemOf (List ℕ)

abbrev pub class_for : {T : Type 0} → ItemOf T → Class
class_for (Channel a b c) = channel
class_for (Histogram a b c) = histogram
class_for (HitCount a b c) = hit_count
class_for (Sample v) = sample
class_for (Bin b n) = bin
class_for (LastCell a b) = last_cell
class_for (TimeBin t) = time_bin
class_for (Text s) = text
class_for (StartEvent a b c) = start_event
class_for (ContinueEvent n) = continue_event
class_for (EndEvent n) = end_event

-- the low 14 bits of a Channel, Histogram or Hit count word: card 5, chip 2, and 7 more
abbrev pub header_bits : ℕ → ℕ → ℕ → ℕ
header_bits a b c = a * 512 + b * 128 + c

-- the words of an item
unfoldable pub words_of : Item → List ℕ
words_of (Channel a b c) = (0xC000 + header_bits a b c) ∷ []
words_of (Histogram a b c) = (0x8000 + header_bits a b c) ∷ []
words_of (HitCount a b c) = (0x4000 + header_bits a b c) ∷ []
words_of (Sample v) = (0x3000 + v) ∷ []
words_of (Bin b n) = (0x2000 + b) ∷ long_words n
words_of (LastCell a b) = (0x1800 + (a * 512 + b)) ∷ []
words_of (TimeBin t) = (0x0E00 + t) ∷ []
words_of (Text s) = (0x0100 + (length s + 1)) ∷ words (s ++ (0 ∷ []))
words_of (StartEvent t ts n) = (0x00F0 + t) ∷ (time_words ts ++ long_words n)
words_of (ContinueEvent n) = 0x0A00 ∷ long_words n
words_of (EndEvent n) = 0x00E0 ∷ long_words n

-- the content fits its fields; a text has at most 254 bytes, and none of them is zero
abbrev pub fits : Item → Bool
fits (Channel a b c) = leb a 31 && leb b 3 && leb c 127
fits (Histogram a b c) = leb a 31 && leb b 3 && leb c 127
fits (HitCount a b c) = leb a 31 && leb b 3 && leb c 127
fits (Sample v) = leb v 4095
fits (Bin b n) = leb b 4095 && ltb n 4294967296
fits (LastCell a b) = leb a 3 && leb b 511
fits (TimeBin t) = leb t 511
fits (Text s) = leb (length s) 254 && non_zero s && are_bytes s
fits (StartEvent t ts n) = leb t 15 && leb ts 281474976710655 && ltb n 4294967296
fits (ContinueEvent n) = ltb n 4294967296
fits (EndEvent n) = ltb n 4294967296

-- a text's n bytes: "n at least 1, byte n zero, earlier bytes not zero, a padding byte zero"
abbrev pub closed : ℕ → List ℕ → Bool
closed n s = leb 1 n && non_zero (take (n - 1) s) && all_zero (drop (n - 1) s)

-- the item of a word w of the class with the words ws after it; none where they are no item's
unfoldable pub decode : Class → ℕ → List ℕ → Option Item
decode channel w ws = some (Channel (w / 512 % 32) (w / 128 % 4) (w % 128))
decode histogram w ws = some (Histogram (w / 512 % 32) (w / 128 % 4) (w % 128))
decode hit_count w ws = some (HitCount (w / 512 % 32) (w / 128 % 4) (w % 128))
decode sample w ws = some (Sample (w % 4096))
decode bin w ws = some (Bin (w % 4096) (long_of ws))
decode last_cell w ws = some (LastCell (w / 512 % 4) (w % 512))
decode time_bin w ws = some (TimeBin (w % 512))
decode data_frame w ws = none
decode monitor_frame w ws = none
decode command_frame w ws = none
decode text w ws = pick (closed (w % 256) (bytes ws)) (some (Text (take (w % 256 - 1) (bytes ws)))) none
decode start_event w ws = some (StartEvent (w % 16) (time_of ws) (long_of (drop 3 ws)))
decode continue_event w ws = pick (eqb (w % 512) 0) (some (ContinueEvent (long_of ws))) none
decode end_event w ws = pick (eqb (w % 16) 0) (some (EndEvent (long_of ws))) none
decode frame_end w ws = none
decode unassigned w ws = none

-- what begins at a word
pub data Token : Type 0 where
  -- an item, whole
  whole : Item → Token
  -- the words of a class that are no item's: a value rule is broken, or the class is no item's
  broken : Class → Token
  -- the number of the refusal that the word earns wherever it stands: 6 or 7
  flawed : ℕ → Token

abbrev pub token_for : Class → Option Item → Token
token_for c none = broken c
token_for c (some x) = whole x

-- of a word w where the words ws are left
unfoldable pub token_of : ℕ → List ℕ → Token
token_of w ws =
    pick (assigned (class_of w))
    (pick (leb (after (class_of w) w) (length ws)) (token_for (class_of w) (decode (class_of w) w (take (after (class_of w) w) ws))) (flawed 7))
    (flawed 6)

-- the tokens of some words, of which the first k belong to an earlier item: the words after an item are data
unfoldable pub tokens : ℕ → List ℕ → List Token
tokens k [] = []
tokens zero (w ∷ ws) = token_of w ws ∷ tokens (after (class_of w) w) ws
tokens (suc k) (w ∷ ws) = tokens k ws

-- the value rules that look at the item and the frame's card alone, beyond the widths of the fields: "Card equals the frame's card; channel at most
-- 78; hit count at most 79; bin count at least 1"
abbrev pub obeys : ℕ → Item → Bool
obeys card (Channel a b c) = eqb a card && leb c 78
obeys card (Histogram a b c) = eqb a card && leb c 78
obeys card (HitCount a b c) = eqb a card && leb c 79
obeys card (Sample v) = true
obeys card (Bin b n) = leb 1 n
obeys card (LastCell a b) = true
obeys card (TimeBin t) = true
obeys card (Text s) = true
obeys card (StartEvent t ts n) = true
obeys card (ContinueEvent n) = true
obeys card (EndEvent n) = true

-- and nothing is too wide for its field
abbrev pub in_range : ℕ → Item → Bool
in_range card x = obeys card x && fits x

-- the order key of a header
abbrev pub key : ℕ → ℕ → ℕ → ℕ
key card chip c = card * 2048 + chip * 128 + c
