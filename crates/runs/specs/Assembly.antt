-- An assembler over the data frames of one card, and one step of it on a frame's bytes (document 02, request 1).
-- Assumes nothing.
use Rattle.std.specs.Prelude.{ℕ, ◌+◌, ◌*◌, max, List, [], ◌∷◌, Bool, true, false, ◌&&◌, leb, ltb, eqb, length}
use Rattle.std.proofs.Math.Option.{Option, none, some}
use Rattle.follower.specs.Follow as follower
use Rattle.format.specs.Words.{pick}
use Rattle.format.specs.Answers.{Outcome, accepted, refused, and_then}
use Rattle.format.specs.Book.{start_event, end_event}
use Rattle.format.specs.Items.{Item, Channel, Histogram, HitCount, Sample, Bin, LastCell, TimeBin, Text, StartEvent, ContinueEvent, EndEvent}
use Rattle.format.specs.Rules.{Kind, data_kind, monitor_kind, command_kind, since, total, gather, channel_key, head_or_zero, in_event, begun}
use Rattle.format.specs.Frames.{Frame, earlier_then, all_words, verdict}
use Rattle.format.specs.Steps.{above_all}
use Rattle.format.specs.Questions.{end_size, head_of, until}

-- ---- the state, which holds any numbers

-- an event that is open: its number; its bytes so far, all parts and Continue items counted; the least key that its next Channel header may have
pub record Open : Type 0 where
  pub number : ℕ
  pub size : ℕ
  pub key : ℕ

pub record Assembler : Type 0 where
  pub card : ℕ
  pub follower : follower.State
  pub event : Option Open

abbrev pub new : ℕ → Assembler
new card = record { card = card; follower = follower.idle; event = none }

-- "A separate call gives the open event up."
abbrev pub give_up : Assembler → Assembler
give_up a = record { card = a.card; follower = a.follower; event = none }

-- ---- whether a frame links

-- the number of the Continue event that some items begin with
abbrev pub continued : List Item → Option ℕ
continued [] = none
continued (Channel a b c ∷ xs) = none
continued (Histogram a b c ∷ xs) = none
continued (HitCount a b c ∷ xs) = none
continued (Sample v ∷ xs) = none
continued (Bin b n ∷ xs) = none
continued (LastCell a b ∷ xs) = none
continued (TimeBin t ∷ xs) = none
continued (Text s ∷ xs) = none
continued (StartEvent t ts n ∷ xs) = none
continued (ContinueEvent n ∷ xs) = some n
continued (EndEvent n ∷ xs) = none

abbrev pub is_none : Option ℕ → Bool
is_none none = true
is_none (some n) = false

abbrev pub is_number : ℕ → Option ℕ → Bool
is_number k none = false
is_number k (some n) = eqb k n

-- all of these are at least k
unfoldable pub from : ℕ → List ℕ → Bool
from k [] = true
from k (n ∷ ns) = leb k n && from k ns

-- the bytes of a frame's part of the event that is open: its items before the first End event, the Continue event counted
abbrev pub part_bytes : List Item → ℕ
part_bytes xs = 2 * length (all_words (until end_event xs))

-- "End event's size counts all parts, Continue items included": those before it, and its own six bytes; a size that an End event gives has 32 bits by
-- the frame's own rules, so that one that is past them is refused here too. And an event that goes on is not past them
abbrev pub size_goes_on : ℕ → Option ℕ → Bool
size_goes_on size (some z) = eqb z (size + 6)
size_goes_on size none = ltb size 4294967296

-- "while an event is open the next frame starts with Continue and the same number, the follower shows nothing lost .., channel headers go on rising"
abbrev pub goes_on : Open → ℕ → List Item → Bool
goes_on o lost xs =
    eqb lost 0 && is_number o.number (continued xs) && from o.key (gather channel_key (until end_event xs))
    && size_goes_on (o.size + part_bytes xs) (head_of (gather end_size xs))

abbrev pub linked : Option Open → ℕ → List Item → Bool
linked none lost xs = is_none (continued xs)
linked (some o) lost xs = goes_on o lost xs

abbrev pub is_data : Kind → Bool
is_data data_kind = true
is_data monitor_kind = false
is_data command_kind = false

-- ---- what is open at a frame's end

abbrev pub start_number : Item → List ℕ
start_number (Channel a b c) = []
start_number (Histogram a b c) = []
start_number (HitCount a b c) = []
start_number (Sample v) = []
start_number (Bin b n) = []
start_number (LastCell a b) = []
start_number (TimeBin t) = []
start_number (Text s) = []
start_number (StartEvent t ts n) = n ∷ []
start_number (ContinueEvent n) = []
start_number (EndEvent n) = []

-- the event that began last among the items p, latest first, and is open
abbrev pub last_open : List Item → Open
last_open p =
    record {
      number = head_or_zero (gather start_number p);
      size = 2 * total (since start_event p);
      key = above_all (gather channel_key (since start_event p));
    }

-- an open event with one part more, the items p
abbrev pub grown : Option Open → List Item → Option Open
grown none p = none
grown (some o) p = some (record { number = o.number; size = o.size + 2 * total p; key = max o.key (above_all (gather channel_key p)) })

-- the event that is open behind a frame's items p, latest first: one that began in the frame; or the one that was open before, with one part more
unfoldable pub open_after : Option Open → List Item → Option Open
open_after o p = pick (begun p) (some (last_open p)) (pick (in_event p) (grown o p) none)

-- ---- one step

-- an accepted frame: how many frames were lost before it, and the assembler from there on
pub record Taken : Type 0 where
  pub lost : ℕ
  pub next : Assembler

-- of a frame that is accepted alone: "14 from the follower, then 15 LINK for a frame that is no data frame, is of another card, breaks a rule above, starts with Continue when no event is
-- open, or takes the event's size past 32 bits"
abbrev pub linking : Assembler → Frame → follower.Answer → Outcome Taken
linking a f (follower.refused n p) = refused n p
linking a f (follower.accepted lost st) =
    pick (is_data f.kind && eqb f.card a.card && linked a.event lost f.items)
    (accepted (record { lost = lost; next = record { card = a.card; follower = st; event = open_after a.event (earlier_then [] f.items) } }))
    (refused 15 0)

-- "after the frame refusals"
unfoldable pub take : Assembler → List ℕ → Outcome Taken
take a s = and_then (verdict s) (λ f. linking a f (follower.follow a.follower f.sequence))

-- "the assembler is unchanged"
abbrev pub after : Assembler → Outcome Taken → Assembler
after a (accepted t) = t.next
after a (refused n p) = a

-- frames one after the other, each taken where the one before left the assembler
unfoldable pub take_all : Assembler → List (List ℕ) → Outcome Assembler
take_all a [] = accepted a
take_all a (s ∷ ss) = and_then (take a s) (λ t. take_all t.next ss)
