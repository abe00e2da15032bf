-- When each refusal of an assembler's step is due, in document 02's words (request 1) and with numerals of its own: no word of the tests that the
-- step is computed by.
-- Assumes nothing.
use Rattle.std.specs.Prelude.{ℕ, ◌+◌, ◌*◌, ◌^◌, ◌<◌, ◌≤◌, ◌≡◌, List, [], ◌∷◌, ◌++◌}
use Rattle.std.proofs.Math.Option.{none, some}
use Rattle.follower.specs.Follow as follower
use Rattle.format.specs.Words.{pick}
use Rattle.format.specs.Book.{end_event}
use Rattle.format.specs.Items.{Item, Channel, ContinueEvent, EndEvent, class_for}
use Rattle.format.specs.Rules.{data_kind, same}
use Rattle.format.specs.Frames.{Frame, earlier_then, encode, Legal}
use Rattle.format.specs.Faults as faults
use Rattle.runs.specs.Assembly.{Open, Assembler, open_after, Taken}
use Rattle.runs.specs.Runs.{bytes_of, BeginsWith}

-- a frame's part of the event that is open: its items up to the first End event, that one counted
unfoldable pub part : List Item → List Item
part [] = []
part (x ∷ xs) = x ∷ pick (same end_event (class_for x)) [] (part xs)

-- 15 LINK, of a frame that is accepted alone and before which so many frames were lost
pub data Unlinked (a : Assembler) (lost : ℕ) (f : Frame) : Type 0 where
  -- "a frame that is no data frame"
  no_data : (f.kind ≡ data_kind → ⊥) → Unlinked a lost f
  -- "is of another card"
  other_card : (f.card ≡ a.card → ⊥) → Unlinked a lost f
  -- "while an event is open .. the follower shows nothing lost"
  loss_inside : (o : Open) → a.event ≡ some o → 0 < lost → Unlinked a lost f
  -- "while an event is open the next frame starts with Continue": it does not,
  not_continued : (o : Open) → a.event ≡ some o → ((n : ℕ) → BeginsWith (ContinueEvent n) f.items → ⊥) → Unlinked a lost f
  -- or not with "the same number"
  other_number : (o : Open) (n : ℕ) → a.event ≡ some o → BeginsWith (ContinueEvent n) f.items → (n ≡ o.number → ⊥) → Unlinked a lost f
  -- "channel headers go on rising": one, by card, chip and channel, is not above those of the parts before
  not_rising : (o : Open) (ys zs : List Item) (b c d : ℕ) → a.event ≡ some o → part f.items ≡ ys ++ (Channel b c d ∷ zs)
      → b * 2048 + c * 128 + d < o.key → Unlinked a lost f
  -- "End event's size counts all parts, Continue items included"
  other_size : (o : Open) (ys : List Item) (n : ℕ) → a.event ≡ some o → part f.items ≡ ys ++ (EndEvent n ∷ [])
      → (n ≡ o.size + bytes_of (part f.items) → ⊥) → Unlinked a lost f
  -- "takes the event's size past 32 bits", whether it ends here or goes on
  past32_bits : (o : Open) → a.event ≡ some o → 2 ^ 32 ≤ o.size + bytes_of (part f.items) → Unlinked a lost f
  -- "starts with Continue when no event is open"
  none_open : (n : ℕ) → a.event ≡ none → BeginsWith (ContinueEvent n) f.items → Unlinked a lost f

-- some bytes are a frame, and the follower accepts its sequence word
pub record Followed (a : Assembler) (s : List ℕ) : Type 0 where
  pub frame : Frame
  pub legal : Legal frame
  pub written : s ≡ encode frame
  pub lost : ℕ
  pub next : follower.State
  pub followed : follower.follow a.follower frame.sequence ≡ follower.accepted lost next

-- 15: such a frame does not link
pub record Unlinking (a : Assembler) (s : List ℕ) : Type 0 where
  pub followed : Followed a s
  pub unlinked : Unlinked a followed.lost followed.frame

-- 14 NO START: a frame with a number 1 to 255 before the first 0x0100
pub record Unstarted (a : Assembler) (s : List ℕ) : Type 0 where
  pub frame : Frame
  pub legal : Legal frame
  pub written : s ≡ encode frame
  pub idle : a.follower ≡ follower.idle
  pub least : 1 ≤ frame.sequence
  pub most : frame.sequence ≤ 255

-- "after the frame refusals, 14 from the follower, then 15 LINK"
pub data Refused (a : Assembler) (s : List ℕ) : ℕ → ℕ → Type 0 where
  of_frame : (n p : ℕ) → faults.Refused s n p → Refused a s n p
  of_follower : Unstarted a s → Refused a s 14 0
  of_link : Unlinking a s → Refused a s 15 0

-- and a step that is accepted: no reason for 15 is there. It answers the loss, and what is open then is what is open at the frame's end
pub record Accepted (a : Assembler) (s : List ℕ) (t : Taken) : Type 0 where
  pub followed : Followed a s
  pub linked : Unlinked a followed.lost followed.frame → ⊥
  pub loss : t.lost ≡ followed.lost
  pub card : t.next.card ≡ a.card
  pub follower_then : t.next.follower ≡ followed.next
  pub event : t.next.event ≡ open_after a.event (earlier_then [] followed.frame.items)
