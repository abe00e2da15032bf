-- Runs: the data frames of one card in a row, as document 02, request 1, has them, with no word of an assembler. Their items, glued and cut at each
-- Start event, are events; each keeps the rules of an event over all its parts.
-- Assumes nothing.
use Rattle.std.specs.Prelude.{ℕ, ◌*◌, ◌^◌, ◌<◌, ◌≡◌, List, [], ◌∷◌, ◌++◌, map, length}
use Rattle.follower.specs.Follow as follower
use Rattle.format.specs.Words.{pick}
use Rattle.format.specs.Book.{start_event, end_event}
use Rattle.format.specs.Items.{Item, Channel, Histogram, HitCount, Sample, Bin, LastCell, TimeBin, Text, StartEvent, ContinueEvent, EndEvent, class_for, header_bits}
use Rattle.format.specs.Rules.{data_kind, same, count, gather}
use Rattle.format.specs.Frames.{Frame, all_words, encode, Legal}
use Rattle.format.specs.Tree.{Rising}
use Rattle.format.specs.Questions.{end_size, until}

-- of each of a list
unfoldable pub Each : {A : Type 0} → (A → Type 0) → List A → Type 0
Each P [] = Unit {0}
Each P (a ∷ l) = P a × Each P l

-- ---- events over all their parts

-- the items cut at each Start event: each with what stands behind it, up to the next one
unfoldable pub events : List Item → List (List Item)
events [] = []
events (x ∷ xs) = pick (same start_event (class_for x)) ((x ∷ until start_event xs) ∷ events xs) (events xs)

abbrev pub bytes_of : List Item → ℕ
bytes_of xs = 2 * length (all_words xs)

-- the 14-bit content of a Channel header
abbrev pub content : Item → List ℕ
content (Channel a b c) = header_bits a b c ∷ []
content (Histogram a b c) = []
content (HitCount a b c) = []
content (Sample v) = []
content (Bin b n) = []
content (LastCell a b) = []
content (TimeBin t) = []
content (Text s) = []
content (StartEvent t ts n) = []
content (ContinueEvent n) = []
content (EndEvent n) = []

pub record Lawful (event : List Item) : Type 0 where
  -- "channel headers go on rising"
  pub rising : Rising 0 (gather content event)
  -- "End event's size counts all parts, Continue items included"
  pub sized : Each (λ (n : ℕ). n ≡ bytes_of event) (gather end_size event)
  -- and no event, ended or left open, is past 32 bits
  pub bounded : bytes_of event < 2 ^ 32

-- ---- a frame behind all earlier items of its run

-- the items end inside an event of number n: its Start event stands there, and behind it no other and no End event
pub record EndsInside (items : List Item) (n : ℕ) : Type 0 where
  pub before : List Item
  pub kind : ℕ
  pub timestamp : ℕ
  pub inside : List Item
  pub are : items ≡ before ++ (StartEvent kind timestamp n ∷ inside)
  pub no_start : count start_event inside ≡ 0
  pub no_end : count end_event inside ≡ 0

abbrev pub BeginsWith : Item → List Item → Type 0
BeginsWith x xs = (rest : List Item) × (xs ≡ x ∷ rest)

pub record Linked (earlier : List Item) (lost : ℕ) (items : List Item) : Type 0 where
  -- "while an event is open the next frame starts with Continue and the same number, the follower shows nothing lost"
  pub goes_on : (n : ℕ) → EndsInside earlier n → (lost ≡ 0) × BeginsWith (ContinueEvent n) items
  -- and none "starts with Continue when no event is open"
  pub begins : ((n : ℕ) → EndsInside earlier n → ⊥) → (n : ℕ) → BeginsWith (ContinueEvent n) items → ⊥

-- ---- runs

-- a frame of a run, where the follower is in a state behind the earlier ones
pub record Member (card : ℕ) (st : follower.State) (earlier : List Item) (f : Frame) : Type 0 where
  pub legal : Legal f
  pub of_data : f.kind ≡ data_kind
  pub of_card : f.card ≡ card
  pub lost : ℕ
  pub next : follower.State
  pub followed : follower.follow st f.sequence ≡ follower.accepted lost next
  pub linked : Linked earlier lost f.items

-- frame by frame
unfoldable pub Members : ℕ → follower.State → List Item → List Frame → Type 0
Members card st earlier [] = Unit {0}
Members card st earlier (f ∷ fs) = (h : Member card st earlier f) × Members card h.next (earlier ++ f.items) fs

-- all items of some frames
unfoldable pub glued : List Frame → List Item
glued [] = []
glued (f ∷ fs) = f.items ++ glued fs

-- frames that are a run, from the first on
pub record RunOf (card : ℕ) (fs : List Frame) : Type 0 where
  pub members : Members card follower.idle [] fs
  pub lawful : Each Lawful (events (glued fs))

-- and byte strings that are one
pub record IsRun (card : ℕ) (ss : List (List ℕ)) : Type 0 where
  pub frames : List Frame
  pub run : RunOf card frames
  pub written : ss ≡ map encode frames
