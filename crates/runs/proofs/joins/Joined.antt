-- Runs as the laws go by them: a frame's items behind all earlier items of the run, one by one. That this is specs/Runs' definition: GlueLaws.
-- Assumes nothing.
use Prim.Native.Nat.{ℕ, ◌*◌, ◌<◌}
use mathlib.Core.Path.{◌≡◌}
use mathlib.Core.List.{List, [], ◌∷◌, ◌++◌}
use mathlib.Core.Bool.{Bool, true, false}
use mathlib.Core.Option.{none, some}
use Rattle.follower.specs.Follow as follower
use Rattle.format.specs.Book.{start_event}
use Rattle.format.specs.Items.{Item, Channel, Histogram, HitCount, Sample, Bin, LastCell, TimeBin, Text, StartEvent, ContinueEvent, EndEvent}
use Rattle.format.specs.Rules.{data_kind, since, total, gather, head_or_zero, begun, sized, order}
use Rattle.format.specs.Frames.{Frame, earlier_then, Legal}
use Rattle.runs.specs.Assembly.{continued, start_number}

-- the rules that an event over several frames has as a whole, of an item behind all earlier items of the run, latest first: "channel headers go on
-- rising, and End event's size counts all parts, Continue items included"
abbrev pub fits_run : List Item → Item → Bool
fits_run p (Channel a b c) = order p (Channel a b c)
fits_run p (Histogram a b c) = true
fits_run p (HitCount a b c) = true
fits_run p (Sample v) = true
fits_run p (Bin b n) = true
fits_run p (LastCell a b) = true
fits_run p (TimeBin t) = true
fits_run p (Text s) = true
fits_run p (StartEvent t ts n) = true
fits_run p (ContinueEvent n) = true
fits_run p (EndEvent n) = sized p (EndEvent n)

-- of each of some items
unfoldable pub Fits : List Item → List Item → Type 0
Fits p [] = Unit {0}
Fits p (x ∷ xs) = (fits_run p x ≡ true) × Fits (x ∷ p) xs

-- a frame's items xs behind all earlier items p of the run. An event is open where a Start event stands since the latest End event of the run
pub record Joins (p : List Item) (lost : ℕ) (xs : List Item) : Type 0 where
  -- "while an event is open the next frame starts with Continue and the same number, the follower shows nothing lost"
  pub goes_on : begun p ≡ true → (lost ≡ 0) × (continued xs ≡ some (head_or_zero (gather start_number p)))
  -- and with no event open it does not start with Continue
  pub begins : begun p ≡ false → continued xs ≡ none
  pub fits : Fits p xs
  -- no event's size passes 32 bits
  pub bounded : begun (earlier_then p xs) ≡ true → 2 * total (since start_event (earlier_then p xs)) < 4294967296

-- a frame behind the earlier items of its run, in order, and how many frames were lost before it
pub record Part (card : ℕ) (st : follower.State) (earlier : List Item) (f : Frame) : Type 0 where
  pub legal : Legal f
  pub is_data : f.kind ≡ data_kind
  pub same_card : f.card ≡ card
  pub lost : ℕ
  pub next : follower.State
  pub followed : follower.follow st f.sequence ≡ follower.accepted lost next
  pub joins : Joins (earlier_then [] earlier) lost f.items

-- frames from some state of the follower, and earlier items, on
unfoldable pub Run : ℕ → follower.State → List Item → List Frame → Type 0
Run card st earlier [] = Unit {0}
Run card st earlier (f ∷ fs) = (h : Part card st earlier f) × Run card h.next (earlier ++ f.items) fs
