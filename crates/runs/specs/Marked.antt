-- An assembler's step by what reading a frame tells of it (kind, card and sequence word, and the state behind its items), by its length and by a few of
-- its words: whoever has these need not look at the items again. That it is the step: proofs/front/Runs.antt, `take_by_marks`.
-- Assumes nothing.
use Rattle.std.specs.Prelude.{ℕ, ◌+◌, ◌-◌, ◌*◌, max, ◌≤◌, List, Bool, true, not, ◌&&◌, ◌||◌, ltb, eqb, length}
use Rattle.std.proofs.Math.Option.{Option, none, some}
use Rattle.follower.specs.Follow as follower
use Rattle.format.specs.Words.{pick, word_at, long_at}
use Rattle.format.specs.Answers.{Outcome, accepted, refused, and_then}
use Rattle.format.specs.Steps.{Marks, ReaderState, open_in, Overview, read_of}
use Rattle.runs.specs.Assembly.{Open, Assembler, is_data, Taken}

-- the items begin at word 3; a Continue event's word is this one, and its number stands behind it
abbrev pub continues_at : List ℕ → Bool
continues_at s = eqb (word_at s 3) 0x0A00

-- the leading part's headers rise, so that the first tells of all; `first` is one more than its key
abbrev pub rises_by : ℕ → ℕ → Bool
rises_by key first = eqb first 0 || ltb key first

-- all bytes but those of the first three words and of the last are items
abbrev pub item_bytes : List ℕ → ℕ
item_bytes s = length s - 8

-- an End event at word `lead` counts what stands from word 3 on, and its own six bytes
unfoldable pub size_by : ℕ → List ℕ → ℕ → Bool
size_by size s lead = pick (eqb lead 0) (ltb (size + item_bytes s) 4294967296) (eqb (long_at s (lead + 1)) (size + 2 * lead))

unfoldable pub goes_on_by : Open → ℕ → List ℕ → Marks → Bool
goes_on_by o lost s m =
    eqb lost 0 && continues_at s && eqb o.number (long_at s 4) && rises_by o.key m.first && size_by o.size s m.lead

unfoldable pub linked_by : Option Open → ℕ → List ℕ → Marks → Bool
linked_by none lost s m = not (continues_at s)
linked_by (some o) lost s m = goes_on_by o lost s m

-- of what was open, its size alone
unfoldable pub sized_by : Option Open → List ℕ → Marks → Bool
sized_by none s m = true
sized_by (some o) s m = size_by o.size s m.lead

-- the event that began in the frame and is open, that of the latest Start event: its number stands at the fifth word of that, and it reaches to the last
-- word. An opener alone may be that of an event that has ended, an open event alone the leading part
unfoldable pub begun_by : List ℕ → ReaderState → Option Open
begun_by s st =
    pick (open_in st.mode && not (eqb st.marks.opener 0))
    (some (record { number = long_at s (st.marks.opener + 4); size = length s - 2 - 2 * st.marks.opener; key = st.key })) none

-- an event that was open is open still where its part has no End event
unfoldable pub open_by : Option Open → List ℕ → ReaderState → Option Open
open_by none s st = begun_by s st
open_by (some o) s st =
    pick (eqb st.marks.lead 0) (some (record { number = o.number; size = o.size + item_bytes s; key = max o.key st.key })) (begun_by s st)

unfoldable pub linking_by : Assembler → List ℕ → Overview → follower.Answer → Outcome Taken
linking_by a s v (follower.refused n p) = refused n p
linking_by a s v (follower.accepted lost st) =
    pick (is_data v.kind && eqb v.card a.card && linked_by a.event lost s v.state.marks)
    (accepted (record { lost = lost; next = record { card = a.card; follower = st; event = open_by a.event s v.state } }))
    (refused 15 0)

unfoldable pub take_by : Assembler → List ℕ → Outcome Taken
take_by a s = and_then (read_of s) (λ v. linking_by a s v (follower.follow a.follower v.sequence))

-- how far the marks of a frame reach that reading accepts: not past its last word
pub record Reach (s : List ℕ) (m : Marks) : Type 0 where
  pub least : 8 ≤ length s
  pub most : length s ≤ 8192
  pub opener : 2 * m.opener + 2 ≤ length s
  pub lead : 2 * m.lead + 2 ≤ length s
