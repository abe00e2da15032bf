-- T40: what an answer says on paper fixes the answer, since each view is injective; and why a promise then has one answer (Once.antt).
-- Assumes nothing.
use Prim.Native.Nat.{ℕ, ◌≤◌}
use mathlib.Core.Path.{◌≡◌, refl, sym, ap, ◌∙◌}
use mathlib.Core.List.{List, [], ◌∷◌}
use native.Mathlib.Omega.{arith}
use lib.ListN.{get_or}
use Rattle.std.specs.Prelude.{Option, Some, None, Result, Ok, Err}
use Rattle.std.proofs.Math.Option as paper_option
use Rattle.format.specs.Answers.{Outcome, accepted, refused}
use Rattle.format.specs.Book as paper
use Rattle.format.specs.Book.{row_of}
use Rattle.format.specs.Items as items
use Rattle.book.specs.declared.class.Class.{Class}
use Rattle.book.specs.declared.class.Class.TheVariants.{Channel, Histogram, HitCount, Sample, Bin, LastCell, TimeBin, DataFrame, MonitorFrame, CommandFrame, Text, StartEvent, ContinueEvent, EndEvent, FrameEnd, Unassigned}
use Rattle.book.specs.declared.items.Item.{Item}
use Rattle.book.specs.declared.items.Item.TheVariants as item
use Rattle.book.specs.declared.refusal.Fault.{Fault}
use Rattle.book.specs.declared.refusal.Fault.TheVariants as fault
use Rattle.book.specs.declared.refusal.Refusal.{Refusal}
use Rattle.book.specs.Refusals.{number_of}
use Rattle.book.specs.Views.{view, view_item, refusal, view_result, view_option}

-- a contract that is an equation, seen through an injective view, has one answer
pub one : {A B : Type 0} (look : A → B) → ((r q : A) → look r ≡ look q → r ≡ q) → (b : B) (r q : A) → look r ≡ b → look q ≡ b → r ≡ q
one look injective b r q e f = injective r q (e ∙ sym f)

-- a view with a way back is injective
pub undone : {A B : Type 0} (look : A → B) (back : B → A) → ((r : A) → back (look r) ≡ r) → (r q : A) → look r ≡ look q → r ≡ q
undone look back h r q e = sym (h r) ∙ ap back e ∙ h q

-- T40

-- the way back from document 01's classes
abbrev class_back : paper.Class → Class
class_back paper.channel = Channel
class_back paper.histogram = Histogram
class_back paper.hit_count = HitCount
class_back paper.sample = Sample
class_back paper.bin = Bin
class_back paper.last_cell = LastCell
class_back paper.time_bin = TimeBin
class_back paper.data_frame = DataFrame
class_back paper.monitor_frame = MonitorFrame
class_back paper.command_frame = CommandFrame
class_back paper.text = Text
class_back paper.start_event = StartEvent
class_back paper.continue_event = ContinueEvent
class_back paper.end_event = EndEvent
class_back paper.frame_end = FrameEnd
class_back paper.unassigned = Unassigned

class_back_lem : (r : Class) → class_back (view r) ≡ r
class_back_lem Channel = refl
class_back_lem Histogram = refl
class_back_lem HitCount = refl
class_back_lem Sample = refl
class_back_lem Bin = refl
class_back_lem LastCell = refl
class_back_lem TimeBin = refl
class_back_lem DataFrame = refl
class_back_lem MonitorFrame = refl
class_back_lem CommandFrame = refl
class_back_lem Text = refl
class_back_lem StartEvent = refl
class_back_lem ContinueEvent = refl
class_back_lem EndEvent = refl
class_back_lem FrameEnd = refl
class_back_lem Unassigned = refl

pub same_class : (r q : Class) → view r ≡ view q → r ≡ q
same_class = undone view class_back class_back_lem

-- the way back from the rows
abbrev row_back : ℕ → Class
row_back n = get_or (Unassigned ∷ Channel ∷ Histogram ∷ HitCount ∷ Sample ∷ Bin ∷ LastCell ∷ TimeBin ∷ DataFrame ∷ MonitorFrame ∷ CommandFrame ∷ Text ∷ StartEvent ∷ EndEvent ∷ FrameEnd ∷ ContinueEvent ∷ []) n Unassigned

row_back_lem : (r : Class) → row_back (row_of (view r)) ≡ r
row_back_lem Channel = refl
row_back_lem Histogram = refl
row_back_lem HitCount = refl
row_back_lem Sample = refl
row_back_lem Bin = refl
row_back_lem LastCell = refl
row_back_lem TimeBin = refl
row_back_lem DataFrame = refl
row_back_lem MonitorFrame = refl
row_back_lem CommandFrame = refl
row_back_lem Text = refl
row_back_lem StartEvent = refl
row_back_lem ContinueEvent = refl
row_back_lem EndEvent = refl
row_back_lem FrameEnd = refl
row_back_lem Unassigned = refl

pub same_row : (r q : Class) → row_of (view r) ≡ row_of (view q) → r ≡ q
same_row = undone (λ (r : Class). row_of (view r)) row_back row_back_lem

pub row_most : (r : Class) → row_of (view r) ≤ 15
row_most Channel = omega arith
row_most Histogram = omega arith
row_most HitCount = omega arith
row_most Sample = omega arith
row_most Bin = omega arith
row_most LastCell = omega arith
row_most TimeBin = omega arith
row_most DataFrame = omega arith
row_most MonitorFrame = omega arith
row_most CommandFrame = omega arith
row_most Text = omega arith
row_most StartEvent = omega arith
row_most ContinueEvent = omega arith
row_most EndEvent = omega arith
row_most FrameEnd = omega arith
row_most Unassigned = omega arith

-- the way back from document 01's items
abbrev item_back : items.ItemOf ℕ → Item
item_back (items.Channel a b c) = item.Channel (record { card = a; chip = b; channel = c })
item_back (items.Histogram a b c) = item.Histogram (record { card = a; chip = b; channel = c })
item_back (items.HitCount a b c) = item.HitCount (record { card = a; chip = b; count = c })
item_back (items.Sample v) = item.Sample (record { value = v })
item_back (items.Bin b n) = item.Bin (record { bin = b; count = n })
item_back (items.LastCell a b) = item.LastCell (record { chip = a; cell = b })
item_back (items.TimeBin t) = item.TimeBin (record { time = t })
item_back (items.Text n) = item.Text (record { length = n })
item_back (items.StartEvent t ts n) = item.StartEvent (record { kind = t; timestamp = ts; number = n })
item_back (items.ContinueEvent n) = item.ContinueEvent (record { number = n })
item_back (items.EndEvent n) = item.EndEvent (record { size = n })

item_back_lem : (r : Item) → item_back (view_item r) ≡ r
item_back_lem (item.Channel x) = refl
item_back_lem (item.Histogram x) = refl
item_back_lem (item.HitCount x) = refl
item_back_lem (item.Sample x) = refl
item_back_lem (item.Bin x) = refl
item_back_lem (item.LastCell x) = refl
item_back_lem (item.TimeBin x) = refl
item_back_lem (item.Text x) = refl
item_back_lem (item.StartEvent x) = refl
item_back_lem (item.ContinueEvent x) = refl
item_back_lem (item.EndEvent x) = refl

pub same_item : (r q : Item) → view_item r ≡ view_item q → r ≡ q
same_item = undone view_item item_back item_back_lem

-- the way back from the numbers of faults; those that name none give any
abbrev faults : List Fault
faults =
    fault.Length ∷ fault.Length ∷ fault.Kind ∷ fault.Size ∷ fault.Sequence ∷ fault.End ∷ fault.Class ∷ fault.Cut ∷ fault.Place ∷ fault.Value ∷
    fault.Order ∷ fault.Open ∷ fault.Room ∷ fault.Absent ∷ fault.NoStart ∷ fault.Link ∷ fault.Link ∷ fault.Link ∷ fault.Link ∷ fault.Link ∷
    fault.Header ∷ fault.Entry ∷ fault.Target ∷ fault.NewValue ∷ fault.Signer ∷ fault.Full ∷ fault.NoEntry ∷ []

abbrev pub fault_back : ℕ → Fault
fault_back n = get_or faults n fault.Length

pub fault_back_lem : (f : Fault) → fault_back (number_of f) ≡ f
fault_back_lem fault.Length = refl
fault_back_lem fault.Kind = refl
fault_back_lem fault.Size = refl
fault_back_lem fault.Sequence = refl
fault_back_lem fault.End = refl
fault_back_lem fault.Class = refl
fault_back_lem fault.Cut = refl
fault_back_lem fault.Place = refl
fault_back_lem fault.Value = refl
fault_back_lem fault.Order = refl
fault_back_lem fault.Open = refl
fault_back_lem fault.Room = refl
fault_back_lem fault.Absent = refl
fault_back_lem fault.NoStart = refl
fault_back_lem fault.Link = refl
fault_back_lem fault.Header = refl
fault_back_lem fault.Entry = refl
fault_back_lem fault.Target = refl
fault_back_lem fault.NewValue = refl
fault_back_lem fault.Signer = refl
fault_back_lem fault.Full = refl
fault_back_lem fault.NoEntry = refl

pub same_fault : (f g : Fault) → number_of f ≡ number_of g → f ≡ g
same_fault = undone number_of fault_back fault_back_lem

module _ {A : Type 0} where
  pub same_refusal : (r q : Refusal) → refusal {A = A} r ≡ refusal q → r ≡ q
  same_refusal r q e =
      let n : number_of r.fault ≡ number_of q.fault = cc in
      let p : r.place ≡ q.place = cc in
      let f = same_fault r.fault q.fault n in
      λ i. record { fault = f i; place = p i }

-- THE GENERAL VIEWS: the way back from an answer on paper, where there is one from what is looked at

abbrev pub result_back : {A B : Type 0} → (B → A) → Outcome B → Result A Refusal
result_back back (accepted y) = Ok (back y)
result_back back (refused n p) = Err (record { fault = fault_back n; place = p })

pub result_back_lem : {A B : Type 0} (look : A → B) (back : B → A) → ((x : A) → back (look x) ≡ x) → (r : Result A Refusal) → result_back back (view_result look r) ≡ r
result_back_lem look back same (Ok x) = ap Ok (same x)
result_back_lem look back same (Err r) = λ i. Err (record { fault = fault_back_lem r.fault i; place = r.place })

abbrev pub option_back : {A B : Type 0} → (B → A) → paper_option.Option B → Option A
option_back back (paper_option.some y) = Some (back y)
option_back back paper_option.none = None

pub option_back_lem : {A B : Type 0} (look : A → B) (back : B → A) → ((x : A) → back (look x) ≡ x) → (r : Option A) → option_back back (view_option look r) ≡ r
option_back_lem look back same (Some x) = ap Some (same x)
option_back_lem look back same None = refl

-- THE GENERAL VIEWS: injective where `look` is

module _ {A B : Type 0} (look : A → B) (same : (r q : A) → look r ≡ look q → r ≡ q) where
  accepted_is : (a b : B) → ◌≡◌ {A = Outcome B} (accepted a) (accepted b) → a ≡ b
  accepted_is a b e = cc

  some_is : (a b : B) → ◌≡◌ {A = paper_option.Option B} (paper_option.some a) (paper_option.some b) → a ≡ b
  some_is a b e = cc

  pub same_result : (r q : Result A Refusal) → view_result look r ≡ view_result look q → r ≡ q
  same_result (Ok x) (Ok y) e = ap Ok (same x y (accepted_is _ _ e))
  same_result (Ok x) (Err f) e = let z : ◌≡◌ {A = ℕ} 0 1 = cc in absurd (omega arith)
  same_result (Err f) (Ok x) e = let z : ◌≡◌ {A = ℕ} 0 1 = cc in absurd (omega arith)
  same_result (Err f) (Err g) e = ap Err (same_refusal f g e)

  pub same_option : (r q : Option A) → view_option look r ≡ view_option look q → r ≡ q
  same_option (Some x) (Some y) e = ap Some (same x y (some_is _ _ e))
  same_option (Some x) None e = let z : ◌≡◌ {A = ℕ} 0 1 = cc in absurd (omega arith)
  same_option None (Some x) e = let z : ◌≡◌ {A = ℕ} 0 1 = cc in absurd (omega arith)
  same_option None None e = refl

-- an equation of the answer itself, of a number, a bool, a struct or a list, has one answer
pub equal_once : {A : Type 0} (b r q : A) → r ≡ b → q ≡ b → r ≡ q
equal_once b r q e f = e ∙ sym f
