-- T40: a flat answer fixes document 01's answer. That each export's promise has one flat answer is in Once.antt.
-- Assumes nothing.
use Prim.Native.Nat.{ℕ, ◌≤◌}
use mathlib.Core.Path.{◌≡◌, refl, sym, ap, ap₂, ◌∙◌}
use mathlib.Core.Logic.{◌↔◌}
use mathlib.Core.List.{List, [], ◌∷◌}
use mathlib.Core.Option.{Option, none, some}
use native.Mathlib.Omega.{arith}
use lib.Dec.{eqb}
use lib.ListN.{get_or}
use Rattle.format.specs.Words.{pick}
use Rattle.format.specs.Answers.{Outcome, accepted, refused, and_then}
use Rattle.format.specs.Book.{Class, row_of, class_at}
use Rattle.format.proofs.front.Book.{book_row_stands}
use Rattle.format.specs.Items.{ItemOf, Channel, Histogram, HitCount, Sample, Bin, LastCell, TimeBin, Text, StartEvent, ContinueEvent, EndEvent}
use Rattle.format.specs.Rules.{Kind, data_kind, monitor_kind, command_kind}
use Rattle.format.specs.Questions.{IndexedShown, Began, Event}
use Rattle.format.specs.Writing.{given}
use Rattle.follower.specs.Follow as follow
use Rattle.runs.specs.Assembly.{Open, Assembler, Taken, after}
use Rattle.ledger.specs.VersionTwo.{time_in}
use Rattle.corrections.specs.Lists as lists
use Rattle.corrections.specs.Lists.{ListAnswer, stopped}
use Rattle.book.proofs.Unique.{undone}
use Rattle.exports.specs.declared.answers.PlaneFrame.{PlaneFrame}
use Rattle.exports.specs.declared.answers.PlaneItem.{PlaneItem}
use Rattle.exports.specs.declared.answers.PlaneFound.{PlaneFound}
use Rattle.exports.specs.declared.answers.PlaneEvent.{PlaneEvent}
use Rattle.exports.specs.declared.answers.PlaneFollower.{PlaneFollower}
use Rattle.exports.specs.declared.answers.PlaneAssembler.{PlaneAssembler}
use Rattle.exports.specs.Flat.{kind_number, flat_done, flat_frame, flat_item, flat_found, is_there, kind_told, timestamp_told, size_told, flat_event, flat_word, flat_written, flat_follower, flat_followed, flat_assembler_by, flat_assembler, flat_taken, flat_record, time_kept, flat_entry, flat_stopped}
use Rattle.exports.specs.Given.{follower_of, current_of, assembler_of, kind_of, token_of}
use Rattle.exports.specs.FlatTells.{Numbered, Tells, FrameSeen, seen_frame, seen_time, seen_entry}

-- ---- numbers of classes and kinds

pub same_class : (c d : Class) → row_of c ≡ row_of d → c ≡ d
same_class = undone row_of class_at book_row_stands

abbrev kind_back : ℕ → Kind
kind_back n = pick (eqb n 1) data_kind (pick (eqb n 2) monitor_kind command_kind)

kind_back_lem : (k : Kind) → kind_back (kind_number k) ≡ k
kind_back_lem data_kind = refl
kind_back_lem monitor_kind = refl
kind_back_lem command_kind = refl

pub same_kind : (k l : Kind) → kind_number k ≡ kind_number l → k ≡ l
same_kind = undone kind_number kind_back kind_back_lem

-- the kind that plane_read answers is the one that plane_begin takes by that number
pub kind_of_lem : (k : Kind) → kind_of (kind_number k) ≡ some k
kind_of_lem data_kind = refl
kind_of_lem monitor_kind = refl
kind_of_lem command_kind = refl

-- ---- items

abbrev item_back : PlaneItem → ItemOf ℕ
item_back x =
    get_or
    (Sample 0
    ∷ Channel x.card x.chip x.channel
    ∷ Histogram x.card x.chip x.channel
    ∷ HitCount x.card x.chip x.hits
    ∷ Sample x.value
    ∷ Bin x.bin x.count
    ∷ LastCell x.chip x.cell
    ∷ TimeBin x.time
    ∷ Sample 0
    ∷ Sample 0
    ∷ Sample 0
    ∷ Text x.length
    ∷ StartEvent x.kind x.timestamp x.number
    ∷ EndEvent x.size
    ∷ Sample 0
    ∷ ContinueEvent x.number
    ∷ [])
    x.item_class
    (Sample 0)

item_back_lem : (x : ItemOf ℕ) → item_back (flat_item x) ≡ x
unfolding flat_item
item_back_lem (Channel a b c) = refl
item_back_lem (Histogram a b c) = refl
item_back_lem (HitCount a b c) = refl
item_back_lem (Sample v) = refl
item_back_lem (Bin b n) = refl
item_back_lem (LastCell a b) = refl
item_back_lem (TimeBin t) = refl
item_back_lem (Text n) = refl
item_back_lem (StartEvent t ts n) = refl
item_back_lem (ContinueEvent n) = refl
item_back_lem (EndEvent n) = refl

pub same_item : (x y : ItemOf ℕ) → flat_item x ≡ flat_item y → x ≡ y
same_item = undone flat_item item_back item_back_lem

-- an item as plane_item answers it is, handed to plane_add, that item
pub handed_back : (x : ItemOf ℕ) → token_of (flat_item x) ≡ given x
unfolding flat_item token_of
handed_back (Channel a b c) = refl
handed_back (Histogram a b c) = refl
handed_back (HitCount a b c) = refl
handed_back (Sample v) = refl
handed_back (Bin b n) = refl
handed_back (LastCell a b) = refl
handed_back (TimeBin t) = refl
handed_back (Text n) = refl
handed_back (StartEvent t ts n) = refl
handed_back (ContinueEvent n) = refl
handed_back (EndEvent n) = refl

-- ---- answers: any flat form that tells its answer

module _ {A B R : Type 0} (seen : A → B) (flat : Outcome A → R) (number place : R → ℕ) (content : R → B) (t : Tells seen flat number place content) where
  never : {C : Type 0} (a : A) (n p : ℕ) → Numbered {A = A} (refused n p) → flat (accepted a) ≡ flat (refused n p) → C
  never a n p h e =
      let z : 0 ≡ n = sym (t.accepts a) ∙ ap number e ∙ t.numbers n p in
      let l = h.least n p refl in
      absurd (omega arith)

  -- accepted exactly where the number is 0
  pub exactly : (o : Outcome A) → Numbered o → (r : R) → r ≡ flat o → (number r ≡ 0) ↔ ((a : A) × (o ≡ accepted a))
  exactly o h r e = ((λ z. go o h (sym (ap number e) ∙ z)), (λ w. ap number e ∙ ap (λ (q : Outcome A). number (flat q)) w.1 ∙ t.accepts w.0))
    where
      go : (q : Outcome A) → Numbered q → number (flat q) ≡ 0 → (a : A) × (q ≡ accepted a)
      go (accepted a) i z = (a, refl)
      go (refused n p) i z =
          let l = i.least n p refl in
          let k : n ≡ 0 = sym (t.numbers n p) ∙ z in
          absurd (omega arith)

  -- a number above 0 is a refusal's
  pub refuses : (o : Outcome A) (r : R) → r ≡ flat o → 1 ≤ number r → (n : ℕ) × (p : ℕ) × (o ≡ refused n p)
  refuses (accepted a) r e l = let z : number r ≡ 0 = ap number e ∙ t.accepts a in absurd (omega arith)
  refuses (refused n p) r e l = (n, p, refl)

  -- and the flat answer fixes document 01's
  pub fixes : (o q : Outcome A) → Numbered o → Numbered q → flat o ≡ flat q → and_then o (λ a. accepted (seen a)) ≡ and_then q (λ a. accepted (seen a))
  fixes (accepted a) (accepted b) h i e = ap accepted (sym (t.contains a) ∙ ap content e ∙ t.contains b)
  fixes (accepted a) (refused n p) h i e = never a n p i e
  fixes (refused n p) (accepted a) h i e = never a n p h (sym e)
  fixes (refused n p) (refused m q) h i e =
      ap₂ refused (sym (t.numbers n p) ∙ ap number e ∙ t.numbers m q) (sym (t.places n p) ∙ ap place e ∙ t.places m q)

pub done_tells : Tells (λ u. u) flat_done (λ r. r.refused) (λ r. r.place) (λ r. tt {0})
done_tells = record { accepts = λ a. refl; contains = λ a. refl; numbers = λ n p. refl; places = λ n p. refl }

abbrev frame_content : PlaneFrame → FrameSeen
frame_content r = record { kind = kind_back r.kind; card = r.card; sequence = r.sequence; items = r.items }

pub frame_tells : Tells seen_frame flat_frame (λ r. r.refused) (λ r. r.place) frame_content
unfolding flat_frame
frame_tells = record {
  accepts = λ a. refl;
  contains = λ a. (λ i. record { kind = kind_back_lem a.kind i; card = a.card; sequence = a.sequence; items = a.items });
  numbers = λ n p. refl;
  places = λ n p. refl;
}

abbrev found_content : PlaneFound → IndexedShown
found_content r = record { index = r.index; item = item_back r.item; next = r.next }

pub found_tells : Tells (λ x. x) flat_found (λ r. r.refused) (λ r. r.place) found_content
unfolding flat_found
found_tells = record {
  accepts = λ a. refl;
  contains = λ a. (λ i. record { index = a.index; item = item_back_lem a.item i; next = a.next });
  numbers = λ n p. refl;
  places = λ n p. refl;
}

-- what is there, by its flag
abbrev there_by : {A : Type 0} → ℕ → A → Option A
there_by n a = pick (eqb n 0) none (some a)

began_back : (o : Option Began) → there_by (is_there o) (record { kind = kind_told o; timestamp = timestamp_told o }) ≡ o
began_back none = refl
began_back (some b) = refl

size_back : (o : Option ℕ) → there_by (is_there o) (size_told o) ≡ o
size_back none = refl
size_back (some z) = refl

abbrev event_content : PlaneEvent → Event
event_content r = record {
  began = there_by r.began (record { kind = r.kind; timestamp = r.timestamp });
  number = r.number;
  size = there_by r.ended r.size;
  index = r.index;
}

pub event_tells : Tells (λ x. x) flat_event (λ r. r.refused) (λ r. r.place) event_content
unfolding flat_event
event_tells = record {
  accepts = λ a. refl;
  contains = λ a. (λ i. record { began = began_back a.began i; number = a.number; size = size_back a.size i; index = a.index });
  numbers = λ n p. refl;
  places = λ n p. refl;
}

pub word_tells : Tells (λ x. x) flat_word (λ r. r.refused) (λ r. r.place) (λ r. r.word)
unfolding flat_word
word_tells = record { accepts = λ a. refl; contains = λ a. refl; numbers = λ n p. refl; places = λ n p. refl }

pub written_tells : Tells (λ x. x) flat_written (λ r. r.refused) (λ r. r.place) (λ r. r.length)
unfolding flat_written
written_tells = record { accepts = λ a. refl; contains = λ a. refl; numbers = λ n p. refl; places = λ n p. refl }

pub record_tells : Tells (λ x. x) flat_record (λ r. r.refused) (λ r. r.place) (λ r. record { length = r.length; count = r.count; total = r.total })
unfolding flat_record
record_tells = record { accepts = λ a. refl; contains = λ a. refl; numbers = λ n p. refl; places = λ n p. refl }

time_back : (x : List ℕ) → pick (eqb (time_kept x) 0) [] (time_in x ∷ []) ≡ seen_time x
time_back [] = refl
time_back (t ∷ x) = refl

pub entry_tells : Tells seen_entry flat_entry (λ r. r.refused) (λ r. r.place)
    (λ r. record { word = r.word; kind = r.kind; old = r.old_value; new = r.new_value; operator = r.operator_id; reason = r.reason; extra = pick (eqb r.timed 0) [] (r.time ∷ []) })
unfolding flat_entry
entry_tells = record {
  accepts = λ a. refl;
  contains = λ a. ap (λ (x : List ℕ). record { word = a.word; kind = a.kind; old = a.old; new = a.new; operator = a.operator; reason = a.reason; extra = x }) (time_back a.extra);
  numbers = λ n p. refl;
  places = λ n p. refl;
}

-- where a list stopped can be read off its flat form, and that it did not
pub stopped_told : (x : ListAnswer) (i n p : ℕ) → x ≡ stopped i n p → flat_stopped x ≡ record { refused = n; place = p; position = i }
unfolding flat_stopped
stopped_told x i n p e = ap flat_stopped e

pub all_told : (x : ListAnswer) → x ≡ lists.done → (flat_stopped x).refused ≡ 0
unfolding flat_stopped
all_told x e = ap (λ (a : ListAnswer). (flat_stopped a).refused) e

-- ---- the follower: the one answered goes on where the one given left off, and on a refusal stays as it was

follower_back : (s : follow.State) → follower_of (flat_follower s) ≡ s
follower_back follow.idle = refl
follower_back (follow.expecting e) = refl

pub same_follower : (s t : follow.State) → flat_follower s ≡ flat_follower t → s ≡ t
same_follower = undone flat_follower follower_of follower_back

pub follows_on : (x : PlaneFollower) (a : follow.Answer) → follower_of (flat_followed x a).next ≡ follow.after (follower_of x) a
unfolding flat_followed
follows_on x (follow.accepted lost next) = follower_back next
follows_on x (follow.refused n p) = refl

-- ---- the assembler: the one answered goes on where the one given left off, and on a refusal stays as it was

current_back : (card : ℕ) (f : PlaneFollower) (o : Option Open) → current_of (flat_assembler_by card f o) ≡ o
current_back card f none = refl
current_back card f (some o) = refl

fields_kept : (card : ℕ) (f : PlaneFollower) (o : Option Open) → ((flat_assembler_by card f o).card ≡ card) × ((flat_assembler_by card f o).follower ≡ f)
fields_kept card f none = (refl, refl)
fields_kept card f (some o) = (refl, refl)

assembler_back : (a : Assembler) → assembler_of (flat_assembler a) ≡ a
unfolding flat_assembler
assembler_back a =
    let (c, f) = fields_kept a.card (flat_follower a.follower) a.event in
    let g = ap follower_of f ∙ follower_back a.follower in
    let o = current_back a.card (flat_follower a.follower) a.event in
    λ i. record { card = c i; follower = g i; event = o i }

pub same_assembler : (a b : Assembler) → flat_assembler a ≡ flat_assembler b → a ≡ b
same_assembler = undone flat_assembler assembler_of assembler_back

pub takes_on : (x : PlaneAssembler) (o : Outcome Taken) → assembler_of (flat_taken x o).next ≡ after (assembler_of x) o
unfolding flat_taken
takes_on x (accepted t) = assembler_back t.next
takes_on x (refused n p) = refl

pub taken_tells : (x : PlaneAssembler) → Tells (λ t. t) (flat_taken x) (λ r. r.refused) (λ r. r.place) (λ r. record { lost = r.lost; next = assembler_of r.next })
unfolding flat_taken
taken_tells x = record { accepts = λ a. refl; contains = λ a. (λ i. record { lost = a.lost; next = assembler_back a.next i }); numbers = λ n p. refl; places = λ n p. refl }
