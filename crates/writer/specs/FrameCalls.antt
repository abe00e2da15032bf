-- Runs of the writer's calls as the code is called, and what a caller hands over who copies a frame: what `read`, `item` and `text` answered.
-- Assumes nothing.
use Rattle.std.specs.Prelude.{ℕ, suc, ◌≡◌, List, [], ◌∷◌, Bool, true, false, ◌&&◌, ltb, length, Result, Ok, Err}
use Rattle.std.proofs.Math.Pow.{are_bytes}
use Rattle.std.specs.Borrow.{Bor}
use Rattle.format.specs.Book.{text}
use Rattle.format.specs.Items as items
use Rattle.format.specs.Items.{class_for}
use Rattle.format.specs.Rules.{same}
use Rattle.format.specs.Handing.{Call, by_add, by_text}
use Rattle.book.specs.declared.items.Item.{Item}
use Rattle.book.specs.declared.items.Item.TheVariants as item
use Rattle.book.specs.declared.refusal.Refusal.{Refusal}
use Rattle.book.specs.Views.{view_item}
use Rattle.rules.specs.declared.state.Kind.{Kind}
use Rattle.frame.specs.declared.reading.Frame.{Frame}
use Rattle.frame.specs.declared.items.IndexedItem.{IndexedItem}
use Rattle.frame.specs.Promises.{ItemAnswered, TextAnswered}
use Rattle.writer.specs.Promises.{Begun, Added, AddedText, Closed}

-- ---- runs

-- what is handed over: an item to `add`, or a text's bytes to `add_text`
pub data Argument : Type 0 where
  an_item : Item → Argument
  a_text : List ℕ → Argument

abbrev pub call_in : Argument → Call
call_in (an_item x) = by_add (view_item x)
call_in (a_text s) = by_text s

-- the one call or the other
abbrev pub Handed : List ℕ → ℕ → Argument → Result ℕ Refusal → List ℕ → Type 0
Handed b n (an_item x) r left = Added b n x r left
Handed b n (a_text s) r left = AddedText b n s r left

-- on the buffer b with n bytes written, these handed over one by one, then close: each call on the buffer that the one before it left and from the
-- length that it answered. A refused call is the last. The last answer, and the buffer after it
pub data Adds : List ℕ → ℕ → List Argument → Result ℕ Refusal → List ℕ → Type 0 where
  closes : {b left : List ℕ} {n : ℕ} {r : Result ℕ Refusal} → Closed b n r left → Adds b n [] r left
  adds : {b c left : List ℕ} {n m : ℕ} {g : Argument} {gs : List Argument} {r : Result ℕ Refusal} → Handed b n g (Ok m) c → Adds c m gs r left
      → Adds b n (g ∷ gs) r left
  refuses : {b left : List ℕ} {n : ℕ} {g : Argument} {gs : List Argument} {q : Refusal} → Handed b n g (Err q) left
      → Adds b n (g ∷ gs) (Err q) left

-- the same from begin on
pub data FrameCalls (b : List ℕ) (kind : Kind) (card sequence : ℕ) (gs : List Argument) : Result ℕ Refusal → List ℕ → Type 0 where
  begins : {c left : List ℕ} {n : ℕ} {r : Result ℕ Refusal} → Begun b kind card sequence (Ok n) c → Adds c n gs r left → FrameCalls b kind card sequence gs r left
  begin_refuses : {left : List ℕ} {q : Refusal} → Begun b kind card sequence (Err q) left → FrameCalls b kind card sequence gs (Err q) left

-- ---- what is handed over

abbrev pub is_text : Item → Bool
is_text x = same text (class_for (view_item x))

-- who copies the frame s, from ordinal n on, asks `item` and hands over what it answers; where that is a text, what `text` answers
pub data Copies (s : Bor (List ℕ)) : ℕ → List Argument → Type 0 where
  no_more : {n : ℕ} → Copies s n []
  with_item : {n : ℕ} {gs : List Argument} (x : IndexedItem) → ItemAnswered s.now n (Ok x) → is_text x.item ≡ false → Copies s (suc n) gs
      → Copies s n (an_item x.item ∷ gs)
  with_text : {n : ℕ} {gs : List Argument} (x : IndexedItem) (t : Bor (List ℕ)) → ItemAnswered s.now n (Ok x) → is_text x.item ≡ true → TextAnswered s n t
      → Copies s (suc n) gs
      → Copies s n (a_text t.now ∷ gs)

-- who has a list of items hands each over by its fields
abbrev pub argument_for : items.Item → Argument
argument_for (items.Channel a b c) = an_item (item.Channel (record { card = a; chip = b; channel = c }))
argument_for (items.Histogram a b c) = an_item (item.Histogram (record { card = a; chip = b; channel = c }))
argument_for (items.HitCount a b c) = an_item (item.HitCount (record { card = a; chip = b; count = c }))
argument_for (items.Sample v) = an_item (item.Sample (record { value = v }))
argument_for (items.Bin b n) = an_item (item.Bin (record { bin = b; count = n }))
argument_for (items.LastCell a b) = an_item (item.LastCell (record { chip = a; cell = b }))
argument_for (items.TimeBin t) = an_item (item.TimeBin (record { time = t }))
argument_for (items.Text s) = a_text s
argument_for (items.StartEvent t ts n) = an_item (item.StartEvent (record { kind = t; timestamp = ts; number = n }))
argument_for (items.ContinueEvent n) = an_item (item.ContinueEvent (record { number = n }))
argument_for (items.EndEvent n) = an_item (item.EndEvent (record { size = n }))

-- the values of the code's types u16, u32 and u64
abbrev is16 : ℕ → Bool
is16 n = ltb n 65536

abbrev is32 : ℕ → Bool
is32 n = ltb n 4294967296

abbrev is64 : ℕ → Bool
is64 n = ltb n 18446744073709551616

-- each field has a value of its type
abbrev pub typed : Argument → Bool
typed (an_item (item.Channel x)) = is16 x.card && is16 x.chip && is16 x.channel
typed (an_item (item.Histogram x)) = is16 x.card && is16 x.chip && is16 x.channel
typed (an_item (item.HitCount x)) = is16 x.card && is16 x.chip && is16 x.count
typed (an_item (item.Sample x)) = is16 x.value
typed (an_item (item.Bin x)) = is16 x.bin && is32 x.count
typed (an_item (item.LastCell x)) = is16 x.chip && is16 x.cell
typed (an_item (item.TimeBin x)) = is16 x.time
typed (an_item (item.Text x)) = is16 x.length
typed (an_item (item.StartEvent x)) = is16 x.kind && is64 x.timestamp && is32 x.number
typed (an_item (item.ContinueEvent x)) = is32 x.number
typed (an_item (item.EndEvent x)) = is32 x.size
typed (a_text s) = are_bytes s

unfoldable pub all_typed : List Argument → Bool
all_typed [] = true
all_typed (g ∷ gs) = typed g && all_typed gs

-- what was handed over under this kind, card and sequence word reads back as itself: so `read` answers r, and who copies the frame hands over hs
pub record ReadsBack (kind : Kind) (card sequence : ℕ) (gs : List Argument) (r : Result Frame Refusal) (hs : List Argument) : Type 0 where
  pub frame : Frame
  pub answered : r ≡ Ok frame
  pub its_kind : frame.kind ≡ kind
  pub its_card : frame.card ≡ card
  pub its_sequence : frame.sequence ≡ sequence
  pub its_items : frame.items ≡ length gs
  pub handed : hs ≡ gs
