-- Demand 2 at the code, in the client's words: of whatever `read`, `item` and `text` answer and of any run of `begin`, `add`, `add_text` and
-- `close`, each call by its contract's promise alone (specs/FrameCalls.antt). Each theorem is one law; what the meaning says is on the page of the crate
-- `format`, proofs/front/Demand2.antt.
-- Assumes nothing.
use Prim.Native.Nat.{ℕ, suc, ◌<◌, ◌≤◌}
use mathlib.Core.Path.{◌≡◌}
use mathlib.Core.List.{List, [], ◌++◌, map}
use mathlib.Core.Bool.{true}
use mathlib.Core.Logic.{◌↔◌, ◌⊎◌}
use denote.Ref.{Bor}
use lib.ListN.{length, take, drop}
use Rattle.std.specs.Prelude.{Result, Ok, Err}
use Rattle.format.specs.Words.{Bytes}
use Rattle.format.specs.Items.{Item}
use Rattle.format.specs.Rules as rules
use Rattle.format.specs.Frames as frames
use Rattle.format.specs.Frames.{Sound, encode, Legal}
use Rattle.format.specs.Faults.{Refused}
use Rattle.format.specs.Stands.{index_of}
use Rattle.format.specs.Handing.{StandsFor, CallsWrote}
use Rattle.book.specs.declared.refusal.Fault.TheVariants as fault
use Rattle.book.specs.declared.refusal.Refusal.{Refusal}
use Rattle.book.specs.Refuses.{Refuses}
use Rattle.rules.specs.declared.state.Kind.{Kind}
use Rattle.frame.specs.declared.reading.Frame.{Frame}
use Rattle.frame.specs.declared.items.IndexedItem.{IndexedItem}
use Rattle.rules.specs.Views.{view_kind}
use Rattle.frame.specs.Views.{view_frame}
use Rattle.frame.specs.Promises.{ReadAs, ItemAnswered, TextAnswered}
use Rattle.writer.specs.FrameCalls.{Argument, call_in, FrameCalls, Copies, argument_for, all_typed, ReadsBack}
use Rattle.writer.proofs.FrameCallLaws as runs
use Rattle.writer.proofs.CopyLaws as copies

-- > "A frame is accepted exactly when it follows our word book and frame rules,"
module _ (s : Bor (List ℕ)) (bytes : Bytes s.now) (r : Result Frame Refusal) (read : ReadAs s.now r) where
  pub accepted_exactly : ((f : Frame) × (r ≡ Ok f)) ↔ ((f : frames.Frame) × Legal f × (s.now ≡ encode f))
  accepted_exactly = copies.accepts_exactly s bytes r read

  pub refused_exactly : (n p : ℕ) → Refuses r n p ↔ Refused s.now n p
  refused_exactly = copies.read_refused s bytes r read

  -- > "and then read as the one kind, card, sequence word"
  pub read_exactly : (f : Frame) → (r ≡ Ok f) ↔ StandsFor s.now (view_frame f)
  read_exactly = copies.read_exactly s bytes r read

-- > "and list of items it stands for."
module _ (s : Bor (List ℕ)) (bytes : Bytes s.now) (f : Frame) (stands : StandsFor s.now (view_frame f)) where
  -- What a caller who copies the frame is answered and hands over are the items of the one frame that its bytes are, each by its fields;
  pub read_as_its_items : (gs : List Argument) → Copies s 0 gs → length gs ≡ f.items → gs ≡ map argument_for stands.frame.items
  read_as_its_items = copies.its_items s bytes f stands

  -- and with each of them "the index of the next item or end word".
  pub next_index : (n : ℕ) → n < f.items → (x : IndexedItem) → ItemAnswered s.now n (Ok x) → x.next ≡ index_of stands.frame.items (suc n)
  next_index = copies.next_index s bytes f stands

  -- and its own index.
  pub own_index : (n : ℕ) → n < f.items → (x : IndexedItem) → ItemAnswered s.now n (Ok x) → x.index ≡ index_of stands.frame.items n
  own_index = copies.own_index s bytes f stands

module _ (s : Bor (List ℕ)) (f : Frame) (read : ReadAs s.now (Ok f)) where
  -- Each item that `read` counts is answered, no further one is there,
  pub each_item_is_answered : (n : ℕ) → n < f.items → (r : Result IndexedItem Refusal) → ItemAnswered s.now n r → (x : IndexedItem) × (r ≡ Ok x)
  each_item_is_answered = copies.item_answered s f read

  pub no_further_item : (n : ℕ) → f.items ≤ n → (r : Result IndexedItem Refusal) → ItemAnswered s.now n r → r ≡ Err (record { fault = fault.Absent; place = 0 })
  no_further_item = copies.item_absent s f read

  -- and so the frame can be copied to its end, whatever the two questions answer.
  pub can_be_copied : ((n : ℕ) → (r : Result IndexedItem Refusal) × ItemAnswered s.now n r) → ((n : ℕ) → (t : Bor (List ℕ)) × TextAnswered s n t)
      → (gs : List Argument) × Copies s 0 gs × (length gs ≡ f.items)
  can_be_copied = copies.can_be_copied s f read

  -- > "an accepted frame written again has the same bytes."
  -- Begin, add, add_text and close are handed what read, item and text answered: all accept, the last answers the frame's length, and the buffer
  -- begins with the frame and is as it was beyond.
  pub same_bytes : Bytes s.now → (gs : List Argument) → Copies s 0 gs → length gs ≡ f.items → (buf : List ℕ) → length s.now ≤ length buf
      → (r : Result ℕ Refusal) (left : List ℕ) → FrameCalls buf f.kind f.card f.sequence gs r left
      → (r ≡ Ok (length s.now)) × (left ≡ s.now ++ drop (length s.now) buf)
  same_bytes = copies.copied s f read

-- > "Every list that the rules allow can be written, if it fits,"
-- Each of its items, handed over by its fields, has values of the code's types; every kind is one of the code's.
pub every_list_is_typed : (kind : rules.Kind) (card : ℕ) (xs : List Item) → Sound kind card [] xs → all_typed (map argument_for xs) ≡ true
every_list_is_typed kind card = copies.sound_typed kind card []

pub every_kind : (kind : rules.Kind) → (k : Kind) × (view_kind k ≡ kind)
every_kind = copies.some_kind

-- There is a run of whatever is handed over, and
pub every_run : (buf : List ℕ) (k : Kind) (card sequence : ℕ) (gs : List Argument) → (r : Result ℕ Refusal) × (left : List ℕ) × FrameCalls buf k card sequence gs r left
every_run = runs.some_run

module _ (f : frames.Frame) (k : Kind) (its_kind : view_kind k ≡ f.kind) (buf : List ℕ) (r : Result ℕ Refusal) (left : List ℕ)
    (run : FrameCalls buf k f.card f.sequence (map argument_for f.items) r left) where
  -- it writes the list,
  pub every_list_is_written : Legal f → length (encode f) ≤ length buf → (r ≡ Ok (length (encode f))) × (left ≡ encode f ++ drop (length (encode f)) buf)
  every_list_is_written = copies.list_written f k its_kind buf r left run

  -- or refuses by 12: that it does not fit is the only reason against.
  pub only_room : f.card ≤ 31 → f.sequence ≤ 0x0100 → Sound f.kind f.card [] f.items → (length buf < length (encode f)) ⊎ (8192 < length (encode f))
      → r ≡ Err (record { fault = fault.Room; place = 0 })
  only_room = copies.list_too_long f k its_kind buf r left run

-- > "and reads back as itself;"
module _ (buf : List ℕ) (k : Kind) (card sequence : ℕ) (gs : List Argument) (m : ℕ) (left : List ℕ) (run : FrameCalls buf k card sequence gs (Ok m) left) where
  -- Whatever a run accepts is a legal frame of just what was handed over, in the first m bytes, the rest of the buffer as it was;
  pub only_frames_are_written : CallsWrote buf (view_kind k) card sequence (map call_in gs) m left
  only_frames_are_written = copies.writing_done buf k card sequence gs m left run

  -- of those m bytes read answers this kind, card, sequence word and number of items, and who copies them hands over the same again.
  pub reads_back : (s : Bor (List ℕ)) → s.now ≡ take m left → (r : Result Frame Refusal) → ReadAs s.now r → (hs : List Argument) → Copies s 0 hs → length hs ≡ length gs
      → ReadsBack k card sequence gs r hs
  reads_back = copies.reads_back buf k card sequence gs m left run
