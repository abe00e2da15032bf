-- T10 and T18 to T20 of the code's own calls: what `item` and `text` answer, handed to `add` and `add_text`, writes the frame again; what a run
-- of calls accepted reads back as what was handed over; and every list of items that the rules allow can be handed over.
-- Assumes nothing.
use Prim.Native.Nat.{ℕ, zero, suc, ◌+◌, ◌<◌, ◌≤◌}
use mathlib.Core.Path.{◌≡◌, refl, sym, ap, ap₂, subst, ◌∙◌}
use mathlib.Core.List.{List, [], ◌∷◌, ◌++◌, map}
use mathlib.Core.Bool.{Bool, true, false, ◌&&◌}
use mathlib.Core.Logic.{◌⊎◌, ◌↔◌}
use native.Mathlib.Omega.{arith}
use denote.Ref.{Bor}
use lib.Dec.{leb, ltb}
use lib.Pow.{are_bytes}
use lib.ListN.{length, take, drop, length-map}
use borrow.Author.Tests.{leb-true, lt-ltb}
use Rattle.std.specs.Prelude.{Result, Ok, Err}
use Rattle.format.specs.Words.{Bytes, non_zero}
use Rattle.format.specs.Answers.{accepted, refused}
use Rattle.format.specs.Items as items
use Rattle.format.specs.Items.{fits}
use Rattle.format.specs.Rules as rules
use Rattle.format.specs.Frames as frames
use Rattle.format.specs.Frames.{Sound, encode, Legal}
use Rattle.format.specs.Faults.{Refused}
use Rattle.format.specs.Questions.{IndexedShown}
use Rattle.format.specs.Stands.{index_of}
use Rattle.format.specs.Steps.{Overview, overview, read_of}
use Rattle.format.specs.WriterCalls.{CallsDone, calls_done}
use Rattle.format.specs.Handing.{StandsFor, Answers, Call, hand_over, call_of, write_calls, CallsWrote}
use Rattle.format.proofs.book.PrefixLaws.{and_left, and_right, and_both}
use Rattle.format.proofs.verdict.WalkLaws.{allowed_fits}
use Rattle.format.proofs.verdict.Acceptance.{exactly}
use Rattle.format.proofs.questions.ItemQuestions.{item_stands}
use Rattle.format.proofs.writer.HandingLaws.{shown_there}
use Rattle.format.proofs.front.Demand2 as format2
use Rattle.book.specs.declared.refusal.Fault.TheVariants as fault
use Rattle.book.specs.declared.refusal.Refusal.{Refusal}
use Rattle.book.specs.Refusals.{number_of}
use Rattle.book.specs.Refuses.{Refuses}
use Rattle.book.proofs.Unique.{same_item}
use Rattle.book.proofs.Named.{refuses_told, told_refuses}
use Rattle.rules.specs.declared.state.Kind.{Kind}
use Rattle.rules.specs.declared.state.Kind.TheVariants as kind
use Rattle.frame.specs.declared.reading.Frame.{Frame}
use Rattle.frame.specs.declared.items.IndexedItem.{IndexedItem}
use Rattle.rules.specs.Views.{view_kind}
use Rattle.frame.specs.Views.{view_frame, view_reading}
use Rattle.rules.proofs.Unique.{same_kind}
use Rattle.frame.proofs.Unique.{same_reading, same_found}
use Rattle.frame.specs.Promises.{ReadAs, ItemAnswered, TextAnswered}
use Rattle.writer.specs.Views.{view_written}
use Rattle.writer.specs.FrameCalls.{Argument, an_item, a_text, call_in, FrameCalls, is_text, Copies, no_more, with_item, with_text, argument_for, typed, all_typed, ReadsBack}
use Rattle.writer.proofs.Unique.{same_written}
use Rattle.writer.proofs.FrameCallLaws.{run_ran, asked}

-- ---- answers

no_refusal : {A B : Type 0} (a : A) (n p : ℕ) → accepted a ≡ refused n p → B
no_refusal a n p e = let z : ◌≡◌ {A = ℕ} 0 1 = cc in absurd (omega arith)

same_accepted : {A : Type 0} (a b : A) → accepted a ≡ accepted b → a ≡ b
same_accepted a b e = cc

-- a run ends in one way
settled : (r q : Result ℕ Refusal) (left after : List ℕ) → calls_done (view_written r) left ≡ calls_done (view_written q) after → (r ≡ q) × (left ≡ after)
settled r q left after e = (same_written r q (ap (λ (o : CallsDone). o.answer) e), ap (λ (o : CallsDone). o.left) e)

-- ---- arguments

-- a call tells its argument
same_argument : (g h : Argument) → call_in g ≡ call_in h → g ≡ h
same_argument (an_item x) (an_item y) e = ap an_item (same_item x y (cc))
same_argument (an_item x) (a_text t) e = let z : ◌≡◌ {A = ℕ} 0 1 = cc in absurd (omega arith)
same_argument (a_text s) (an_item y) e = let z : ◌≡◌ {A = ℕ} 0 1 = cc in absurd (omega arith)
same_argument (a_text s) (a_text t) e = cc

pub same_arguments : (gs hs : List Argument) → map call_in gs ≡ map call_in hs → gs ≡ hs
same_arguments [] [] e = refl
same_arguments [] (h ∷ hs) e = let z : ◌≡◌ {A = ℕ} 0 1 = cc in absurd (omega arith)
same_arguments (g ∷ gs) [] e = let z : ◌≡◌ {A = ℕ} 0 1 = cc in absurd (omega arith)
same_arguments (g ∷ gs) (h ∷ hs) e = ap₂ ◌∷◌ (same_argument g h (cc)) (same_arguments gs hs (cc))

-- an item that is handed over by its fields is handed over as it would be answered
its_call : (x : items.Item) → call_in (argument_for x) ≡ hand_over x
its_call (items.Channel a b c) = refl
its_call (items.Histogram a b c) = refl
its_call (items.HitCount a b c) = refl
its_call (items.Sample v) = refl
its_call (items.Bin b n) = refl
its_call (items.LastCell a b) = refl
its_call (items.TimeBin t) = refl
its_call (items.Text s) = refl
its_call (items.StartEvent t ts n) = refl
its_call (items.ContinueEvent n) = refl
its_call (items.EndEvent n) = refl

pub all_arguments : (xs : List items.Item) → map call_in (map argument_for xs) ≡ map hand_over xs
all_arguments [] = refl
all_arguments (x ∷ xs) = ap₂ ◌∷◌ (its_call x) (all_arguments xs)

-- ---- T20

module _ (s : Bor (List ℕ)) (g : Frame) (read : ReadAs s.now (Ok g)) where
  pub copied : Bytes s.now → (gs : List Argument) → Copies s 0 gs → length gs ≡ g.items → (buf : List ℕ) → length s.now ≤ length buf
      → (r : Result ℕ Refusal) (left : List ℕ) → FrameCalls buf g.kind g.card g.sequence gs r left
      → (r ≡ Ok (length s.now)) × (left ≡ s.now ++ drop (length s.now) buf)
  copied bs gs c h buf room r left run =
      let a = asked c in
      settled r (Ok (length s.now)) left (s.now ++ drop (length s.now) buf)
      (sym (run_ran run)
      ∙ ap (write_calls buf (view_kind g.kind) g.card g.sequence) (sym a.handed)
      ∙ format2.copied_by_calls s.now (view_frame g) (sym read) a.item_answers a.answers (a.count ∙ h) bs buf room)

  -- ---- T10

  -- each item that `read` counts is answered, and no further one is there
  pub item_answered : (n : ℕ) → n < g.items → (r : Result IndexedItem Refusal) → ItemAnswered s.now n r → (x : IndexedItem) × (r ≡ Ok x)
  item_answered n h (Ok x) e = (x, refl)
  item_answered n h (Err q) e =
      let (x, a) = format2.each_item_is_answered s.now (view_frame g) (sym read) n h in
      no_refusal x (number_of q.fault) q.place (sym a ∙ sym e)

  pub item_absent : (n : ℕ) → g.items ≤ n → (r : Result IndexedItem Refusal) → ItemAnswered s.now n r → r ≡ Err (record { fault = fault.Absent; place = 0 })
  item_absent n h r e = same_found r (Err (record { fault = fault.Absent; place = 0 })) (e ∙ format2.no_further_item s.now (view_frame g) (sym read) n h)

  -- so that the two questions, which always answer, let a caller copy the frame
  module _ (answers : (n : ℕ) → (r : Result IndexedItem Refusal) × ItemAnswered s.now n r) (texts : (n : ℕ) → (t : Bor (List ℕ)) × TextAnswered s n t) where
    one_more : (n : ℕ) → n < g.items → (gs : List Argument) → Copies s (suc n) gs → (a : Argument) × Copies s n (a ∷ gs)
    one_more n h gs k =
        let (r, e) = answers n in
        let (x, q) = item_answered n h r e in
        go x (subst (ItemAnswered s.now n) q e) (is_text x.item) refl
      where
        go : (x : IndexedItem) → ItemAnswered s.now n (Ok x) → (b : Bool) → is_text x.item ≡ b → (a : Argument) × Copies s n (a ∷ gs)
        go x e true i =
            let (t, j) = texts n in
            (a_text t.now, with_text x t e i j k)
        go x e false i = (an_item x.item, with_item x e i k)

    copy_from : (m n : ℕ) → n + m ≡ g.items → (gs : List Argument) × Copies s n gs × (length gs ≡ m)
    copy_from zero n h = ([], no_more, refl)
    copy_from (suc m) n h =
        let (gs, k, l) = copy_from m (suc n) (omega arith) in
        let (a, c) = one_more n (omega arith) gs k in
        (a ∷ gs, c, ap suc l)

    pub can_be_copied : (gs : List Argument) × Copies s 0 gs × (length gs ≡ g.items)
    can_be_copied = copy_from g.items 0 (omega arith)

-- ---- T5, T6 and T7 of `read`

pub read_exactly : (s : Bor (List ℕ)) → Bytes s.now → (r : Result Frame Refusal) → ReadAs s.now r → (g : Frame) → (r ≡ Ok g) ↔ StandsFor s.now (view_frame g)
read_exactly s bs r e g =
    let x = format2.read_exactly s.now bs (view_frame g) in
    (λ i. x.0 (sym e ∙ ap view_reading i), λ a. same_reading r (Ok g) (e ∙ x.1 a))

pub read_refused : (s : Bor (List ℕ)) → Bytes s.now → (r : Result Frame Refusal) → ReadAs s.now r → (n p : ℕ) → Refuses r n p ↔ Refused s.now n p
read_refused s bs r e n p =
    let x = format2.read_refused_exactly s.now bs n p in
    (λ h. x.0 (sym e ∙ refuses_told view_frame r n p h), λ a. told_refuses view_frame r n p (e ∙ x.1 a))

-- so a frame is accepted exactly where its bytes are a legal frame's
pub accepts_exactly : (s : Bor (List ℕ)) → Bytes s.now → (r : Result Frame Refusal) → ReadAs s.now r
    → ((g : Frame) × (r ≡ Ok g)) ↔ ((f : frames.Frame) × Legal f × (s.now ≡ encode f))
accepts_exactly s bs r e = (there, back r e)
  where
    there : (g : Frame) × (r ≡ Ok g) → (f : frames.Frame) × Legal f × (s.now ≡ encode f)
    there (g, i) =
        let a = (read_exactly s bs r e g).0 i in
        (a.frame, a.legal, a.written)

    back : (r : Result Frame Refusal) → ReadAs s.now r → (f : frames.Frame) × Legal f × (s.now ≡ encode f) → (g : Frame) × (r ≡ Ok g)
    back (Ok g) e x = (g, refl)
    back (Err q) e (f, l, w) =
        no_refusal (overview f) (number_of q.fault) q.place
        (sym ((format2.read_exactly s.now bs (overview f)).1 (record { frame = f; legal = l; written = w; overview_is = refl })) ∙ sym e)

-- "the index of the next item or end word"
pub next_index : (s : Bor (List ℕ)) → Bytes s.now → (g : Frame) (a : StandsFor s.now (view_frame g)) (n : ℕ) → n < g.items → (x : IndexedItem) → ItemAnswered s.now n (Ok x)
    → x.next ≡ index_of a.frame.items (suc n)
next_index s bs g a n h x e =
    let f = a.frame in
    let c : g.items ≡ length f.items = ap (λ (o : Overview). o.items) a.overview_is in
    let (y, i) = item_stands n f.items (subst (λ (m : ℕ). n < m) c h) in
    let q = (exactly s.now bs f).1 (a.legal, a.written) in
    ap (λ (o : IndexedShown). o.next) (same_accepted _ _ (e ∙ shown_there s.now f q n y i))

-- and its own
pub own_index : (s : Bor (List ℕ)) → Bytes s.now → (g : Frame) (a : StandsFor s.now (view_frame g)) (n : ℕ) → n < g.items → (x : IndexedItem) → ItemAnswered s.now n (Ok x)
    → x.index ≡ index_of a.frame.items n
own_index s bs g a n h x e =
    let f = a.frame in
    let c : g.items ≡ length f.items = ap (λ (o : Overview). o.items) a.overview_is in
    let (y, i) = item_stands n f.items (subst (λ (m : ℕ). n < m) c h) in
    let q = (exactly s.now bs f).1 (a.legal, a.written) in
    ap (λ (o : IndexedShown). o.index) (same_accepted _ _ (e ∙ shown_there s.now f q n y i))

pub its_items : (s : Bor (List ℕ)) → Bytes s.now → (g : Frame) (a : StandsFor s.now (view_frame g)) (gs : List Argument) → Copies s 0 gs → length gs ≡ g.items
    → gs ≡ map argument_for a.frame.items
its_items s bs g a gs c h =
    let k = asked c in
    same_arguments gs (map argument_for a.frame.items)
    (sym k.handed ∙ format2.read_as_its_items s.now bs (view_frame g) a k.item_answers k.answers (k.count ∙ h) ∙ sym (all_arguments a.frame.items))

-- ---- T18, T18b

-- every kind of frame is one of the code's
pub some_kind : (k : rules.Kind) → (c : Kind) × (view_kind c ≡ k)
some_kind rules.data_kind = (kind.Data, refl)
some_kind rules.monitor_kind = (kind.Monitor, refl)
some_kind rules.command_kind = (kind.Command, refl)

module _ (f : frames.Frame) (k : Kind) (e : view_kind k ≡ f.kind) (buf : List ℕ) (r : Result ℕ Refusal) (left : List ℕ)
    (run : FrameCalls buf k f.card f.sequence (map argument_for f.items) r left) where
  its_run : calls_done (view_written r) left ≡ write_calls buf f.kind f.card f.sequence (map hand_over f.items)
  its_run = sym (run_ran run) ∙ ap₂ (λ (k : rules.Kind) (cs : List Call). write_calls buf k f.card f.sequence cs) e (all_arguments f.items)

  pub list_written : Legal f → length (encode f) ≤ length buf → (r ≡ Ok (length (encode f))) × (left ≡ encode f ++ drop (length (encode f)) buf)
  list_written l h = settled r (Ok (length (encode f))) left (encode f ++ drop (length (encode f)) buf) (its_run ∙ format2.every_list_is_written_by_calls f l buf h)

  pub list_too_long : f.card ≤ 31 → f.sequence ≤ 0x0100 → Sound f.kind f.card [] f.items → (length buf < length (encode f)) ⊎ (8192 < length (encode f))
      → r ≡ Err (record { fault = fault.Room; place = 0 })
  list_too_long c q l h =
      same_written r (Err (record { fault = fault.Room; place = 0 })) (ap (λ (o : CallsDone). o.answer) its_run ∙ format2.only_room_by_calls f c q l buf h)

-- what is allowed fits the code's types
below : (n m k : ℕ) → leb n m ≡ true → m < k → ltb n k ≡ true
below n m k e h = lt-ltb n k (omega (arith, leb-true n m e))

three_typed : (a b c : ℕ) → leb a 31 && leb b 3 && leb c 127 ≡ true → ltb a 65536 && ltb b 65536 && ltb c 65536 ≡ true
three_typed a b c e =
    let f = and_left (leb a 31 && leb b 3) (leb c 127) e in
    and_both _ _ (and_both _ _ (below a 31 65536 (and_left (leb a 31) (leb b 3) f) (omega arith)) (below b 3 65536 (and_right (leb a 31) (leb b 3) f) (omega arith)))
    (below c 127 65536 (and_right (leb a 31 && leb b 3) (leb c 127) e) (omega arith))

fits_typed : (x : items.Item) → fits x ≡ true → typed (argument_for x) ≡ true
fits_typed (items.Channel a b c) e = three_typed a b c e
fits_typed (items.Histogram a b c) e = three_typed a b c e
fits_typed (items.HitCount a b c) e = three_typed a b c e
fits_typed (items.Sample v) e = below v 4095 65536 e (omega arith)
fits_typed (items.Bin b n) e =
    and_both _ _ (below b 4095 65536 (and_left (leb b 4095) (ltb n 4294967296) e) (omega arith)) (and_right (leb b 4095) (ltb n 4294967296) e)
fits_typed (items.LastCell a b) e =
    and_both _ _ (below a 3 65536 (and_left (leb a 3) (leb b 511) e) (omega arith)) (below b 511 65536 (and_right (leb a 3) (leb b 511) e) (omega arith))
fits_typed (items.TimeBin t) e = below t 511 65536 e (omega arith)
fits_typed (items.Text s) e = and_right (leb (length s) 254 && non_zero s) (are_bytes s) e
fits_typed (items.StartEvent t ts n) e =
    let f = and_left (leb t 15 && leb ts 281474976710655) (ltb n 4294967296) e in
    and_both _ _
    (and_both _ _ (below t 15 65536 (and_left (leb t 15) (leb ts 281474976710655) f) (omega arith))
    (below ts 281474976710655 18446744073709551616 (and_right (leb t 15) (leb ts 281474976710655) f) (omega arith)))
    (and_right (leb t 15 && leb ts 281474976710655) (ltb n 4294967296) e)
fits_typed (items.ContinueEvent n) e = e
fits_typed (items.EndEvent n) e = e

pub sound_typed : (kind : rules.Kind) (card : ℕ) (p xs : List items.Item) → Sound kind card p xs → all_typed (map argument_for xs) ≡ true
unfolding Sound all_typed
sound_typed kind card p [] l = refl
sound_typed kind card p (x ∷ xs) l = and_both _ _ (fits_typed x (allowed_fits kind card p x l.0)) (sound_typed kind card (x ∷ p) xs l.1)

-- ---- T19

module _ (buf : List ℕ) (k : Kind) (card sequence : ℕ) (gs : List Argument) (m : ℕ) (left : List ℕ) (run : FrameCalls buf k card sequence gs (Ok m) left) where
  pub writing_done : CallsWrote buf (view_kind k) card sequence (map call_in gs) m left
  writing_done = format2.calls_read_back buf (view_kind k) card sequence (map call_in gs) m left (run_ran run)

  count : length writing_done.items ≡ length gs
  count = sym (length-map writing_done.items hand_over) ∙ ap length (sym writing_done.handed) ∙ length-map gs call_in

  module _ (s : Bor (List ℕ)) (its-bytes : s.now ≡ take m left) where
    seen : (r : Result Frame Refusal) → ReadAs s.now r
        → (g : Frame) × (r ≡ Ok g) × (view_frame g ≡ overview (record { kind = view_kind k; card = card; sequence = sequence; items = writing_done.items }))
    seen (Ok g) e = (g, refl, same_accepted _ _ (e ∙ ap read_of its-bytes ∙ writing_done.read))
    seen (Err q) e = no_refusal _ (number_of q.fault) q.place (sym writing_done.read ∙ sym (e ∙ ap read_of its-bytes))

    handed_again : (hs : List Argument) → Copies s 0 hs → length hs ≡ length gs → hs ≡ gs
    handed_again hs c h =
        let a = asked c in
        let w = writing_done in
        let n : length a.item_answers ≡ length w.answers = a.count ∙ h ∙ sym (w.counted ∙ length-map gs call_in) in
        let t : a.item_answers ≡ w.answers =
        format2.one_list_of_answers (take m left) 0 a.item_answers w.answers (subst (λ (s : List ℕ). Answers s 0 a.item_answers) its-bytes a.answers) w.answered n in
        same_arguments hs gs (sym a.handed ∙ ap (map call_of) t ∙ w.same)

    pub reads_back : (r : Result Frame Refusal) → ReadAs s.now r → (hs : List Argument) → Copies s 0 hs → length hs ≡ length gs → ReadsBack k card sequence gs r hs
    reads_back r e hs c h =
        let (g, q, v) = seen r e in
        record {
          frame = g;
          answered = q;
          its_kind = same_kind g.kind k (ap (λ (o : Overview). o.kind) v);
          its_card = ap (λ (o : Overview). o.card) v;
          its_sequence = ap (λ (o : Overview). o.sequence) v;
          its_items = ap (λ (o : Overview). o.items) v ∙ count;
          handed = handed_again hs c h;
        }
