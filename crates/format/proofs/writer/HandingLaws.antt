-- T10 and T18 to T20 over the questions' answers and the writer's arguments: what is told of a frame's items is all of its words, and handed over
-- it is the items themselves.
-- Assumes nothing.
use Prim.Native.Nat.{ℕ, suc, ◌+◌, ◌*◌, ◌<◌, ◌≤◌}
use mathlib.Core.Path.{◌≡◌, refl, sym, ap, ap₂, ◌∙◌}
use mathlib.Core.List.{List, [], ◌∷◌, ◌++◌, map, append_assoc}
use mathlib.Core.Logic.{◌↔◌, ◌⊎◌}
use native.Mathlib.Omega.{arith}
use lib.ListN.{length, take, drop, length-append, length-map}
use lib.Seq.{take_at}
use Rattle.format.specs.Words.{Bytes, bytes, words, long_words, time_words}
use Rattle.format.specs.Answers.{Outcome, accepted, refused}
use Rattle.format.specs.Book.{Class, text}
use Rattle.format.specs.Items.{Item, Channel, Histogram, HitCount, Sample, Bin, LastCell, TimeBin, Text, StartEvent, ContinueEvent, EndEvent, words_of, Token, whole, broken}
use Rattle.format.specs.Rules.{Kind}
use Rattle.format.specs.Frames.{Frame, start_word, all_words, frame_words, encode, Legal, Sound, verdict}
use Rattle.format.specs.Questions.{IndexedShown, shown, shown_at}
use Rattle.format.specs.Stands.{ItemIs, index_of}
use Rattle.format.specs.Steps.{Overview, overview, read_of}
use Rattle.format.specs.WriterCalls.{calls_done, write_all}
use Rattle.format.specs.Faults.{Refused}
use Rattle.format.specs.Handing.{StandsFor, ItemAnswer, item_answer_of, Answers, no_more, then, answer_words, all_answer_words, frame_told, Call, by_add, by_text, token_of_call, call_of, hand_over, write_calls, CallsWrote}
use Rattle.format.proofs.verdict.Acceptance.{exactly, sound}
use Rattle.format.proofs.verdict.RefusalLaws.{refusals}
use Rattle.format.proofs.questions.ItemQuestions.{item_stands, all_words_lem, item_there, item_past, item_refused, text_of}
use Rattle.format.proofs.writer.WriterSteps.{encode_length}
use Rattle.format.proofs.writer.Completeness.{written, too_short, writing_done, rewritten}

-- ---- one item

-- THE LAW of the answers: by document 01's columns, they are the item's words
pub told_words : (index : ℕ) (x : Item) (next : ℕ) → answer_words (item_answer_of index x next) ≡ words_of x
unfolding words_of
told_words index (Channel a b c) next = ap (λ (w : ℕ). w ∷ []) (omega arith)
told_words index (Histogram a b c) next = ap (λ (w : ℕ). w ∷ []) (omega arith)
told_words index (HitCount a b c) next = ap (λ (w : ℕ). w ∷ []) (omega arith)
told_words index (Sample v) next = ap (λ (w : ℕ). w ∷ []) (omega arith)
told_words index (Bin b m) next = ap (λ (w : ℕ). w ∷ long_words m) (omega arith)
told_words index (LastCell a b) next = ap (λ (w : ℕ). w ∷ []) (omega arith)
told_words index (TimeBin t) next = ap (λ (w : ℕ). w ∷ []) (omega arith)
told_words index (Text s) next = ap (λ (w : ℕ). w ∷ words (s ++ (0 ∷ []))) (omega arith)
told_words index (StartEvent t ts m) next = ap (λ (w : ℕ). w ∷ (time_words ts ++ long_words m)) (omega arith)
told_words index (ContinueEvent m) next = refl
told_words index (EndEvent m) next = refl

-- THE LAW of the arguments: handed over as it is answered, an item is itself
pub handed_over : (x : Item) → token_of_call (hand_over x) ≡ whole x
handed_over (Channel a b c) = refl
handed_over (Histogram a b c) = refl
handed_over (HitCount a b c) = refl
handed_over (Sample v) = refl
handed_over (Bin b n) = refl
handed_over (LastCell a b) = refl
handed_over (TimeBin t) = refl
handed_over (Text s) = refl
handed_over (StartEvent t ts n) = refl
handed_over (ContinueEvent n) = refl
handed_over (EndEvent n) = refl

whole_is : (x y : Item) → whole x ≡ whole y → x ≡ y
whole_is x y e = cc

no_item : {A : Type 0} (c : Class) (x : Item) → broken c ≡ whole x → A
no_item c x e = let z : ◌≡◌ {A = ℕ} 0 1 = cc in absurd (omega arith)

-- and a call that hands over an item is the one that its answers make
pub handed_back : (c : Call) (x : Item) → token_of_call c ≡ whole x → c ≡ hand_over x
handed_back (by_add (Channel a b c)) x e = ap hand_over (whole_is _ x e)
handed_back (by_add (Histogram a b c)) x e = ap hand_over (whole_is _ x e)
handed_back (by_add (HitCount a b c)) x e = ap hand_over (whole_is _ x e)
handed_back (by_add (Sample v)) x e = ap hand_over (whole_is _ x e)
handed_back (by_add (Bin b n)) x e = ap hand_over (whole_is _ x e)
handed_back (by_add (LastCell a b)) x e = ap hand_over (whole_is _ x e)
handed_back (by_add (TimeBin t)) x e = ap hand_over (whole_is _ x e)
handed_back (by_add (Text n)) x e = no_item text x e
handed_back (by_add (StartEvent t ts n)) x e = ap hand_over (whole_is _ x e)
handed_back (by_add (ContinueEvent n)) x e = ap hand_over (whole_is _ x e)
handed_back (by_add (EndEvent n)) x e = ap hand_over (whole_is _ x e)
handed_back (by_text s) x e = ap hand_over (whole_is _ x e)

all_handed : (xs : List Item) → map token_of_call (map hand_over xs) ≡ map whole xs
all_handed [] = refl
all_handed (x ∷ xs) = ap₂ ◌∷◌ (handed_over x) (all_handed xs)

all_back : (cs : List Call) (xs : List Item) → map token_of_call cs ≡ map whole xs → cs ≡ map hand_over xs
all_back [] [] e = refl
all_back [] (x ∷ xs) e = let z : ◌≡◌ {A = ℕ} 0 1 = cc in absurd (omega arith)
all_back (c ∷ cs) [] e = let z : ◌≡◌ {A = ℕ} 0 1 = cc in absurd (omega arith)
all_back (c ∷ cs) (x ∷ xs) e = ap₂ ◌∷◌ (handed_back c x (cc)) (all_back cs xs (cc))

-- ---- all answers of a frame

-- what is told of the items from ordinal n on
unfoldable tell_from : List Item → ℕ → List Item → List ItemAnswer
tell_from all n [] = []
tell_from all n (x ∷ xs) = item_answer_of (index_of all n) x (index_of all (suc n)) ∷ tell_from all (suc n) xs

tell_long : (all : List Item) (n : ℕ) (xs : List Item) → length (tell_from all n xs) ≡ length xs
unfolding tell_from
tell_long all n [] = refl
tell_long all n (x ∷ xs) = ap suc (tell_long all (suc n) xs)

tell_words : (all : List Item) (n : ℕ) (xs : List Item) → all_answer_words (tell_from all n xs) ≡ all_words xs
unfolding tell_from all_answer_words all_words
tell_words all n [] = refl
tell_words all n (x ∷ xs) = ap₂ ◌++◌ (told_words (index_of all n) x (index_of all (suc n))) (tell_words all (suc n) xs)

tell_calls : (all : List Item) (n : ℕ) (xs : List Item) → map call_of (tell_from all n xs) ≡ map hand_over xs
unfolding tell_from
tell_calls all n [] = refl
tell_calls all n (x ∷ xs) = ap (λ (cs : List Call). hand_over x ∷ cs) (tell_calls all (suc n) xs)

one_more : (p : List Item) (x : Item) (xs : List Item) → (p ++ (x ∷ [])) ++ xs ≡ p ++ (x ∷ xs)
one_more p x xs = append_assoc p (x ∷ []) xs

longer : (p : List Item) (x : Item) (n : ℕ) → length p ≡ n → length (p ++ (x ∷ [])) ≡ suc n
longer p x n e = omega (arith, length-append p (x ∷ []))

module _ (x y : ItemAnswer) (xs ys : List ItemAnswer) (e : x ∷ xs ≡ y ∷ ys) where
  first_told : x ≡ y
  first_told = cc

  later_told : xs ≡ ys
  later_told = cc

-- each answer ends where the items before it and its own words do
tell_next : (all ys p : List Item) (n : ℕ) → all ≡ p ++ ys → length p ≡ n → (before after : List ItemAnswer) (x : ItemAnswer) → tell_from all n ys ≡ before ++ (x ∷ after)
    → x.answer.next ≡ 3 + length (all_words p) + length (all_answer_words (before ++ (x ∷ [])))
unfolding tell_from all_answer_words all_words
tell_next all [] p n e h [] after x q = let z : ◌≡◌ {A = ℕ} 0 1 = cc in absurd (omega arith)
tell_next all [] p n e h (b ∷ before) after x q = let z : ◌≡◌ {A = ℕ} 0 1 = cc in absurd (omega arith)
tell_next all (y ∷ ys) p n e h [] after x q =
    let i : x ≡ item_answer_of (index_of all n) y (index_of all (suc n)) = sym (first_told _ x _ after q) in
    let k : x.answer.next ≡ index_of all (suc n) = ap (λ (t : ItemAnswer). t.answer.next) i in
    let t : take (suc n) all ≡ p ++ (y ∷ []) = ap (take (suc n)) (e ∙ sym (one_more p y ys)) ∙ take_at (p ++ (y ∷ [])) ys (suc n) (longer p y n h) in
    let u : length (all_words (take (suc n) all)) ≡ length (all_words p ++ (words_of y ++ [])) = ap (λ (l : List Item). length (all_words l)) t ∙ ap length (all_words_lem p (y ∷ [])) in
    let v : length (answer_words x ++ []) ≡ length (words_of y ++ []) = ap (λ (t : ItemAnswer). length (answer_words t ++ [])) i ∙ ap (λ (l : List ℕ). length (l ++ [])) (told_words (index_of all n) y (index_of all (suc n))) in
    omega (arith, length-append (all_words p) (words_of y ++ []))
tell_next all (y ∷ ys) p n e h (b ∷ before) after x q =
    let i : b ≡ item_answer_of (index_of all n) y (index_of all (suc n)) = sym (first_told _ b _ (before ++ (x ∷ after)) q) in
    let r = tell_next all ys (p ++ (y ∷ [])) (suc n) (e ∙ sym (one_more p y ys)) (longer p y n h) before after x (later_told _ b _ (before ++ (x ∷ after)) q) in
    let u : length (all_words (p ++ (y ∷ []))) ≡ length (all_words p ++ (words_of y ++ [])) = ap length (all_words_lem p (y ∷ [])) in
    let v : length (answer_words b) ≡ length (words_of y) = ap (λ (t : ItemAnswer). length (answer_words t)) i ∙ ap length (told_words (index_of all n) y (index_of all (suc n))) in
    omega (arith, length-append (all_words p) (words_of y ++ []), length-append (words_of y) [], length-append (answer_words b) (all_answer_words (before ++ (x ∷ []))))

-- and begins where those before it end
tell_index : (all ys p : List Item) (n : ℕ) → all ≡ p ++ ys → length p ≡ n → (before after : List ItemAnswer) (x : ItemAnswer) → tell_from all n ys ≡ before ++ (x ∷ after)
    → x.answer.index ≡ 3 + length (all_words p) + length (all_answer_words before)
unfolding tell_from all_answer_words all_words
tell_index all [] p n e h [] after x q = let z : ◌≡◌ {A = ℕ} 0 1 = cc in absurd (omega arith)
tell_index all [] p n e h (b ∷ before) after x q = let z : ◌≡◌ {A = ℕ} 0 1 = cc in absurd (omega arith)
tell_index all (y ∷ ys) p n e h [] after x q =
    let i : x ≡ item_answer_of (index_of all n) y (index_of all (suc n)) = sym (first_told _ x _ after q) in
    let k : x.answer.index ≡ index_of all n = ap (λ (t : ItemAnswer). t.answer.index) i in
    let t : take n all ≡ p = ap (take n) e ∙ take_at p (y ∷ ys) n h in
    let u : length (all_words (take n all)) ≡ length (all_words p) = ap (λ (l : List Item). length (all_words l)) t in
    omega arith
tell_index all (y ∷ ys) p n e h (b ∷ before) after x q =
    let i : b ≡ item_answer_of (index_of all n) y (index_of all (suc n)) = sym (first_told _ b _ (before ++ (x ∷ after)) q) in
    let r = tell_index all ys (p ++ (y ∷ [])) (suc n) (e ∙ sym (one_more p y ys)) (longer p y n h) before after x (later_told _ b _ (before ++ (x ∷ after)) q) in
    let u : length (all_words (p ++ (y ∷ []))) ≡ length (all_words p ++ (words_of y ++ [])) = ap length (all_words_lem p (y ∷ [])) in
    let v : length (answer_words b) ≡ length (words_of y) = ap (λ (t : ItemAnswer). length (answer_words t)) i ∙ ap length (told_words (index_of all n) y (index_of all (suc n))) in
    omega (arith, length-append (all_words p) (words_of y ++ []), length-append (words_of y) [], length-append (answer_words b) (all_answer_words before))

-- two callers are told the same
pub told_once : {s : List ℕ} {n : ℕ} {xs ys : List ItemAnswer} → Answers s n xs → Answers s n ys → length xs ≡ length ys → xs ≡ ys
told_once no_more no_more h = refl
told_once no_more (then a b k) h = absurd (omega arith)
told_once (then a b k) no_more h = absurd (omega arith)
told_once (then {x = x} a b k) (then {x = y} c d l) h =
    let i : x.answer ≡ y.answer = same_answer x.answer y.answer (sym a ∙ c) in
    let j : x.text ≡ y.text = sym b ∙ d in
    ap₂ ◌∷◌ (λ i'. record { answer = i i'; text = j i' }) (told_once k l (omega arith))
  where
    same_answer : (a b : IndexedShown) → accepted a ≡ accepted b → a ≡ b
    same_answer a b e = cc

-- ---- T10

pub shown_refused : (s : List ℕ) (k p : ℕ) → verdict s ≡ refused k p → (n : ℕ) → shown_at s n ≡ refused k p
unfolding shown_at
shown_refused s k p v n = rw (item_refused s k p v n)

module _ (s : List ℕ) (f : Frame) (v : verdict s ≡ accepted f) where
  pub shown_there : (n : ℕ) (x : Item) → ItemIs f.items n x → shown_at s n ≡ accepted (record { index = index_of f.items n; item = shown x; next = index_of f.items (suc n) })
  unfolding shown_at
  shown_there n x h = rw (item_there s f v n x h)

  pub shown_past : (n : ℕ) → length f.items ≤ n → shown_at s n ≡ refused 13 0
  unfolding shown_at
  shown_past n h = rw (item_past s f v n h)

  -- every item is answered
  answered_from : (ys p : List Item) (n : ℕ) → f.items ≡ p ++ ys → length p ≡ n → Answers s n (tell_from f.items n ys)
  unfolding tell_from
  answered_from [] p n e h = no_more
  answered_from (y ∷ ys) p n e h =
      let i : ItemIs f.items n y = record { before = p; after = ys; items = e; ordinal = h } in
      then (shown_there n y i) (text_of s f v n y i) (answered_from ys (p ++ (y ∷ [])) (suc n) (e ∙ sym (one_more p y ys)) (longer p y n h))

  answered : Answers s 0 (tell_from f.items 0 f.items)
  answered = answered_from f.items [] 0 refl refl

  answers_are : (xs : List ItemAnswer) → Answers s 0 xs → length xs ≡ length f.items → xs ≡ tell_from f.items 0 f.items
  answers_are xs a h = told_once a answered (h ∙ sym (tell_long f.items 0 f.items))

  -- each of them
  item_shown : (n : ℕ) → n < length f.items → (x : IndexedShown) × (shown_at s n ≡ accepted x)
  item_shown n h =
      let (x, i) = item_stands n f.items h in
      (record { index = index_of f.items n; item = shown x; next = index_of f.items (suc n) }, shown_there n x i)

-- a frame that `read` accepts, and the frame that it stands for
record Seen (s : List ℕ) (o : Overview) : Type 0 where
  pub frame : Frame
  pub judged : verdict s ≡ accepted frame
  pub seen : overview frame ≡ o

seen : (s : List ℕ) (o : Overview) → read_of s ≡ accepted o → Seen s o
unfolding read_of
seen s o e = go (verdict s) refl
  where
    same : (a b : Overview) → accepted a ≡ accepted b → a ≡ b
    same a b e = cc

    go : (v : Outcome Frame) → verdict s ≡ v → Seen s o
    go (accepted f) v = record { frame = f; judged = v; seen = same _ o (sym (rw v) ∙ e) }
    go (refused k p) v = let q : refused k p ≡ accepted o = sym (rw v) ∙ e in let z : ◌≡◌ {A = ℕ} 0 1 = cc in absurd (omega arith)

read_of_lem : (s : List ℕ) (f : Frame) → verdict s ≡ accepted f → read_of s ≡ accepted (overview f)
unfolding read_of
read_of_lem s f v = rw v

refused_too : (s : List ℕ) (n p : ℕ) → verdict s ≡ refused n p → read_of s ≡ refused n p
unfolding read_of
refused_too s n p v = rw v

refused_by : (s : List ℕ) (n p : ℕ) → read_of s ≡ refused n p → verdict s ≡ refused n p
refused_by s n p e = go (verdict s) refl
  where
    go : (v : Outcome Frame) → verdict s ≡ v → verdict s ≡ refused n p
    go (accepted f) v =
        let q : accepted (overview f) ≡ refused n p = sym (read_of_lem s f v) ∙ e in
        let z : ◌≡◌ {A = ℕ} 0 1 = cc in absurd (omega arith)
    go (refused m q) v = v ∙ (let i : ◌≡◌ {A = Outcome Overview} (refused m q) (refused n p) = sym (refused_too s m q v) ∙ e in cc)

-- T5 and T7 of what `read` answers
module _ (s : List ℕ) (bs : Bytes s) where
  pub read_exactly : (o : Overview) → (read_of s ≡ accepted o) ↔ StandsFor s o
  read_exactly o = (there, back)
    where
      there : read_of s ≡ accepted o → StandsFor s o
      there e =
          let f = seen s o e in
          let (l, q) = sound s bs f.frame f.judged in
          record { frame = f.frame; legal = l; written = q; overview_is = sym f.seen }

      back : StandsFor s o → read_of s ≡ accepted o
      back a = read_of_lem s a.frame ((exactly s bs a.frame).1 (a.legal, a.written)) ∙ ap accepted (sym a.overview_is)

  pub read_refused : (n p : ℕ) → (read_of s ≡ refused n p) ↔ Refused s n p
  read_refused n p = (λ e. (refusals s bs n p).0 (refused_by s n p e), λ h. refused_too s n p ((refusals s bs n p).1 h))

  -- and the answers are those of the one list of items
  pub its_items : (o : Overview) (a : StandsFor s o) (xs : List ItemAnswer) → Answers s 0 xs → length xs ≡ o.items → map call_of xs ≡ map hand_over a.frame.items
  its_items o a xs k h =
      let f = a.frame in
      let c : o.items ≡ length f.items = ap (λ (o : Overview). o.items) a.overview_is in
      ap (map call_of) (answers_are s f ((exactly s bs f).1 (a.legal, a.written)) xs k (h ∙ c)) ∙ tell_calls f.items 0 f.items

module _ (s : List ℕ) (o : Overview) (r : read_of s ≡ accepted o) where
  pub all_answered : (xs : List ItemAnswer) × Answers s 0 xs × (length xs ≡ o.items)
  all_answered =
      let f = seen s o r in
      (tell_from f.frame.items 0 f.frame.items, answered s f.frame f.judged, tell_long f.frame.items 0 f.frame.items ∙ ap (λ (o : Overview). o.items) f.seen)

  pub each_answered : (n : ℕ) → n < o.items → (x : IndexedShown) × (shown_at s n ≡ accepted x)
  each_answered n h =
      let f = seen s o r in
      let c : length f.frame.items ≡ o.items = ap (λ (o : Overview). o.items) f.seen in
      item_shown s f.frame f.judged n (omega arith)

  pub no_further : (n : ℕ) → o.items ≤ n → shown_at s n ≡ refused 13 0
  no_further n h =
      let f = seen s o r in
      let c : length f.frame.items ≡ o.items = ap (λ (o : Overview). o.items) f.seen in
      shown_past s f.frame f.judged n (omega arith)

  module _ (xs : List ItemAnswer) (a : Answers s 0 xs) (h : length xs ≡ o.items) where
    -- the answers are those of the frame that the bytes stand for
    answers_of : xs ≡ tell_from (seen s o r).frame.items 0 (seen s o r).frame.items
    answers_of =
        let f = seen s o r in
        answers_are s f.frame f.judged xs a (h ∙ sym (ap (λ (o : Overview). o.items) f.seen))

    pub told_next : (before after : List ItemAnswer) (x : ItemAnswer) → xs ≡ before ++ (x ∷ after) → x.answer.next ≡ 3 + length (all_answer_words (before ++ (x ∷ [])))
    unfolding all_words
    told_next before after x q =
        let f = seen s o r in
        tell_next f.frame.items f.frame.items [] 0 refl refl before after x (sym answers_of ∙ q)

    pub told_index : (before after : List ItemAnswer) (x : ItemAnswer) → xs ≡ before ++ (x ∷ after) → x.answer.index ≡ 3 + length (all_answer_words before)
    unfolding all_words
    told_index before after x q =
        let f = seen s o r in
        tell_index f.frame.items f.frame.items [] 0 refl refl before after x (sym answers_of ∙ q)

    -- nothing in the frame goes untold
    pub all_told : Bytes s → s ≡ bytes (frame_told (length s) o xs)
    unfolding encode frame_words
    all_told bs =
        let f = seen s o r in
        let q : s ≡ encode f.frame = (sound s bs f.frame f.judged).1 in
        let n : length s ≡ 2 * (4 + length (all_words f.frame.items)) = ap length q ∙ size f.frame in
        let w : all_answer_words xs ≡ all_words f.frame.items = ap all_answer_words answers_of ∙ tell_words f.frame.items 0 f.frame.items in
        q ∙ ap₂ (λ (o : Overview) (l : List ℕ). bytes (start_word o.kind o.card ∷ (2 * (4 + length (all_words f.frame.items))) ∷ o.sequence ∷ (l ++ (0x000F ∷ [])))) f.seen (sym w)
        ∙ ap (λ (n : ℕ). bytes (frame_told n o xs)) (sym n)
      where
        size : (f : Frame) → length (encode f) ≡ 2 * (4 + length (all_words f.items))
        size f = omega (arith, encode_length f)

    -- T20
    pub copied : Bytes s → (buf : List ℕ) → length s ≤ length buf
        → write_calls buf o.kind o.card o.sequence (map call_of xs) ≡ calls_done (accepted (length s)) (s ++ drop (length s) buf)
    copied bs buf l =
        let f = seen s o r in
        let c : map token_of_call (map call_of xs) ≡ map whole f.frame.items =
        ap (map token_of_call) (ap (map call_of) answers_of ∙ tell_calls f.frame.items 0 f.frame.items) ∙ all_handed f.frame.items in
        ap₂ (λ (o : Overview) (ts : List Token). write_all buf o.kind o.card o.sequence ts) (sym f.seen) c
        ∙ rewritten s bs f.frame f.judged buf l

-- ---- T18, T18b, T19

pub calls_written : (f : Frame) → Legal f → (buf : List ℕ) → length (encode f) ≤ length buf
    → write_calls buf f.kind f.card f.sequence (map hand_over f.items) ≡ calls_done (accepted (length (encode f))) (encode f ++ drop (length (encode f)) buf)
calls_written f l buf h = ap (write_all buf f.kind f.card f.sequence) (all_handed f.items) ∙ written f l buf h

pub calls_too_short : (f : Frame) → f.card ≤ 31 → f.sequence ≤ 0x0100 → Sound f.kind f.card [] f.items → (buf : List ℕ)
    → (length buf < length (encode f)) ⊎ (8192 < length (encode f)) → (write_calls buf f.kind f.card f.sequence (map hand_over f.items)).answer ≡ refused 12 0
calls_too_short f c q l buf h =
    ap (λ (ts : List Token). (write_all buf f.kind f.card f.sequence ts).answer) (all_handed f.items) ∙ too_short f c q l buf h

pub calls_wrote : (buf : List ℕ) (kind : Kind) (card sequence : ℕ) (cs : List Call) (m : ℕ) (left : List ℕ)
    → write_calls buf kind card sequence cs ≡ calls_done (accepted m) left → CallsWrote buf kind card sequence cs m left
unfolding read_of
calls_wrote buf kind card sequence cs m left e =
    let w = writing_done buf kind card sequence (map token_of_call cs) m left e in
    let f : Frame = record { kind = kind; card = card; sequence = sequence; items = w.items } in
    let c : cs ≡ map hand_over w.items = all_back cs w.items w.added in
    record {
      items = w.items;
      handed = c;
      holds = w.holds;
      read = rw w.reads;
      answers = tell_from w.items 0 w.items;
      answered = answered (take m left) f w.reads;
      counted = tell_long w.items 0 w.items ∙ sym (ap length c ∙ length-map w.items hand_over);
      same = tell_calls w.items 0 w.items ∙ sym c;
    }
