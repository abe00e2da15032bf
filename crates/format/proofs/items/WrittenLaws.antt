-- What follows from reading back what was written: an item's words are its own, as many as its first word says, and its first word is its
-- class's prefix with its content.
-- Assumes nothing.
use Prim.Native.Nat.{ℕ, ◌+◌, ◌-◌, ◌%◌, ◌<◌}
use mathlib.Core.Path.{◌≡◌, refl, sym, ap, ◌∙◌}
use mathlib.Core.List.{List, [], ◌∷◌, ◌++◌, append-nil, append_cancel_left}
use mathlib.Core.Bool.{Bool, true, ◌&&◌}
use mathlib.Core.Option.{Option, none, some}
use native.Mathlib.Omega.{arith}
use lib.Dec.{leb, ltb, eqb}
use lib.Pow.{are_bytes}
use lib.ListN.{length, get_or, take, drop, length-drop}
use lib.Seq.{take_all}
use borrow.Author.Tests.{leb-true}
use Rattle.format.specs.Words.{words, bytes, long_of, long_words, time_words, non_zero}
use Rattle.format.specs.Book.{Class, channel, histogram, hit_count, sample, bin, last_cell, time_bin, data_frame, monitor_frame, command_frame, text, start_event, continue_event, end_event, frame_end, unassigned, class_of, after, nth}
use Rattle.format.specs.Items.{ItemOf, Item, Channel, Histogram, HitCount, Sample, Bin, LastCell, TimeBin, Text, StartEvent, ContinueEvent, EndEvent, class_for, words_of, fits, closed, decode, Token, whole, token_of, tokens}
use Rattle.format.specs.Fields.{cut, Fit, widths, content, row_for, later_words, first_word}
use Rattle.format.proofs.book.PrefixLaws.{and_left, and_right}
use Rattle.format.proofs.items.WordLaws.{pick_elim}
use Rattle.format.proofs.items.ItemLaws.{Written, read_written, written_read, token_passed, tokens_skip}
use Rattle.format.proofs.book.FieldLaws.{cut_packed}

pub row_class : {T : Type 0} (x : ItemOf T) → (nth (row_for x)).class ≡ class_for x
row_class (Channel a b c) = refl
row_class (Histogram a b c) = refl
row_class (HitCount a b c) = refl
row_class (Sample v) = refl
row_class (Bin b n) = refl
row_class (LastCell a b) = refl
row_class (TimeBin t) = refl
row_class (Text s) = refl
row_class (StartEvent t ts n) = refl
row_class (ContinueEvent n) = refl
row_class (EndEvent n) = refl

-- T3, put in: the first word is the prefix of the item's row with its content below it
pub first_word_lem : (x : Item) → words_of x ≡ first_word x ∷ later_words x
unfolding words_of
first_word_lem (Channel a b c) = ap (λ (w : ℕ). w ∷ []) (omega arith)
first_word_lem (Histogram a b c) = ap (λ (w : ℕ). w ∷ []) (omega arith)
first_word_lem (HitCount a b c) = ap (λ (w : ℕ). w ∷ []) (omega arith)
first_word_lem (Sample v) = ap (λ (w : ℕ). w ∷ []) (omega arith)
first_word_lem (Bin b n) = ap (λ (w : ℕ). w ∷ long_words n) (omega arith)
first_word_lem (LastCell a b) = ap (λ (w : ℕ). w ∷ []) (omega arith)
first_word_lem (TimeBin t) = ap (λ (w : ℕ). w ∷ []) (omega arith)
first_word_lem (Text s) = ap (λ (w : ℕ). w ∷ words (s ++ (0 ∷ []))) (omega arith)
first_word_lem (StartEvent t ts n) = ap (λ (w : ℕ). w ∷ (time_words ts ++ long_words n)) (omega arith)
first_word_lem (ContinueEvent n) = refl
first_word_lem (EndEvent n) = refl

-- three tests in a row
three_tests : (p q r : Bool) → p && q && r ≡ true → (p ≡ true) × (q ≡ true) × (r ≡ true)
three_tests p q r e =
    let f = and_left (p && q) r e in
    (and_left p q f, and_right p q f, and_right (p && q) r e)

three_fit : (a b c : ℕ) → leb a 31 && leb b 3 && leb c 127 ≡ true → Fit (5 ∷ 2 ∷ 7 ∷ []) (a ∷ b ∷ c ∷ [])
three_fit a b c f =
    let (p, q, r) = three_tests (leb a 31) (leb b 3) (leb c 127) f in
    let h = leb-true a 31 p in
    let k = leb-true b 3 q in
    let l = leb-true c 127 r in
    (omega arith, (omega arith, (omega arith, tt)))

-- an item that fits has a content that fits its fields
pub content_fit : (x : Item) → fits x ≡ true → Fit (widths (class_for x)) (content x)
content_fit (Channel a b c) f = three_fit a b c f
content_fit (Histogram a b c) f = three_fit a b c f
content_fit (HitCount a b c) f = three_fit a b c f
content_fit (Sample v) f = let h = leb-true v 4095 f in (omega arith, tt)
content_fit (Bin b n) f = let h = leb-true b 4095 (and_left (leb b 4095) (ltb n 4294967296) f) in (omega arith, tt)
content_fit (LastCell a b) f =
    let h = leb-true a 3 (and_left (leb a 3) (leb b 511) f) in
    let k = leb-true b 511 (and_right (leb a 3) (leb b 511) f) in
    (omega arith, (omega arith, tt))
content_fit (TimeBin t) f = let h = leb-true t 511 f in (omega arith, tt)
content_fit (Text s) f =
    let h = leb-true (length s) 254 (three_tests (leb (length s) 254) (non_zero s) (are_bytes s) f).0 in
    (omega arith, tt)
content_fit (StartEvent t ts n) f =
    let h = leb-true t 15 (three_tests (leb t 15) (leb ts 281474976710655) (ltb n 4294967296) f).0 in
    (omega arith, tt)
content_fit (ContinueEvent n) f = (omega arith, tt)
content_fit (EndEvent n) f = (omega arith, tt)

-- T3, cut out: the fields cut from an item's first word are its content
pub content_cut : (x : Item) → fits x ≡ true → cut (widths (class_for x)) (first_word x) ≡ content x
content_cut x f = cut_packed (widths (class_for x)) (nth (row_for x)).prefix (content x) (content_fit x f)

-- OWN WORDS

same_whole : (x y : Item) (a b : List Token) → whole x ∷ a ≡ whole y ∷ b → x ≡ y
same_whole x y a b e = cc

-- T4, prefix-free: of two items whose words begin one list neither begins the other, unless they are one
pub words_prefix_free : (x y : Item) (a b : List ℕ) → fits x ≡ true → fits y ≡ true → words_of x ++ a ≡ words_of y ++ b → (x ≡ y) × (a ≡ b)
words_prefix_free x y a b f g e =
    let i = same_whole x y _ _ (sym (read_written x a f) ∙ ap (tokens 0) e ∙ read_written y b g) in
    (i, append_cancel_left (words_of x) a b (e ∙ ap (λ (z : Item). words_of z ++ b) (sym i)))

-- T4, injective
pub words_injective : (x y : Item) → fits x ≡ true → fits y ≡ true → words_of x ≡ words_of y → x ≡ y
words_injective x y f g e = (words_prefix_free x y [] [] f g (ap (λ (l : List ℕ). l ++ []) e)).0

-- COUNT

some_item : (x y : Item) → some x ≡ some y → x ≡ y
some_item x y e = cc

-- what is read of a class is an item of that class
abbrev OfClass : Class → Option Item → Type 0
OfClass c o = (x : Item) → o ≡ some x → class_for x ≡ c

of_item : (c : Class) (y : Item) → class_for y ≡ c → OfClass c (some y)
of_item c y k x e = ap class_for (sym (some_item y x e)) ∙ k

of_none : (c : Class) → OfClass c none
of_none c x e = let z : ◌≡◌ {A = ℕ} 0 1 = cc in absurd (omega arith)

pub decode_class : (c : Class) (w : ℕ) (ws : List ℕ) → OfClass c (decode c w ws)
unfolding decode
decode_class channel w ws = of_item channel _ refl
decode_class histogram w ws = of_item histogram _ refl
decode_class hit_count w ws = of_item hit_count _ refl
decode_class sample w ws = of_item sample _ refl
decode_class bin w ws = of_item bin _ refl
decode_class last_cell w ws = of_item last_cell _ refl
decode_class time_bin w ws = of_item time_bin _ refl
decode_class data_frame w ws = of_none data_frame
decode_class monitor_frame w ws = of_none monitor_frame
decode_class command_frame w ws = of_none command_frame
decode_class text w ws = pick_elim (OfClass text) (closed (w % 256) (bytes ws)) (λ t. of_item text (Text (take (w % 256 - 1) (bytes ws))) refl) (λ t. of_none text)
decode_class start_event w ws = of_item start_event _ refl
decode_class continue_event w ws = pick_elim (OfClass continue_event) (eqb (w % 512) 0) (λ t. of_item continue_event (ContinueEvent (long_of ws)) refl) (λ t. of_none continue_event)
decode_class end_event w ws = pick_elim (OfClass end_event) (eqb (w % 16) 0) (λ t. of_item end_event (EndEvent (long_of ws)) refl) (λ t. of_none end_event)
decode_class frame_end w ws = of_none frame_end
decode_class unassigned w ws = of_none unassigned

head_token : (t : Token) (x : Item) (ts : List Token) → t ∷ ts ≡ whole x ∷ [] → t ≡ whole x
head_token t x ts e = cc

tail_token : (t : Token) (x : Item) (ts : List Token) → t ∷ ts ≡ whole x ∷ [] → ts ≡ []
tail_token t x ts e = cc

no_tokens : (ws : List ℕ) → tokens 0 ws ≡ [] → length ws ≡ 0
unfolding tokens
no_tokens [] e = refl
no_tokens (w ∷ ws) e = let z : ◌≡◌ {A = ℕ} 0 1 = cc in absurd (omega arith)

-- an item's first word is of its class, and the words after it are as many as the class and the word say
pub written : (x : Item) → fits x ≡ true → Written x (first_word x) (later_words x)
unfolding tokens
written x f =
    let w = first_word x in
    let ws = later_words x in
    let t : tokens 0 (w ∷ ws) ≡ whole x ∷ [] = ap (tokens 0) (sym (first_word_lem x) ∙ sym (append-nil (words_of x))) ∙ read_written x [] f in
    let p = token_passed w ws x (head_token _ x _ t) in
    let n = after (class_of w) w in
    let d : length (drop n ws) ≡ 0 = no_tokens (drop n ws) (sym (tokens_skip n ws) ∙ tail_token _ x _ t) in
    let m : n ≡ length ws = omega (arith, p.there, length-drop n ws) in
    let r : decode (class_of w) w ws ≡ some x = ap (decode (class_of w) w) (sym (take_all n ws (omega arith))) ∙ p.read in
    let c : class_of w ≡ class_for x = sym (decode_class (class_of w) w ws x r) in
    record {
      words = first_word_lem x;
      class = c;
      count = ap (λ (c : Class). after c w) (sym c) ∙ m;
      read = ap (λ (c : Class). decode c w ws) (sym c) ∙ r;
    }

-- an item has one word and those after it
pub words_count : (x : Item) → fits x ≡ true → length (words_of x) ≡ 1 + after (class_for x) (first_word x)
words_count x f = let h = written x f in ap length h.words ∙ omega (arith, h.count)

-- READ: what is read at a word has the content that is cut from the word

head_word : (w v : ℕ) (ws vs : List ℕ) → w ∷ ws ≡ v ∷ vs → w ≡ v
head_word w v ws vs e = cc

pub read_first : (w : ℕ) (ws : List ℕ) (x : Item) → ((i : ℕ) → get_or ws i 0 < 65536) → token_of w ws ≡ whole x → w ≡ first_word x
read_first w ws x b e = head_word w (first_word x) _ _ ((written_read w ws x b e).words ∙ first_word_lem x)

pub read_content : (w : ℕ) (ws : List ℕ) (x : Item) → ((i : ℕ) → get_or ws i 0 < 65536) → token_of w ws ≡ whole x → cut (widths (class_for x)) w ≡ content x
read_content w ws x b e = ap (cut (widths (class_for x))) (read_first w ws x b e) ∙ content_cut x (written_read w ws x b e).fits
