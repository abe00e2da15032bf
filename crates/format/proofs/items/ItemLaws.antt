-- T3 and T4. A content that fits its fields goes into its words and comes out again, and a word is that of its class and content; one item
-- read back from its words is itself, and words read as an item are that item's words.
-- Assumes nothing.
use Prim.Native.Nat.{ℕ, zero, suc, ◌+◌, ◌-◌, ◌*◌, ◌/◌, ◌%◌, ◌<◌, ◌≤◌}
use mathlib.Core.Path.{◌≡◌, refl, sym, ap, ap₂, subst, ◌∙◌}
use mathlib.Core.List.{List, [], ◌∷◌, ◌++◌}
use mathlib.Core.Bool.{Bool, true, false, ◌&&◌}
use mathlib.Core.Option.{Option, none, some}
use native.Mathlib.Omega.{arith}
use lib.Dec.{leb, ltb, lit<}
use lib.Pow.{are_bytes, mod-pow-add}
use lib.ListN.{length, get_or, take, drop, length-append, length-drop, take-append-drop}
use lib.Seq.{take_at, drop_at, length-take-le}
use borrow.Author.Tests.{leb-true, eqb-true, le-leb, lt-ltb}
use Rattle.format.specs.Words.{pick, words, bytes, long_of, time_of, long_words, time_words, non_zero}
use Rattle.format.specs.Book.{Class, channel, histogram, hit_count, sample, bin, last_cell, time_bin, data_frame, monitor_frame, command_frame, text, start_event, continue_event, end_event, frame_end, unassigned, class_of, after, assigned}
use Rattle.format.specs.Items.{ItemOf, Item, Channel, Histogram, HitCount, Sample, Bin, LastCell, TimeBin, Text, StartEvent, ContinueEvent, EndEvent, class_for, header_bits, words_of, fits, decode, Token, whole, flawed, token_for, token_of, tokens}
use Rattle.format.specs.Fields.{Read}
use Rattle.format.proofs.book.PrefixLaws.{and_left, and_right, and_both}
use Rattle.format.proofs.book.BookLaws.{ranged, in_range}
use Rattle.format.proofs.items.WordLaws.{length_words, bytes_below, long_there, long_back, long_below, time_there, time_back, time_below, below_drop, below_take}
use Rattle.format.proofs.items.TextLaws.{are_bytes_lem, bytes_are, text_there, text_back}

-- three fields of a word below its head: card 5, chip 2, and 7 bits
three_there : (h a b c : ℕ) → h % 16384 ≡ 0 → leb a 31 && leb b 3 && leb c 127 ≡ true
    → (((h + header_bits a b c) / 512 % 32 ≡ a) × ((h + header_bits a b c) / 128 % 4 ≡ b)) × (((h + header_bits a b c) % 128 ≡ c) × (header_bits a b c < 16384))
three_there h a b c e f =
    let g = and_left (leb a 31 && leb b 3) (leb c 127) f in
    let p : a ≤ 31 = leb-true a 31 (and_left (leb a 31) (leb b 3) g) in
    let q : b ≤ 3 = leb-true b 3 (and_right (leb a 31) (leb b 3) g) in
    let r : c ≤ 127 = leb-true c 127 (and_right (leb a 31 && leb b 3) (leb c 127) f) in
    ((omega arith, omega arith), (omega arith, omega arith))

-- the parts of 14 bits, apart from the word that they come from, so that omega has few quotients at a time
three_parts : (w h m n a b c : ℕ) → w ≡ h + m → m ≡ a * 512 + n → n ≡ b * 128 + c → w ≡ h + header_bits a b c
three_parts w h m n a b c e f g = omega arith

three_back : (h w : ℕ) → h ≤ w → w < h + 16384 → h % 16384 ≡ 0 → w ≡ h + header_bits (w / 512 % 32) (w / 128 % 4) (w % 128)
three_back h w p q e = three_parts w h (w % 16384) (w % 512) (w / 512 % 32) (w / 128 % 4) (w % 128) (omega arith) (mod-pow-add w 5 9) (mod-pow-add w 2 7)

three_fits : (w : ℕ) → leb (w / 512 % 32) 31 && leb (w / 128 % 4) 3 && leb (w % 128) 127 ≡ true
three_fits w =
    and_both _ _ (and_both _ _ (le-leb (w / 512 % 32) 31 (omega arith)) (le-leb (w / 128 % 4) 3 (omega arith))) (le-leb (w % 128) 127 (omega arith))

-- what an item is written as: its first word, of its class, and the words after it, which are as many as the class and the word say
pub record Written (x : Item) (w : ℕ) (ws : List ℕ) : Type 0 where
  pub words : words_of x ≡ w ∷ ws
  pub class : class_of w ≡ class_for x
  pub count : after (class_for x) w ≡ length ws
  pub read : decode (class_for x) w ws ≡ some x

written : (x : Item) → fits x ≡ true → (w : ℕ) × (ws : List ℕ) × Written x w ws
unfolding words_of decode
written (Channel a b c) f =
    let ((p, q), (r, l)) = three_there 0xC000 a b c refl f in
    (0xC000 + header_bits a b c, [], record { words = refl; class = in_range _ 0 (lit< tt) (omega arith, omega arith); count = refl; read = rw (p, q, r) })
written (Histogram a b c) f =
    let ((p, q), (r, l)) = three_there 0x8000 a b c refl f in
    (0x8000 + header_bits a b c, [], record { words = refl; class = in_range _ 1 (lit< tt) (omega arith, omega arith); count = refl; read = rw (p, q, r) })
written (HitCount a b c) f =
    let ((p, q), (r, l)) = three_there 0x4000 a b c refl f in
    (0x4000 + header_bits a b c, [], record { words = refl; class = in_range _ 2 (lit< tt) (omega arith, omega arith); count = refl; read = rw (p, q, r) })
written (Sample v) f =
    let h : v ≤ 4095 = leb-true v 4095 f in
    let e : (0x3000 + v) % 4096 ≡ v = omega arith in
    (0x3000 + v, [], record { words = refl; class = in_range _ 3 (lit< tt) (omega arith, omega arith); count = refl; read = rw e })
written (Bin b n) f =
    let h : b ≤ 4095 = leb-true b 4095 (and_left (leb b 4095) (ltb n 4294967296) f) in
    let e : (0x2000 + b) % 4096 ≡ b = omega arith in
    (0x2000 + b, long_words n, record { words = refl; class = in_range _ 4 (lit< tt) (omega arith, omega arith); count = refl; read = ap₂ (λ (x y : ℕ). some (Bin x y)) e (long_there n []) })
written (LastCell a b) f =
    let h : a ≤ 3 = leb-true a 3 (and_left (leb a 3) (leb b 511) f) in
    let k : b ≤ 511 = leb-true b 511 (and_right (leb a 3) (leb b 511) f) in
    let e : (0x1800 + (a * 512 + b)) / 512 % 4 ≡ a = omega arith in
    let g : (0x1800 + (a * 512 + b)) % 512 ≡ b = omega arith in
    (0x1800 + (a * 512 + b), [], record { words = refl; class = in_range _ 5 (lit< tt) (omega arith, omega arith); count = refl; read = rw (e, g) })
written (TimeBin t) f =
    let h : t ≤ 511 = leb-true t 511 f in
    let e : (0x0E00 + t) % 512 ≡ t = omega arith in
    (0x0E00 + t, [], record { words = refl; class = in_range _ 6 (lit< tt) (omega arith, omega arith); count = refl; read = rw e })
written (Text s) f =
    let g = and_left (leb (length s) 254 && non_zero s) (are_bytes s) f in
    let h : length s ≤ 254 = leb-true (length s) 254 (and_left (leb (length s) 254) (non_zero s) g) in
    let e : (0x0100 + (length s + 1)) % 256 ≡ length s + 1 = omega arith in
    let k : length s + 1 - 1 ≡ length s = omega arith in
    let (c, t) = text_there s (and_right (leb (length s) 254) (non_zero s) g) (are_bytes_lem s (and_right (leb (length s) 254 && non_zero s) (are_bytes s) f)) in
    let n : (length s + 1 + 1) / 2 ≡ length (words (s ++ (0 ∷ []))) = sym (length_words (s ++ (0 ∷ [])) ∙ ap (λ (n : ℕ). (n + 1) / 2) (length-append s (0 ∷ []))) in
    (0x0100 + (length s + 1), words (s ++ (0 ∷ [])), record { words = refl; class = in_range _ 10 (lit< tt) (omega arith, omega arith); count = ap (λ (n : ℕ). (n + 1) / 2) e ∙ n; read = rw (e, c, k, t) })
written (StartEvent t ts n) f =
    let h : t ≤ 15 = leb-true t 15 (and_left (leb t 15) (leb ts 281474976710655) (and_left (leb t 15 && leb ts 281474976710655) (ltb n 4294967296) f)) in
    let e : (0x00F0 + t) % 16 ≡ t = omega arith in
    (0x00F0 + t, time_words ts ++ long_words n, record { words = refl; class = in_range _ 11 (lit< tt) (omega arith, omega arith); count = refl; read = rw e (ap₂ (λ (x y : ℕ). some (StartEvent t x y)) (time_there ts (long_words n)) (long_there n [])) })
written (ContinueEvent n) f = (0x0A00, long_words n, record { words = refl; class = in_range 0x0A00 14 (lit< tt) (omega arith, omega arith); count = refl; read = ap (λ (x : ℕ). some (ContinueEvent x)) (long_there n []) })
written (EndEvent n) f = (0x00E0, long_words n, record { words = refl; class = in_range 0x00E0 12 (lit< tt) (omega arith, omega arith); count = refl; read = ap (λ (x : ℕ). some (EndEvent x)) (long_there n []) })

-- the words that belong to an earlier item are passed over
pub tokens_skip : (k : ℕ) (ws : List ℕ) → tokens k ws ≡ tokens 0 (drop k ws)
unfolding tokens
tokens_skip zero ws = refl
tokens_skip (suc k) [] = refl
tokens_skip (suc k) (w ∷ ws) = tokens_skip k ws

-- the class of an item is an assigned one
pub item_assigned : {T : Type 0} (x : ItemOf T) → assigned (class_for x) ≡ true
item_assigned (Channel a b c) = refl
item_assigned (Histogram a b c) = refl
item_assigned (HitCount a b c) = refl
item_assigned (Sample v) = refl
item_assigned (Bin b n) = refl
item_assigned (LastCell a b) = refl
item_assigned (TimeBin t) = refl
item_assigned (Text s) = refl
item_assigned (StartEvent a b c) = refl
item_assigned (ContinueEvent n) = refl
item_assigned (EndEvent n) = refl

-- T4, there: an item that fits its fields, read back from its words, is itself, and the words behind it are read as if it were not there
pub read_written : (x : Item) (rest : List ℕ) → fits x ≡ true → tokens 0 (words_of x ++ rest) ≡ whole x ∷ tokens 0 rest
unfolding tokens token_of
read_written x rest f =
    let (w, ws, h) = written x f in
    let n : after (class_of w) w ≡ length ws = ap (λ (c : Class). after c w) h.class ∙ h.count in
    let a : assigned (class_of w) ≡ true = ap assigned h.class ∙ item_assigned x in
    rw (h.words, n, a, le-leb (length ws) (length (ws ++ rest)) (omega (arith, length-append ws rest)), take_at ws rest (length ws) refl, h.class, h.read, tokens_skip (length ws) (ws ++ rest), drop_at ws rest (length ws) refl)

some_item : (x y : Item) → some x ≡ some y → x ≡ y
some_item x y e = cc

-- an item is found only where the test before it holds
kept : (b : Bool) (o : Option Item) (x : Item) → pick b o none ≡ some x → (b ≡ true) × (o ≡ some x)
kept true o x e = (refl, e)
kept false o x e = let z : ◌≡◌ {A = ℕ} 0 1 = cc in absurd (omega arith)

no_item : {A : Type 0} (x : Item) → ◌≡◌ {A = Option Item} none (some x) → A
no_item x e = let z : ◌≡◌ {A = ℕ} 0 1 = cc in absurd (omega arith)

read_as : (w : ℕ) (ws : List ℕ) (y x : Item) → some y ≡ some x → w ∷ ws ≡ words_of y → fits y ≡ true → class_for y ≡ class_of w → Read w ws x
read_as w ws y x e p q r = subst (Read w ws) (some_item y x e) (record { words = p; fits = q; class = r })

alone : (w : ℕ) (ws : List ℕ) → length ws ≡ 0 → w ∷ ws ≡ w ∷ []
alone w [] e = refl
alone w (v ∷ ws) e = absurd (omega arith)

three_read : (h w : ℕ) (ws : List ℕ) → h ≤ w → w < h + 16384 → h % 16384 ≡ 0 → length ws ≡ 0 → w ∷ ws ≡ (h + header_bits (w / 512 % 32) (w / 128 % 4) (w % 128)) ∷ []
three_read h w ws p q e n = alone w ws n ∙ ap (λ (v : ℕ). v ∷ []) (three_back h w p q e)

one_read : (w v : ℕ) (ws : List ℕ) → w ≡ v → length ws ≡ 0 → w ∷ ws ≡ v ∷ []
one_read w v ws e n = alone w ws n ∙ ap (λ (v : ℕ). v ∷ []) e

decoded : (c : Class) (w : ℕ) (ws : List ℕ) (x : Item) → class_of w ≡ c → length ws ≡ after c w → ((i : ℕ) → get_or ws i 0 < 65536) → decode c w ws ≡ some x → Read w ws x
unfolding decode words_of
decoded channel w ws x k n b e =
    let (p, q) = ranged w channel k refl in
    read_as w ws _ x e (three_read 0xC000 w ws p (omega arith) refl n) (three_fits w) (sym k)
decoded histogram w ws x k n b e =
    let (p, q) = ranged w histogram k refl in
    read_as w ws _ x e (three_read 0x8000 w ws p (omega arith) refl n) (three_fits w) (sym k)
decoded hit_count w ws x k n b e =
    let (p, q) = ranged w hit_count k refl in
    read_as w ws _ x e (three_read 0x4000 w ws p (omega arith) refl n) (three_fits w) (sym k)
decoded sample w ws x k n b e =
    let (p, q) = ranged w sample k refl in
    read_as w ws _ x e (one_read w (0x3000 + w % 4096) ws (omega arith) n) (le-leb (w % 4096) 4095 (omega arith)) (sym k)
decoded bin w ws x k n b e =
    let (p, q) = ranged w bin k refl in
    let v : w ≡ 0x2000 + w % 4096 = omega arith in
    read_as w ws _ x e (ap₂ ◌∷◌ v (long_back ws n b)) (and_both _ _ (le-leb (w % 4096) 4095 (omega arith)) (lt-ltb (long_of ws) 4294967296 (long_below ws b))) (sym k)
decoded last_cell w ws x k n b e =
    let (p, q) = ranged w last_cell k refl in
    let v : w ≡ 0x1800 + (w / 512 % 4 * 512 + w % 512) = omega arith in
    read_as w ws _ x e (one_read w _ ws v n) (and_both _ _ (le-leb (w / 512 % 4) 3 (omega arith)) (le-leb (w % 512) 511 (omega arith))) (sym k)
decoded time_bin w ws x k n b e =
    let (p, q) = ranged w time_bin k refl in
    read_as w ws _ x e (one_read w (0x0E00 + w % 512) ws (omega arith) n) (le-leb (w % 512) 511 (omega arith)) (sym k)
decoded data_frame w ws x k n b e = no_item x e
decoded monitor_frame w ws x k n b e = no_item x e
decoded command_frame w ws x k n b e = no_item x e
decoded text w ws x k n b e =
    let (p, q) = ranged w text k refl in
    let (t, f) = kept _ _ x e in
    let r = text_back (w % 256) ws t n in
    let l = r.least in
    let g = r.long in
    let s = take (w % 256 - 1) (bytes ws) in
    let v : w ≡ 0x0100 + (length s + 1) = omega arith in
    read_as w ws (Text s) x f (ap₂ ◌∷◌ v r.written)
    (and_both _ _ (and_both _ _ (le-leb (length s) 254 (omega arith)) r.letters) (bytes_are s (below_take (w % 256 - 1) (bytes ws) 256 (omega arith) (bytes_below ws b)))) (sym k)
decoded start_event w ws x k n b e =
    let (p, q) = ranged w start_event k refl in
    let v : w ≡ 0x00F0 + w % 16 = omega arith in
    let t : take 3 ws ≡ time_words (time_of ws) = time_back (take 3 ws) (length-take-le 3 ws (omega arith)) (below_take 3 ws 65536 (omega arith) b) ∙ ap time_words (time_of_lem ws (omega arith)) in
    let d : drop 3 ws ≡ long_words (long_of (drop 3 ws)) = long_back (drop 3 ws) (length-drop 3 ws ∙ omega arith) (below_drop 3 ws 65536 b) in
    read_as w ws _ x e (ap₂ ◌∷◌ v (sym (take-append-drop 3 ws) ∙ ap₂ ◌++◌ t d))
    (and_both _ _ (and_both _ _ (le-leb (w % 16) 15 (omega arith)) (le-leb (time_of ws) 281474976710655 (omega (arith, time_below ws b)))) (lt-ltb (long_of (drop 3 ws)) 4294967296 (long_below (drop 3 ws) (below_drop 3 ws 65536 b)))) (sym k)
  where
    time_of_lem : (ws : List ℕ) → 3 ≤ length ws → time_of (take 3 ws) ≡ time_of ws
    time_of_lem [] h = absurd (omega arith)
    time_of_lem (a ∷ []) h = absurd (omega arith)
    time_of_lem (a ∷ b ∷ []) h = absurd (omega arith)
    time_of_lem (a ∷ b ∷ c ∷ l) h = refl
decoded continue_event w ws x k n b e =
    let (p, q) = ranged w continue_event k refl in
    let (t, f) = kept _ _ x e in
    let z : w % 512 ≡ 0 = eqb-true (w % 512) 0 t in
    let v : w ≡ 0x0A00 = omega arith in
    read_as w ws _ x f (ap₂ ◌∷◌ v (long_back ws n b)) (lt-ltb (long_of ws) 4294967296 (long_below ws b)) (sym k)
decoded end_event w ws x k n b e =
    let (p, q) = ranged w end_event k refl in
    let (t, f) = kept _ _ x e in
    let z : w % 16 ≡ 0 = eqb-true (w % 16) 0 t in
    let v : w ≡ 0x00E0 = omega arith in
    read_as w ws _ x f (ap₂ ◌∷◌ v (long_back ws n b)) (lt-ltb (long_of ws) 4294967296 (long_below ws b)) (sym k)
decoded frame_end w ws x k n b e = no_item x e
decoded unassigned w ws x k n b e = no_item x e

-- what a token's tests let through
pub record Passed (w : ℕ) (ws : List ℕ) (o : Option Item) : Type 0 where
  pub assigned : assigned (class_of w) ≡ true
  pub there : after (class_of w) w ≤ length ws
  pub read : decode (class_of w) w (take (after (class_of w) w) ws) ≡ o

token_kept : (b : Bool) (t : Token) (n : ℕ) (x : Item) → pick b t (flawed n) ≡ whole x → (b ≡ true) × (t ≡ whole x)
token_kept true t n x e = (refl, e)
token_kept false t n x e = let z : ◌≡◌ {A = ℕ} 0 1 = cc in absurd (omega arith)

token_item : (c : Class) (o : Option Item) (x : Item) → token_for c o ≡ whole x → o ≡ some x
token_item c none x e = let z : ◌≡◌ {A = ℕ} 0 1 = cc in absurd (omega arith)
token_item c (some y) x e = cc

pub token_passed : (w : ℕ) (ws : List ℕ) (x : Item) → token_of w ws ≡ whole x → Passed w ws (some x)
unfolding token_of
token_passed w ws x e =
    let (a, f) = token_kept _ _ _ _ e in
    let (b, g) = token_kept _ _ _ _ f in
    record { assigned = a; there = leb-true _ _ b; read = token_item (class_of w) _ x g }

-- T4, back: words that are read as an item are that item's words
pub written_read : (w : ℕ) (ws : List ℕ) (x : Item) → ((i : ℕ) → get_or ws i 0 < 65536) → token_of w ws ≡ whole x → Read w (take (after (class_of w) w) ws) x
written_read w ws x b e =
    let p = token_passed w ws x e in
    decoded (class_of w) w (take (after (class_of w) w) ws) x refl (length-take-le (after (class_of w) w) ws p.there) (below_take (after (class_of w) w) ws 65536 (omega arith) b) p.read
