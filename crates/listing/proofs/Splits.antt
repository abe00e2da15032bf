-- Where a line's fields end is told by the line: from two equal lines, with whatever follows them, the fields are equal and so is what follows.
-- Assumes nothing.
use Prim.Native.Nat.{ℕ, zero, suc, ◌+◌, ◌*◌, ◌-◌, ◌/◌, ◌%◌, ◌≤◌, ◌<◌}
use mathlib.Core.Path.{◌≡◌, refl, sym, ap, ap₂, ◌∙◌}
use mathlib.Core.Bool.{Bool, true, false}
use mathlib.Core.List.{List, [], ◌∷◌, ◌++◌, append_assoc}
use native.Mathlib.Omega.{arith}
use lib.Dec.{ltb, eqb}
use lib.ListN.{get_or, take, drop}
use borrow.Author.Tests.{ltb-true, ltb-false}
use Rattle.format.specs.Words.{pick}
use Rattle.format.specs.Rules.{Kind, data_kind, monitor_kind, command_kind}
use Rattle.ledger.specs.Formats.{Entry}
use Rattle.listing.specs.Ascii.{ascii}
use Rattle.listing.specs.Text.{digit, decimal, hex_digit, hex}
use Rattle.listing.specs.Listing.{letter, kind_text, frame_line, change_text, time_text, signer_text, entry_line, end_line}
use Rattle.listing.proofs.Decimals.{decimal_small, decimal_large}

-- ---- decimals

abbrev Digit : ℕ → Type 0
Digit c = (48 ≤ c) × (c ≤ 57)

abbrev Digits : List ℕ → Type 0
Digits [] = Unit {0}
Digits (c ∷ s) = Digit c × Digits s

digits_more : (s : List ℕ) (c : ℕ) → Digits s → Digit c → Digits (s ++ (c ∷ []))
digits_more [] c h d = (d, tt)
digits_more (x ∷ s) c h d = (h.0, digits_more s c h.1 d)

small_digits : (n : ℕ) → n < 10 → Digits (decimal n)
small_digits n h = rw (decimal_small n h) ((omega arith, omega arith), tt)

decimal_digits : (k n : ℕ) → n ≤ k → Digits (decimal n)
decimal_digits zero n h = small_digits n (omega arith)
decimal_digits (suc k) n h = go (ltb n 10) refl (λ b. decimal_digits k (n / 10) (omega arith))
  where
    go : (t : Bool) → ltb n 10 ≡ t → (10 ≤ n → Digits (decimal (n / 10))) → Digits (decimal n)
    go true e i = small_digits n (ltb-true n 10 e)
    go false e i = let z : 10 ≤ n = ltb-false n 10 e in rw (decimal_large n z) (digits_more (decimal (n / 10)) (digit (n % 10)) (i z) (omega arith, omega arith))

-- the number that some digits spell, after those of a
abbrev value : ℕ → List ℕ → ℕ
value a [] = a
value a (c ∷ s) = value (a * 10 + (c - 48)) s

value_more : (a : ℕ) (s : List ℕ) (c : ℕ) → value a (s ++ (c ∷ [])) ≡ value a s * 10 + (c - 48)
value_more a [] c = refl
value_more a (x ∷ s) c = value_more (a * 10 + (x - 48)) s c

small_value : (n : ℕ) → n < 10 → value 0 (decimal n) ≡ n
small_value n h = rw (decimal_small n h) (omega arith)

decimal_value : (k n : ℕ) → n ≤ k → value 0 (decimal n) ≡ n
decimal_value zero n h = small_value n (omega arith)
decimal_value (suc k) n h = go (ltb n 10) refl (λ b. decimal_value k (n / 10) (omega arith))
  where
    go : (t : Bool) → ltb n 10 ≡ t → (10 ≤ n → value 0 (decimal (n / 10)) ≡ n / 10) → value 0 (decimal n) ≡ n
    go true e i = small_value n (ltb-true n 10 e)
    go false e i =
        let z : 10 ≤ n = ltb-false n 10 e in
        rw (decimal_large n z, value_more 0 (decimal (n / 10)) (digit (n % 10)), i z) (omega arith)

-- no two numbers have the same decimals
pub decimal_once : (m n : ℕ) → decimal m ≡ decimal n → m ≡ n
decimal_once m n e = sym (decimal_value m m (omega arith)) ∙ ap (value 0) e ∙ decimal_value n n (omega arith)

head_same : (a b : ℕ) (x y : List ℕ) → a ∷ x ≡ b ∷ y → a ≡ b
head_same a b x y e = cc

tail_same : (a b : ℕ) (x y : List ℕ) → a ∷ x ≡ b ∷ y → x ≡ y
tail_same a b x y e = cc

digits_split : (s t : List ℕ) (c d : ℕ) (x y : List ℕ) → Digits s → Digits t → (Digit c → ⊥) → (Digit d → ⊥) → s ++ (c ∷ x) ≡ t ++ (d ∷ y)
    → (s ≡ t) × (c ∷ x ≡ d ∷ y)
digits_split [] [] c d x y h g p q e = (refl, e)
digits_split [] (b ∷ t) c d x y h g p q e =
    let z : c ≡ b = head_same c b x (t ++ (d ∷ y)) e in
    let l = g.0.0 in
    let m = g.0.1 in
    absurd (p (omega arith, omega arith))
digits_split (a ∷ s) [] c d x y h g p q e =
    let z : a ≡ d = head_same a d (s ++ (c ∷ x)) y e in
    let l = h.0.0 in
    let m = h.0.1 in
    absurd (q (omega arith, omega arith))
digits_split (a ∷ s) (b ∷ t) c d x y h g p q e =
    let r = digits_split s t c d x y h.1 g.1 p q (tail_same a b (s ++ (c ∷ x)) (t ++ (d ∷ y)) e) in
    (ap₂ (λ (u : ℕ) (v : List ℕ). u ∷ v) (head_same a b (s ++ (c ∷ x)) (t ++ (d ∷ y)) e) r.0, r.1)

-- a number that something else than a digit follows
number_split : (m n c d : ℕ) (x y : List ℕ) → (Digit c → ⊥) → (Digit d → ⊥) → decimal m ++ (c ∷ x) ≡ decimal n ++ (d ∷ y) → (m ≡ n) × (c ∷ x ≡ d ∷ y)
number_split m n c d x y p q e =
    let r = digits_split (decimal m) (decimal n) c d x y (decimal_digits m m (omega arith)) (decimal_digits n n (omega arith)) p q e in
    (decimal_once m n r.0, r.1)

space : Digit 32 → ⊥
space h = let l = h.0 in omega arith

feed : Digit 10 → ⊥
feed h = let l = h.0 in omega arith

-- ---- hex digits, and the words that tell kinds

hex_digit_once : (a b : ℕ) → a < 16 → b < 16 → hex_digit a ≡ hex_digit b → a ≡ b
hex_digit_once a b h g e = go (ltb a 10) (ltb b 10) refl refl e
  where
    go : (s t : Bool) → ltb a 10 ≡ s → ltb b 10 ≡ t → pick s (48 + a) (55 + a) ≡ pick t (48 + b) (55 + b) → a ≡ b
    go true true p q f = omega arith
    go true false p q f = let l = ltb-true a 10 p in let m = ltb-false b 10 q in omega arith
    go false true p q f = let l = ltb-false a 10 p in let m = ltb-true b 10 q in omega arith
    go false false p q f = omega arith

abbrev at : ℕ → List ℕ → ℕ
at i s = get_or s i 0

-- a word from its hex digits
digits_of : (v : ℕ) → v ≡ v / 4096 * 4096 + v / 256 % 16 * 256 + v / 16 % 16 * 16 + v % 16
digits_of v =
    let p : v / 256 ≡ v / 4096 * 16 + v / 256 % 16 = omega arith in
    let q : v / 16 ≡ v / 256 * 16 + v / 16 % 16 = omega arith in
    let r : v ≡ v / 16 * 16 + v % 16 = omega arith in
    sum v (v / 16) (v / 256) (v / 4096) (v / 256 % 16) (v / 16 % 16) (v % 16) p q r
  where
    sum : (v a b c d e f : ℕ) → b ≡ c * 16 + d → a ≡ b * 16 + e → v ≡ a * 16 + f → v ≡ c * 4096 + d * 256 + e * 16 + f
    sum v a b c d e f p q r = omega arith

hex_split : (v w : ℕ) (x y : List ℕ) → v < 65536 → w < 65536 → hex v ++ x ≡ hex w ++ y → (v ≡ w) × (x ≡ y)
unfolding hex
hex_split v w x y h g e =
    let a : v / 4096 ≡ w / 4096 = hex_digit_once (v / 4096) (w / 4096) (omega arith) (omega arith) (ap (at 0) e) in
    let b : v / 256 % 16 ≡ w / 256 % 16 = hex_digit_once (v / 256 % 16) (w / 256 % 16) (omega arith) (omega arith) (ap (at 1) e) in
    let c : v / 16 % 16 ≡ w / 16 % 16 = hex_digit_once (v / 16 % 16) (w / 16 % 16) (omega arith) (omega arith) (ap (at 2) e) in
    let d : v % 16 ≡ w % 16 = hex_digit_once (v % 16) (w % 16) (omega arith) (omega arith) (ap (at 3) e) in
    (digits_of v ∙ rw (a, b, c, d) (sym (digits_of w)), ap (drop 4) e)

letter_split : (k l : Kind) (x y : List ℕ) → letter k ++ x ≡ letter l ++ y → (k ≡ l) × (x ≡ y)
letter_split data_kind data_kind x y e = (refl, ap (drop 1) e)
letter_split monitor_kind monitor_kind x y e = (refl, ap (drop 1) e)
letter_split command_kind command_kind x y e = (refl, ap (drop 1) e)
letter_split data_kind monitor_kind x y e = let z : ◌≡◌ {A = ℕ} 68 77 = ap (at 0) e in absurd (omega arith)
letter_split data_kind command_kind x y e = let z : ◌≡◌ {A = ℕ} 68 67 = ap (at 0) e in absurd (omega arith)
letter_split monitor_kind data_kind x y e = let z : ◌≡◌ {A = ℕ} 77 68 = ap (at 0) e in absurd (omega arith)
letter_split monitor_kind command_kind x y e = let z : ◌≡◌ {A = ℕ} 77 67 = ap (at 0) e in absurd (omega arith)
letter_split command_kind data_kind x y e = let z : ◌≡◌ {A = ℕ} 67 68 = ap (at 0) e in absurd (omega arith)
letter_split command_kind monitor_kind x y e = let z : ◌≡◌ {A = ℕ} 67 77 = ap (at 0) e in absurd (omega arith)

kind_split : (k l : ℕ) (x y : List ℕ) → kind_text k ++ x ≡ kind_text l ++ y → (eqb k 1 ≡ eqb l 1) × (x ≡ y)
kind_split k l x y e = go (eqb k 1) (eqb l 1) e
  where
    go : (s t : Bool) → pick s (ascii " sample ") (ascii " bin ") ++ x ≡ pick t (ascii " sample ") (ascii " bin ") ++ y → (s ≡ t) × (x ≡ y)
    go true true f = (refl, ap (drop 8) f)
    go false false f = (refl, ap (drop 5) f)
    go true false f = let z : ◌≡◌ {A = ℕ} 115 98 = ap (at 1) f in absurd (omega arith)
    go false true f = let z : ◌≡◌ {A = ℕ} 98 115 = ap (at 1) f in absurd (omega arith)

-- ---- lines

pub record SameFrame (k l : Kind) (c d s t z w i j : ℕ) (x y : List ℕ) : Type 0 where
  pub kind : k ≡ l
  pub card : c ≡ d
  pub sequence : s ≡ t
  pub size : z ≡ w
  pub items : i ≡ j
  pub after : x ≡ y

regroup : (a k b c d h e z g i n x : List ℕ)
    → a ++ k ++ (b ++ c) ++ d ++ h ++ (e ++ z) ++ (g ++ i) ++ n ++ x ≡ a ++ (k ++ (b ++ (c ++ (d ++ (h ++ (e ++ (z ++ (g ++ (i ++ (n ++ x))))))))))
regroup a k b c d h e z g i n x = simp append_assoc

flat_frame : (k : Kind) (c s z i : ℕ) (x : List ℕ)
    → frame_line k c s z i ++ x
    ≡ ascii "frame " ++ (letter k ++ (ascii " card " ++ (decimal c ++ (ascii " seq " ++ (hex s ++ (ascii " bytes " ++ (decimal z ++ (ascii " items " ++ (decimal i ++ (ascii "\n" ++ x))))))))))
unfolding frame_line
flat_frame k c s z i x =
    regroup (ascii "frame ") (letter k) (ascii " card ") (decimal c) (ascii " seq ") (hex s) (ascii " bytes ") (decimal z) (ascii " items ") (decimal i) (ascii "\n") x

pub frame_split : (k l : Kind) (c d s t z w i j : ℕ) (x y : List ℕ) → s < 65536 → t < 65536 → frame_line k c s z i ++ x ≡ frame_line l d t w j ++ y
    → SameFrame k l c d s t z w i j x y
frame_split k l c d s t z w i j x y h g e =
    let f = sym (flat_frame k c s z i x) ∙ e ∙ flat_frame l d t w j y in
    let a = letter_split k l _ _ (ap (drop 6) f) in
    let b = number_split c d 32 32 _ _ space space (ap (drop 6) a.1) in
    let m = hex_split s t _ _ h g (ap (drop 5) b.1) in
    let n = number_split z w 32 32 _ _ space space (ap (drop 7) m.1) in
    let o = number_split i j 10 10 _ _ feed feed (ap (drop 7) n.1) in
    record { kind = a.0; card = b.0; sequence = m.0; size = n.0; items = o.0; after = ap (drop 1) o.1 }

-- what follows a reason begins with no digit, whether a time stands there or the line ends
record Ended (x : List ℕ) : Type 0 where
  first : ℕ
  rest : List ℕ
  begins : x ≡ first ∷ rest
  other : Digit first → ⊥

ended : (s x : List ℕ) → Ended (time_text s ++ (ascii "\n" ++ x))
unfolding time_text
ended [] x = record { first = 10; rest = x; begins = refl; other = feed }
ended (t ∷ s) x = record { first = 32; rest = _; begins = refl; other = space }

-- the time and whether there is one; of what else an entry keeps a line says nothing
time_split : (s t x y : List ℕ) → time_text s ++ (ascii "\n" ++ x) ≡ time_text t ++ (ascii "\n" ++ y) → (take 1 s ≡ take 1 t) × (x ≡ y)
unfolding time_text
time_split [] [] x y e = (refl, ap (drop 1) e)
time_split [] (u ∷ t) x y e = let z : ◌≡◌ {A = ℕ} 10 32 = ap (at 0) e in absurd (omega arith)
time_split (u ∷ s) [] x y e = let z : ◌≡◌ {A = ℕ} 32 10 = ap (at 0) e in absurd (omega arith)
time_split (u ∷ s) (v ∷ t) x y e =
    let f : decimal u ++ (10 ∷ x) ≡ decimal v ++ (10 ∷ y) = ap (drop 4) (behind u x ∙ e ∙ sym (behind v y)) in
    let r = number_split u v 10 10 x y feed feed f in
    (ap (λ (n : ℕ). n ∷ []) r.0, ap (drop 1) r.1)
  where
    behind : (n : ℕ) (z : List ℕ) → ascii " at " ++ (decimal n ++ (10 ∷ z)) ≡ (ascii " at " ++ decimal n) ++ (10 ∷ z)
    behind n z = sym (append_assoc (ascii " at ") (decimal n) (10 ∷ z))

-- two entries as their lines show them
pub record Alike (e f : Entry) : Type 0 where
  pub word : e.word ≡ f.word
  pub kind : eqb e.kind 1 ≡ eqb f.kind 1
  pub old : e.old ≡ f.old
  pub new : e.new ≡ f.new
  pub operator : e.operator ≡ f.operator
  pub reason : e.reason ≡ f.reason
  pub time : take 1 e.extra ≡ take 1 f.extra

regroup_entry : (a j b w k o c n d p e r t f x : List ℕ)
    → (a ++ j) ++ (b ++ w) ++ (k ++ o) ++ (c ++ n) ++ ((d ++ p) ++ (e ++ r) ++ t ++ f) ++ x
    ≡ a ++ (j ++ (b ++ (w ++ (k ++ (o ++ (c ++ (n ++ (d ++ (p ++ (e ++ (r ++ (t ++ (f ++ x)))))))))))))
regroup_entry a j b w k o c n d p e r t f x = simp append_assoc

flat_entry : (j : ℕ) (e : Entry) (x : List ℕ)
    → entry_line j e ++ x
    ≡ ascii "edit " ++ (decimal j ++ (ascii " word " ++ (decimal e.word ++ (kind_text e.kind ++ (decimal e.old ++ (ascii " -> " ++ (decimal e.new ++ (ascii " by " ++ (decimal e.operator ++ (ascii " reason " ++ (decimal e.reason ++ (time_text e.extra ++ (ascii "\n" ++ x)))))))))))))
unfolding entry_line change_text signer_text
flat_entry j e x =
    regroup_entry (ascii "edit ") (decimal j) (ascii " word ") (decimal e.word) (kind_text e.kind) (decimal e.old) (ascii " -> ") (decimal e.new) (ascii " by ")
    (decimal e.operator) (ascii " reason ") (decimal e.reason) (time_text e.extra) (ascii "\n") x

-- what follows the kind
abbrev values : Entry → List ℕ → List ℕ
values e x = decimal e.old ++ (ascii " -> " ++ (decimal e.new ++ (ascii " by " ++ (decimal e.operator ++ (ascii " reason " ++ (decimal e.reason ++ (time_text e.extra ++ (ascii "\n" ++ x))))))))

-- what follows an entry's word begins with a space, whichever kind it is
spaced : (k : ℕ) (x : List ℕ) → (y : List ℕ) × (kind_text k ++ x ≡ 32 ∷ y)
spaced k x = go (eqb k 1)
  where
    go : (s : Bool) → (y : List ℕ) × (pick s (ascii " sample ") (ascii " bin ") ++ x ≡ 32 ∷ y)
    go true = (_, refl)
    go false = (_, refl)

pub entry_split : (j : ℕ) (e f : Entry) (x y : List ℕ) → entry_line j e ++ x ≡ entry_line j f ++ y → Alike e f × (x ≡ y)
entry_split j e f x y q =
    let p = sym (flat_entry j e x) ∙ q ∙ flat_entry j f y in
    let a = number_split j j 32 32 _ _ space space (ap (drop 5) p) in
    let u = spaced e.kind (values e x) in
    let v = spaced f.kind (values f y) in
    let b = number_split e.word f.word 32 32 u.0 v.0 space space (rw (u.1, v.1) at (ap (drop 6) a.1)) in
    let k = kind_split e.kind f.kind (values e x) (values f y) (u.1 ∙ b.1 ∙ sym v.1) in
    let o = number_split e.old f.old 32 32 _ _ space space k.1 in
    let n = number_split e.new f.new 32 32 _ _ space space (ap (drop 4) o.1) in
    let s = number_split e.operator f.operator 32 32 _ _ space space (ap (drop 4) n.1) in
    let c = ended e.extra x in
    let d = ended f.extra y in
    let r = number_split e.reason f.reason c.first d.first c.rest d.rest c.other d.other (rw (c.begins, d.begins) at (ap (drop 8) s.1)) in
    let t = time_split e.extra f.extra x y (c.begins ∙ r.1 ∙ sym d.begins) in
    (record { word = b.0; kind = k.0; old = o.0; new = n.0; operator = s.0; reason = r.0; time = t.0 }, t.1)

pub end_split : (m n : ℕ) → end_line m ≡ end_line n → m ≡ n
unfolding end_line
end_split m n e = (number_split m n 10 10 [] [] feed feed (ap (drop 4) e)).0

-- a line of an entry is not the last line
pub entry_not_end : (j n : ℕ) (e : Entry) (x : List ℕ) → entry_line j e ++ x ≡ end_line n → ⊥
unfolding end_line
entry_not_end j n e x q = let z : ◌≡◌ {A = ℕ} 100 110 = ap (at 1) (sym (flat_entry j e x) ∙ q) in omega arith
