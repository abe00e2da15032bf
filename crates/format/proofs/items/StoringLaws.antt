-- Bytes stored at a place of others, `lib.Seq`'s `sets`: in a list that is made of parts, past its end, one run behind another, what stands there
-- afterwards; and words, low byte first. The laws of storing for all crates.
-- Assumes nothing.
use Prim.Native.Nat.{ℕ, zero, suc, ◌+◌, ◌*◌, ◌-◌, ◌/◌, ◌%◌, ◌≤◌, ◌<◌}
use mathlib.Core.Path.{◌≡◌, refl, sym, ap, ap₂, ◌∙◌}
use mathlib.Core.Logic.{◌⊎◌, inl, inr}
use mathlib.Core.List.{List, [], ◌∷◌, ◌++◌, append-nil, append_assoc}
use native.Mathlib.Nat.{suc-add, zero-add, add-zero, add-suc}
use native.Mathlib.Numerals.{add-one}
use native.Mathlib.Omega.{arith}
use lib.ListN.{length, get_or, take, drop, set, length-set, length-append, take-append-drop, length-drop, drop_of_length-le, get_or-append}
use lib.Seq.{sets, sets-eq, set_out, set-append_left, length-take-le, get_or-set_other, get_or-append-add, drop-cons}
use borrow.Rule.Slice.PartMut.{put_mid}
use Rattle.format.specs.Words.{Bytes, bytes}

-- ---- in a list that is made of parts

sets_cons : (x : ℕ) (l : List ℕ) (j : ℕ) (vs : List ℕ) → sets (x ∷ l) (suc j) vs ≡ x ∷ sets l j vs
sets_cons x l j [] = refl
sets_cons x l j (v ∷ vs) = sets_cons x (set l j v) (suc j) vs

sets_past : (p l : List ℕ) (j : ℕ) (vs : List ℕ) → sets (p ++ l) (length p + j) vs ≡ p ++ sets l j vs
sets_past [] l j vs = rw (zero-add j)
sets_past (x ∷ p) l j vs = rw (suc-add (length p) j) (sets_cons x (p ++ l) (length p + j) vs ∙ ap (λ (r : List ℕ). x ∷ r) (sets_past p l j vs))

-- past a first part
pub sets_right : (p l : List ℕ) (n j : ℕ) (vs : List ℕ) → length p ≡ n → sets (p ++ l) (n + j) vs ≡ p ++ sets l j vs
sets_right p l n j vs e = rw (← e) (sets_past p l j vs)

-- within a first part
pub sets_left : (vs m q : List ℕ) (j : ℕ) → j + length vs ≤ length m → sets (m ++ q) j vs ≡ sets m j vs ++ q
sets_left [] m q j h = refl
sets_left (v ∷ vs) m q j h =
    let i : j < length m = omega arith in
    rw (set-append_left m q j v i) (sets_left vs (set m j v) q (suc j) (rw (length-set m j v) (omega arith)))

-- over the whole list
pub sets_whole : (l vs : List ℕ) → length vs ≡ length l → sets l 0 vs ≡ vs
sets_whole l vs e = sets-eq vs l 0 (omega arith) ∙ rw (drop_of_length-le l (let h : length l ≤ 0 + length vs = omega arith in h)) (append-nil vs)

-- exactly over a middle part
pub sets_mid : (p m q vs : List ℕ) (n : ℕ) → length p ≡ n → length vs ≡ length m → sets (p ++ (m ++ q)) n vs ≡ p ++ (vs ++ q)
sets_mid p m q vs n e h =
    let l = sets_left vs m q 0 (let k : 0 + length vs ≤ length m = omega arith in k) in
    rw (add-zero n, l, sets_whole m vs h) at (sets_right p (m ++ q) n 0 vs e)

-- over the first n, and from n on up to m
pub sets_front : (vs l : List ℕ) (n : ℕ) → length vs ≡ n → n ≤ length l → sets l 0 vs ≡ vs ++ drop n l
sets_front vs l n e h =
    let k : 0 + length vs ≡ n = omega arith in
    sets-eq vs l 0 (omega arith) ∙ ap (λ (k : ℕ). vs ++ drop k l) k

pub sets_at : (vs l : List ℕ) (n m : ℕ) → m ≡ n + length vs → m ≤ length l → sets l n vs ≡ take n l ++ (vs ++ drop m l)
sets_at vs l n m e h =
    sets-eq vs l n (omega arith) ∙ ap (λ (k : ℕ). take n l ++ vs ++ drop k l) (sym e) ∙ append_assoc (take n l) vs (drop m l)

-- ---- past the end

pub sets_out : (vs l : List ℕ) (i : ℕ) → length l ≤ i → sets l i vs ≡ l
sets_out [] l i h = refl
sets_out (v ∷ vs) l i h = rw (set_out l i v h) (sets_out vs l (suc i) (omega arith))

-- what does not fit is not stored
sets_take : (l : List ℕ) (i n : ℕ) (vs : List ℕ) → length l ≤ i + n → sets l i (take n vs) ≡ sets l i vs
sets_take l i zero vs h = sym (sets_out vs l i (omega arith))
sets_take l i (suc n) [] h = refl
sets_take l i (suc n) (v ∷ vs) h = sets_take _ (suc i) n vs (omega (arith, length-set l i v))

pub sets_room : (l vs : List ℕ) → sets l 0 (take (length l) vs) ≡ sets l 0 vs
sets_room l vs = sets_take l 0 (length l) vs (omega arith)

-- ---- runs that stand one behind the other are one run

pub sets_append : (l : List ℕ) (i : ℕ) (vs ws : List ℕ) → sets (sets l i vs) (i + length vs) ws ≡ sets l i (vs ++ ws)
sets_append l i [] ws = rw (add-zero i)
sets_append l i (v ∷ vs) ws = rw (add-suc i (length vs), ← suc-add i (length vs)) (sets_append (set l i v) (suc i) vs ws)

pub sets_next : (l l₁ l₂ : List ℕ) (i j : ℕ) (vs ws : List ℕ) → j ≡ i + length vs → l₁ ≡ sets l i vs → l₂ ≡ sets l₁ j ws → l₂ ≡ sets l i (vs ++ ws)
sets_next l l₁ l₂ i j vs ws t e f = f ∙ ap₂ (λ (l : List ℕ) (i : ℕ). sets l i ws) e t ∙ sets_append l i vs ws

-- ---- what stands at a place afterwards: outside what stood there, inside what was stored; and bytes among bytes

pub sets_outside : (vs l : List ℕ) (i j : ℕ) → (i ≤ j → j < i + length vs → ⊥) → get_or (sets l i vs) j 0 ≡ get_or l j 0
sets_outside [] l i j h = refl
sets_outside (v ∷ vs) l i j h =
    sets_outside vs (set l i v) (suc i) j (λ p q. h (omega arith) (omega arith)) ∙ get_or-set_other l i j v 0 (λ e. h (omega arith) (omega arith))

pub sets_other : (vs l : List ℕ) (i j : ℕ) → (j < i) ⊎ (i + length vs ≤ j) → get_or (sets l i vs) j 0 ≡ get_or l j 0
sets_other vs l i j (inl h) = sets_outside vs l i j (λ p q. omega arith)
sets_other vs l i j (inr h) = sets_outside vs l i j (λ p q. omega arith)

pub sets_inside : (vs l : List ℕ) (i j : ℕ) → i + length vs ≤ length l → j < length vs → get_or (sets l i vs) (i + j) 0 ≡ get_or vs j 0
sets_inside vs l i j h k =
    let p : length (take i l) ≡ i = length-take-le i l (omega arith) in
    let m : i + j < length (take i l ++ vs) = rw (length-append (take i l) vs) (omega arith) in
    rw (sets-eq vs l i h, get_or-append (take i l ++ vs) (drop (i + length vs) l) 0 (i + j) m) (rw p at (get_or-append-add (take i l) vs j 0))

set_bytes : (l : List ℕ) (i v : ℕ) → Bytes l → v < 256 → Bytes (set l i v)
set_bytes [] i v y h j = y j
set_bytes (a ∷ l) zero v y h zero = h
set_bytes (a ∷ l) zero v y h (suc j) = y (suc j)
set_bytes (a ∷ l) (suc i) v y h zero = y 0
set_bytes (a ∷ l) (suc i) v y h (suc j) = set_bytes l i v (λ k. y (suc k)) h j

pub sets_bytes : (vs l : List ℕ) (i : ℕ) → Bytes l → Bytes vs → Bytes (sets l i vs)
sets_bytes [] l i y h = y
sets_bytes (v ∷ vs) l i y h = sets_bytes vs (set l i v) (suc i) (set_bytes l i v y (h 0)) (λ k. h (suc k))

-- ---- what a call left in the part `&mut s[a..e]`, as stores in the whole: from the part's start, and all of it

pub part_stores : (xs : List ℕ) (a e : ℕ) (ys vs : List ℕ) → a ≤ e → e ≤ length xs → length vs ≤ e - a → ys ≡ sets (take (e - a) (drop a xs)) 0 vs
    → put_mid a (e - a) xs ys ≡ sets xs a vs
part_stores xs a e ys vs h k f g =
    let p = take a xs in
    let m = take (e - a) (drop a xs) in
    let q = drop (e - a) (drop a xs) in
    let ep : length p ≡ a = length-take-le a xs (omega arith) in
    let em : length m ≡ e - a = length-take-le (e - a) (drop a xs) (rw (length-drop a xs) (omega arith)) in
    let whole : p ++ (m ++ q) ≡ xs = rw (take-append-drop (e - a) (drop a xs)) (take-append-drop a xs) in
    let s : sets (m ++ q) 0 vs ≡ sets m 0 vs ++ q = sets_left vs m q 0 (omega arith) in
    let r : sets (p ++ (m ++ q)) a vs ≡ p ++ sets (m ++ q) 0 vs = ap (λ (i : ℕ). sets (p ++ (m ++ q)) i vs) (sym (add-zero a)) ∙ sets_right p (m ++ q) a 0 vs ep in
    rw (g, ← s) (sym r ∙ ap (λ (x : List ℕ). sets x a vs) whole)

pub part_whole : (xs : List ℕ) (a e : ℕ) (ys : List ℕ) → a ≤ e → e ≤ length xs → length ys ≡ e - a → put_mid a (e - a) xs ys ≡ sets xs a ys
part_whole xs a e ys h k l =
    let m : length (take (e - a) (drop a xs)) ≡ e - a = length-take-le (e - a) (drop a xs) (rw (length-drop a xs) (omega arith)) in
    part_stores xs a e ys ys h k (omega arith) (sym (sets_whole (take (e - a) (drop a xs)) ys (l ∙ sym m)))

-- ---- words

-- past the end, and of the last byte only the low one
pub word_out : (l : List ℕ) (at w : ℕ) → length l ≤ at → l ≡ sets l at (bytes (w ∷ []))
word_out l at w h = sym (sets_out (bytes (w ∷ [])) l at h)

pub word_half : (l : List ℕ) (at w : ℕ) → length (set l at (w % 256)) ≤ at + 1 → set l at (w % 256) ≡ sets l at (bytes (w ∷ []))
unfolding bytes
word_half l at w h = sym (set_out (set l at (w % 256)) (suc at) (w / 256) (omega arith))

pub word_outside : (l : List ℕ) (w at i : ℕ) → (i ≡ at → ⊥) → (i ≡ at + 1 → ⊥) → get_or (sets l at (bytes (w ∷ []))) i 0 ≡ get_or l i 0
unfolding bytes
word_outside l w at i p q = sets_outside (bytes (w ∷ [])) l at i (λ a b. q (omega arith))

-- from word i on, the words ws are left to store in buf, and that makes `all`
pub record Left (at : ℕ) (ws buf : List ℕ) (i : ℕ) (all : List ℕ) : Type 0 where
  pub stores : sets buf (at + 2 * i) (bytes (drop i ws)) ≡ all

module _ (at : ℕ) (ws buf : List ℕ) (i : ℕ) where
  pub words_start : i ≡ 0 → Left at ws buf i (sets buf at (bytes ws))
  words_start e = let z : at + 2 * 0 ≡ at = omega arith in record { stores = rw (e, z) }

  module _ (all : List ℕ) (l : Left at ws buf i all) where
    pub words_next : i < length ws → (b : List ℕ) → b ≡ sets buf (at + 2 * i) (bytes (get_or ws i 0 ∷ [])) → Left at ws b (i + 1) all
    unfolding bytes
    words_next h b e =
        let d : drop i ws ≡ get_or ws i 0 ∷ drop (i + 1) ws = drop-cons ws i 0 h ∙ ap (λ (n : ℕ). get_or ws i 0 ∷ drop n ws) (sym (add-one i)) in
        let z : at + 2 * (i + 1) ≡ suc (suc (at + 2 * i)) = omega arith in
        record { stores = rw (e, z) (ap (λ (r : List ℕ). sets buf (at + 2 * i) (bytes r)) (sym d) ∙ l.stores) }

    pub words_end : length ws ≤ i → buf ≡ all
    unfolding bytes
    words_end h = ap (λ (r : List ℕ). sets buf (at + 2 * i) (bytes r)) (sym (drop_of_length-le ws {i = i} h)) ∙ l.stores
