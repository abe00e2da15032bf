-- T5. Some bytes are accepted as a frame exactly where it is legal and the bytes are what it is written as.
-- Assumes nothing.
use Prim.Native.Nat.{ℕ, ◌+◌, ◌-◌, ◌*◌, ◌/◌, ◌%◌, ◌<◌, ◌≤◌}
use mathlib.Core.Path.{◌≡◌, refl, sym, ap, ap₂, subst, ◌∙◌}
use mathlib.Core.List.{List, [], ◌∷◌, ◌++◌, append-nil}
use mathlib.Core.Logic.{◌↔◌}
use mathlib.Core.Bool.{Bool, true, false}
use native.Mathlib.Omega.{arith}
use lib.ListN.{length, get_or, take, drop, length-append, length-drop}
use lib.Seq.{take_at, get_or_at}
use borrow.Author.Tests.{eqb-true}
use Rattle.format.specs.Words.{pick, Bytes, words, bytes, word_at}
use Rattle.format.specs.Answers.{Outcome, accepted, refused, and_then}
use Rattle.format.specs.Items.{Item, tokens}
use Rattle.format.specs.Rules.{Kind, may_end}
use Rattle.format.specs.Frames.{Frame, earlier_then, start_word, all_words, frame_words, encode, Legal, last_of, kind_in, card_in, front, body, walk, ending, judged, verdict}
use Rattle.format.proofs.items.WordLaws.{words_bytes, bytes_words, length_bytes, word_at_lem, below_drop}
use Rattle.format.proofs.verdict.WalkLaws.{walk_sound, walk_complete}
use Rattle.format.proofs.verdict.HeadLaws.{Head, head_of, head_zero, start_word_lem, Starts, starts, front_word, length_front, front_last, front_below, three_first}

-- the items, in their order again
pub behind_behind : (xs ys p : List Item) → earlier_then ys (earlier_then p xs) ≡ earlier_then (xs ++ ys) p
unfolding earlier_then
behind_behind [] ys p = refl
behind_behind (x ∷ xs) ys p = behind_behind xs ys (x ∷ p)

pub in_order : (xs : List Item) → earlier_then [] (earlier_then [] xs) ≡ xs
unfolding earlier_then
in_order xs = behind_behind xs [] [] ∙ append-nil xs

pub length_behind : (p xs : List Item) → length (earlier_then p xs) ≡ length p + length xs
unfolding earlier_then
length_behind p [] = omega arith
length_behind p (x ∷ xs) = length_behind (x ∷ p) xs ∙ omega arith

-- ---- what an accepted walk and ending say
pub record Ended (s : List ℕ) (q : List Item) (f : Frame) : Type 0 where
  pub may : may_end q ≡ true
  pub frame : record { kind = kind_in s; card = card_in s; sequence = word_at s 2; items = earlier_then [] q } ≡ f

ended_of : (s : List ℕ) (q : List Item) (f : Frame) → ending s q ≡ accepted f → Ended s q f
ended_of s q f e = go (may_end q) refl e
  where
    go : (b : Bool) → may_end q ≡ b
        → pick b (accepted (record { kind = kind_in s; card = card_in s; sequence = word_at s 2; items = earlier_then [] q })) (refused 11 (last_of s)) ≡ accepted f → Ended s q f
    go true m g = record { may = m; frame = inner _ _ g }
      where
        inner : (a b : Frame) → accepted a ≡ accepted b → a ≡ b
        inner a b h = cc
    go false m g = let z : ◌≡◌ {A = ℕ} 0 1 = cc in absurd (omega arith)

pub record Judged (s : List ℕ) (f : Frame) : Type 0 where
  pub earlier : List Item
  pub walked : walk (kind_in s) (card_in s) [] 3 (body s) ≡ accepted earlier
  pub ended : Ended s earlier f

pub judged_of : (s : List ℕ) (f : Frame) → judged s ≡ accepted f → Judged s f
unfolding judged
judged_of s f e = go (walk (kind_in s) (card_in s) [] 3 (body s)) refl e
  where
    go : (o : Outcome (List Item)) → walk (kind_in s) (card_in s) [] 3 (body s) ≡ o → and_then o (ending s) ≡ accepted f → Judged s f
    go (accepted q) w g = record { earlier = q; walked = w; ended = ended_of s q f g }
    go (refused n p) w g = let z : ◌≡◌ {A = ℕ} 0 1 = cc in absurd (omega arith)

kept : (b : Bool) (o : Outcome Frame) (n p : ℕ) (f : Frame) → pick b o (refused n p) ≡ accepted f → (b ≡ true) × (o ≡ accepted f)
kept true o n p f e = (refl, e)
kept false o n p f e = let z : ◌≡◌ {A = ℕ} 0 1 = cc in absurd (omega arith)

-- what an accepted verdict says
pub record Verdict (s : List ℕ) (f : Frame) : Type 0 where
  pub head : Head s
  pub judged : Judged s f

pub verdict_of : (s : List ℕ) (f : Frame) → verdict s ≡ accepted f → Verdict s f
unfolding verdict
verdict_of s f e =
    let (t, g) = kept _ _ _ _ _ e in
    record { head = head_of s (eqb-true _ _ t); judged = judged_of s f g }

-- ---- an accepted frame is legal, and is what it is written as

five : (a a' b b' c c' e e' : ℕ) (r r' : List ℕ) → a ≡ a' → b ≡ b' → c ≡ c' → r ≡ r' → e ≡ e'
    → a ∷ b ∷ c ∷ (r ++ (e ∷ [])) ≡ a' ∷ b' ∷ c' ∷ (r' ++ (e' ∷ []))
five a a' b b' c c' e e' r r' p q u v w = cc

size_word : (n k : ℕ) → n % 2 ≡ 0 → 8 ≤ n → k ≡ (n / 2 - 1) - 3 → n ≡ 2 * (4 + k)
size_word n k e h q = omega arith

words_frame : (s : List ℕ) (xs : List Item) → Head s → drop 3 (front s) ≡ all_words xs
    → words s ≡ frame_words (record { kind = kind_in s; card = card_in s; sequence = word_at s 2; items = xs })
unfolding frame_words
words_frame s xs h r =
    let n = length_front s in
    let m = length-drop 3 (front s) in
    let k : length (drop 3 (front s)) ≡ length (all_words xs) = ap length r in
    let least = h.least in
    let even = h.even in
    front_last s even (omega arith)
    ∙ ap (λ (l : List ℕ). l ++ (word_at s (last_of s) ∷ [])) (three_first (front s) (omega arith))
    ∙ five _ _ _ _ _ _ _ _ _ _
    (front_word s 0 (omega arith) ∙ start_word_lem (word_at s 0) h.started)
    (front_word s 1 (omega arith) ∙ h.sized ∙ size_word (length s) (length (all_words xs)) h.even h.least (sym k ∙ m ∙ ap (λ (j : ℕ). j - 3) n))
    (front_word s 2 (omega arith))
    r
    h.ended

encode_of : (f : Frame) (ws : List ℕ) → ws ≡ frame_words f → bytes ws ≡ encode f
unfolding encode
encode_of f ws e = ap bytes e

pub sound : (s : List ℕ) → Bytes s → (f : Frame) → verdict s ≡ accepted f → Legal f × (s ≡ encode f)
sound s bs f e =
    let v = verdict_of s f e in
    let h = v.head in
    let j = v.judged in
    let w = walk_sound (kind_in s) (card_in s) (length (drop 3 (front s))) [] 3 (drop 3 (front s)) j.earlier (omega arith) (below_drop 3 (front s) 65536 (front_below s bs)) j.walked in
    let xs : List Item = w.items in
    let g : Frame = record { kind = kind_in s; card = card_in s; sequence = word_at s 2; items = xs } in
    let i : earlier_then [] j.earlier ≡ xs = ap (earlier_then []) w.earlier ∙ in_order xs in
    let q : s ≡ encode g = sym (bytes_words s h.even bs) ∙ encode_of g (words s) (words_frame s xs h w.written) in
    let l : Legal g = record {
      card = below_32 (word_at s 0);
      sequence = h.sequence;
      sound = w.sound;
      ended = ap may_end (sym w.earlier) ∙ j.ended.may;
      short = subst (λ (l : List ℕ). length l ≤ 8192) q h.most;
    } in
    let k : g ≡ f = ap (λ (l : List Item). record { kind = kind_in s; card = card_in s; sequence = word_at s 2; items = l }) (sym i) ∙ j.ended.frame in
    subst (λ (f : Frame). Legal f × (s ≡ encode f)) k (l, q)
  where
    below_32 : (w : ℕ) → w % 32 ≤ 31
    below_32 w = omega arith

-- ---- what a legal frame is written as is accepted

module _ (f : Frame) (l : Legal f) where
  fore : List ℕ
  fore = start_word f.kind f.card ∷ (2 * (4 + length (all_words f.items))) ∷ f.sequence ∷ all_words f.items

  words_s : words (encode f) ≡ fore ++ (0x000F ∷ [])
  unfolding encode frame_words fore
  words_s = words_bytes (frame_words f)

  pub length_s : length (encode f) ≡ 2 * (4 + length (all_words f.items))
  unfolding encode frame_words
  length_s = length_bytes (frame_words f) ∙ ap (λ (n : ℕ). 2 * n) (omega (arith, length-append (all_words f.items) (0x000F ∷ [])))

  last_s : length fore ≡ last_of (encode f)
  unfolding fore
  last_s = omega (arith, length_s)

  front_s : front (encode f) ≡ fore
  unfolding front
  front_s = ap (λ (ws : List ℕ). take (last_of (encode f)) ws) words_s ∙ take_at fore (0x000F ∷ []) (last_of (encode f)) last_s

  word_s : (i : ℕ) → i < last_of (encode f) → word_at (encode f) i ≡ get_or fore i 0
  word_s i h = sym (front_word (encode f) i h) ∙ ap (λ (ws : List ℕ). get_or ws i 0) front_s

  end_s : word_at (encode f) (last_of (encode f)) ≡ 0x000F
  end_s =
      sym (word_at_lem (encode f) (last_of (encode f)))
      ∙ ap (λ (ws : List ℕ). get_or ws (last_of (encode f)) 0) words_s
      ∙ get_or_at fore 0x000F [] 0 (last_of (encode f)) last_s

  first_s : word_at (encode f) 0 ≡ start_word f.kind f.card
  unfolding fore
  first_s = word_s 0 (omega (arith, length_s))

  second_s : word_at (encode f) 1 ≡ length (encode f)
  unfolding fore
  second_s = word_s 1 (omega (arith, length_s)) ∙ sym length_s

  third_s : word_at (encode f) 2 ≡ f.sequence
  unfolding fore
  third_s = word_s 2 (omega (arith, length_s))

  start_s : Starts f.kind f.card (word_at (encode f) 0)
  start_s = subst (Starts f.kind f.card) (sym first_s) (starts f.kind f.card l.card)

  pub head_s : Head (encode f)
  head_s =
      let n = length_s in
      record {
        even = omega arith;
        least = omega arith;
        most = l.short;
        started = start_s.fits;
        sized = second_s;
        sequence = omega (arith, third_s, l.sequence);
        ended = end_s;
      }

  body_s : body (encode f) ≡ tokens 0 (all_words f.items)
  unfolding fore
  body_s = ap (λ (ws : List ℕ). tokens 0 (drop 3 ws)) front_s

  walk_s : walk (kind_in (encode f)) (card_in (encode f)) [] 3 (body (encode f)) ≡ accepted (earlier_then [] f.items)
  walk_s =
      ap₂ (λ (k : Kind) (c : ℕ). walk k c [] 3 (body (encode f))) start_s.kind_is start_s.card_is
      ∙ ap (walk f.kind f.card [] 3) body_s
      ∙ walk_complete f.kind f.card f.items [] 3 l.sound

  frame_s : record { kind = kind_in (encode f); card = card_in (encode f); sequence = word_at (encode f) 2; items = earlier_then [] (earlier_then [] f.items) } ≡ f
  frame_s = λ i. record { kind = start_s.kind_is i; card = start_s.card_is i; sequence = third_s i; items = in_order f.items i }

  judged_s : judged (encode f) ≡ accepted f
  unfolding judged
  judged_s =
      ap (λ (o : Outcome (List Item)). and_then o (ending (encode f))) walk_s
      ∙ (rw l.ended (ap accepted frame_s))

  pub complete : verdict (encode f) ≡ accepted f
  unfolding verdict
  complete = rw (head_zero (encode f) head_s) judged_s

-- T5, both ways
pub exactly : (s : List ℕ) → Bytes s → (f : Frame) → (verdict s ≡ accepted f) ↔ (Legal f × (s ≡ encode f))
exactly s bs f = (sound s bs f, λ h. subst (λ (s : List ℕ). verdict s ≡ accepted f) (sym h.1) (complete f h.0))
