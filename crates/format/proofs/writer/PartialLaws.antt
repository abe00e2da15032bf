-- T15, acceptance: the first bytes of a buffer are accepted as a partial frame exactly where they are what a sound list of items begins to be
-- written as.
-- Assumes nothing.
use Prim.Native.Nat.{ℕ, suc, ◌+◌, ◌*◌, ◌%◌, ◌<◌, ◌≤◌}
use mathlib.Core.Path.{◌≡◌, refl, sym, ap, ap₂, subst, ◌∙◌}
use mathlib.Core.List.{List, [], ◌∷◌}
use mathlib.Core.Bool.{Bool, true, false, ◌&&◌}
use native.Mathlib.Omega.{arith}
use lib.Dec.{leb, eqb}
use lib.ListN.{length, get_or, take, drop}
use lib.Seq.{get_or-take, length-take-le}
use borrow.Author.Tests.{leb-true, eqb-true, le-leb, eq-eqb}
use Rattle.format.specs.Words.{pick, Bytes, words, bytes, word_at}
use Rattle.format.specs.Answers.{Outcome, accepted, refused, and_then}
use Rattle.format.specs.Items.{Item, tokens}
use Rattle.format.specs.Rules.{Kind}
use Rattle.format.specs.Frames.{start_word, all_words, kind_in, card_in, walk}
use Rattle.format.specs.Writing.{Partial, partial_words, partial_fault, partial_body, partial_of, partial_judged, partial_verdict}
use Rattle.format.specs.WriterCases.{Begun, partial_length, PartialHead}
use Rattle.format.proofs.book.PrefixLaws.{and_left, and_right}
use Rattle.format.proofs.items.WordLaws.{words_bytes, bytes_words, length_words, length_bytes, word_at_lem, words_below, below_take, below_drop}
use Rattle.format.proofs.verdict.WalkLaws.{walk_sound, walk_complete}
use Rattle.format.proofs.verdict.HeadLaws.{start_word_lem, Starts, starts, three_first}

-- ---- what an accepted answer says of the tests before it

pub accepted_is : {A : Type 0} (a b : A) → accepted a ≡ accepted b → a ≡ b
accepted_is a b e = cc

pub kept : {A : Type 0} (b : Bool) (o : Outcome A) (n p : ℕ) (a : A) → pick b o (refused n p) ≡ accepted a → (b ≡ true) × (o ≡ accepted a)
kept true o n p a e = (refl, e)
kept false o n p a e = let z : ◌≡◌ {A = ℕ} 0 1 = cc in absurd (omega arith)

pub then_kept : {A B : Type 0} (o : Outcome A) (f : A → Outcome B) (b : B) → and_then o f ≡ accepted b → (a : A) × (o ≡ accepted a) × (f a ≡ accepted b)
then_kept (accepted a) f b e = (a, refl, e)
then_kept (refused n p) f b e = let z : ◌≡◌ {A = ℕ} 0 1 = cc in absurd (omega arith)

-- ---- the first four rules

-- what rule 1 says of the length
pub record Measured (buf : List ℕ) (n : ℕ) : Type 0 where
  pub even : n % 2 ≡ 0
  pub least : 6 ≤ n
  pub most : n ≤ 8190
  pub inside : n ≤ length buf

pub measured_of : (buf : List ℕ) (n : ℕ) → partial_length buf n ≡ true → Measured buf n
measured_of buf n t =
    let u = and_left (eqb (n % 2) 0 && leb 6 n && leb n 8190) (leb n (length buf)) t in
    let v = and_left (eqb (n % 2) 0 && leb 6 n) (leb n 8190) u in
    record {
      even = eqb-true _ _ (and_left (eqb (n % 2) 0) (leb 6 n) v);
      least = leb-true _ _ (and_right (eqb (n % 2) 0) (leb 6 n) v);
      most = leb-true _ _ (and_right (eqb (n % 2) 0 && leb 6 n) (leb n 8190) u);
      inside = leb-true _ _ (and_right (eqb (n % 2) 0 && leb 6 n && leb n 8190) (leb n (length buf)) t);
    }

measured_is : (buf : List ℕ) (n : ℕ) → Measured buf n → partial_length buf n ≡ true
measured_is buf n m = rw (eq-eqb (n % 2) 0 m.even, le-leb 6 n m.least, le-leb n 8190 m.most, le-leb n (length buf) m.inside)

none_broken : (b : Bool) (x n : ℕ) → pick b x (suc n) ≡ 0 → (b ≡ true) × (x ≡ 0)
none_broken true x n e = (refl, e)
none_broken false x n e = absurd (omega arith)

pub partial_head : (buf : List ℕ) (n : ℕ) → partial_fault buf n ≡ 0 → PartialHead buf n
unfolding partial_fault
partial_head buf n e =
    let (t₁, e₁) = none_broken _ _ 0 e in
    let (t₂, e₂) = none_broken _ _ 1 e₁ in
    let (t₃, e₃) = none_broken _ _ 2 e₂ in
    let (t₄, e₄) = none_broken _ _ 3 e₃ in
    record { measured = t₁; started = t₂; sized = eqb-true _ _ t₃; sequence = leb-true _ _ t₄ }

head_zero : (buf : List ℕ) (n : ℕ) → PartialHead buf n → partial_fault buf n ≡ 0
unfolding partial_fault
head_zero buf n h = rw (h.measured, h.started, eq-eqb (word_at buf 1) 0 h.sized, le-leb (word_at buf 2) 0x0100 h.sequence)

-- ---- T15

-- a word of the first n bytes
taken_word : (buf : List ℕ) (n i : ℕ) → 2 * i + 2 ≤ n → get_or (words (take n buf)) i 0 ≡ word_at buf i
taken_word buf n i h =
    word_at_lem (take n buf) i
    ∙ ap₂ (λ (a b : ℕ). a + 256 * b) (get_or-take n buf (2 * i) 0 (omega arith)) (get_or-take n buf (2 * i + 1) 0 (omega arith))

three_words : (a a' b b' c c' : ℕ) (r r' : List ℕ) → a ≡ a' → b ≡ b' → c ≡ c' → r ≡ r' → a ∷ b ∷ c ∷ r ≡ a' ∷ b' ∷ c' ∷ r'
three_words a a' b b' c c' r r' p q u v = cc

partial_is : (buf : List ℕ) (n : ℕ) → Bytes buf → PartialHead buf n → (xs : List Item) → drop 3 (words (take n buf)) ≡ all_words xs
    → take n buf ≡ bytes (partial_words (kind_in buf) (card_in buf) (word_at buf 2) xs)
unfolding partial_words
partial_is buf n bs h xs r =
    let m = measured_of buf n h.measured in
    let e = m.even in
    let l : length (take n buf) ≡ n = length-take-le n buf m.inside in
    let k = length_words (take n buf) in
    let least = m.least in
    sym (bytes_words (take n buf) (omega arith) (below_take n buf 256 (omega arith) bs))
    ∙ ap bytes
    (three_first (words (take n buf)) (omega arith)
    ∙ three_words _ _ _ _ _ _ _ _
    (taken_word buf n 0 (omega arith) ∙ start_word_lem (word_at buf 0) h.started)
    (taken_word buf n 1 (omega arith) ∙ h.sized)
    (taken_word buf n 2 (omega arith))
    r)

-- a walk that is accepted
pub partial_walked : (buf : List ℕ) → Bytes buf → (n : ℕ) (q : List Item) → PartialHead buf n → walk (kind_in buf) (card_in buf) [] 3 (partial_body buf n) ≡ accepted q
    → (xs : List Item) × Begun buf n (record { kind = kind_in buf; card = card_in buf; sequence = word_at buf 2; earlier = q }) xs
partial_walked buf bs n q h w =
    let ws = drop 3 (words (take n buf)) in
    let below = below_drop 3 (words (take n buf)) 65536 (words_below (take n buf) (below_take n buf 256 (omega arith) bs)) in
    let s = walk_sound (kind_in buf) (card_in buf) (length ws) [] 3 ws q (omega arith) below w in
    let m = measured_of buf n h.measured in (
      s.items,
      record {
        card = below_32 (word_at buf 0);
        sequence = h.sequence;
        sound = s.sound;
        earlier = s.earlier;
        most = m.most;
        inside = m.inside;
        written = partial_is buf n bs h s.items s.written;
      },
    )
  where
    below_32 : (w : ℕ) → w % 32 ≤ 31
    below_32 w = omega arith

pub partial_sound : (buf : List ℕ) → Bytes buf → (n : ℕ) (f : Partial) → partial_verdict buf n ≡ accepted f → (xs : List Item) × Begun buf n f xs
unfolding partial_verdict partial_judged
partial_sound buf bs n f e =
    let (t, g) = kept _ _ _ _ _ e in
    let (q, w, a) = then_kept (walk (kind_in buf) (card_in buf) [] 3 (partial_body buf n)) (partial_of buf) f g in
    let (xs, b) = partial_walked buf bs n q (partial_head buf n (eqb-true _ _ t)) w in
    (xs, subst (λ (f : Partial). Begun buf n f xs) (accepted_is _ _ a) b)

-- three words and the items'
pub partial_length_lem : (kind : Kind) (card sequence : ℕ) (xs : List Item) → length (bytes (partial_words kind card sequence xs)) ≡ 2 * (3 + length (all_words xs))
unfolding partial_words
partial_length_lem kind card sequence xs = length_bytes (partial_words kind card sequence xs) ∙ omega arith

module _ (buf : List ℕ) (n : ℕ) (f : Partial) (xs : List Item) (b : Begun buf n f xs) where
  words_are : words (take n buf) ≡ partial_words f.kind f.card f.sequence xs
  words_are = ap words b.written ∙ words_bytes (partial_words f.kind f.card f.sequence xs)

  pub begun_length : n ≡ 2 * (3 + length (all_words xs))
  begun_length = sym (length-take-le n buf b.inside) ∙ ap length b.written ∙ partial_length_lem f.kind f.card f.sequence xs

  word_is : (i : ℕ) → i < 3 → word_at buf i ≡ get_or (partial_words f.kind f.card f.sequence xs) i 0
  word_is i h = sym (taken_word buf n i (omega (arith, begun_length))) ∙ ap (λ (ws : List ℕ). get_or ws i 0) words_are

  first_is : word_at buf 0 ≡ start_word f.kind f.card
  unfolding partial_words
  first_is = word_is 0 (omega arith)

  second_is : word_at buf 1 ≡ 0
  unfolding partial_words
  second_is = word_is 1 (omega arith)

  third_is : word_at buf 2 ≡ f.sequence
  unfolding partial_words
  third_is = word_is 2 (omega arith)

  start_is : Starts f.kind f.card (word_at buf 0)
  start_is = subst (Starts f.kind f.card) (sym first_is) (starts f.kind f.card b.card)

  head_is : PartialHead buf n
  head_is =
      let l = begun_length in
      record {
        measured = measured_is buf n (record { even = omega arith; least = omega arith; most = b.most; inside = b.inside });
        started = start_is.fits;
        sized = second_is;
        sequence = omega (arith, third_is, b.sequence);
      }

  body_is : partial_body buf n ≡ tokens 0 (all_words xs)
  unfolding partial_words
  body_is = ap (λ (ws : List ℕ). tokens 0 (drop 3 ws)) words_are

  walk_is : walk (kind_in buf) (card_in buf) [] 3 (partial_body buf n) ≡ accepted f.earlier
  walk_is =
      ap₂ (λ (k : Kind) (c : ℕ). walk k c [] 3 (partial_body buf n)) start_is.kind_is start_is.card_is
      ∙ ap (walk f.kind f.card [] 3) body_is
      ∙ walk_complete f.kind f.card xs [] 3 b.sound
      ∙ ap accepted (sym b.earlier)

  content_is : record { kind = kind_in buf; card = card_in buf; sequence = word_at buf 2; earlier = f.earlier } ≡ f
  content_is = λ i. record { kind = start_is.kind_is i; card = start_is.card_is i; sequence = third_is i; earlier = f.earlier }

  judged_is : partial_judged buf n ≡ accepted f
  unfolding partial_judged
  judged_is = ap (λ (o : Outcome (List Item)). and_then o (partial_of buf)) walk_is ∙ ap accepted content_is

  pub partial_complete : partial_verdict buf n ≡ accepted f
  unfolding partial_verdict
  partial_complete = rw (head_zero buf n head_is) judged_is
