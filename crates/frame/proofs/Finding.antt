-- From the noted index to the answer of the item question, and from that to the part that the text question gives.
-- Assumes nothing.
use Prim.Native.Nat.{ℕ, zero, suc, ◌+◌, ◌-◌, ◌*◌, ◌/◌, ◌≤◌, ◌<◌}
use mathlib.Core.Path.{◌≡◌, refl, sym, ap, ap₂, subst, ◌∙◌}
use mathlib.Core.List.{List, [], ◌∷◌, ◌++◌}
use mathlib.Core.Option.{none, some}
use native.Mathlib.Omega.{arith}
use lib.ListN.{length, take, drop, length-append}
use Rattle.format.specs.Words.{Bytes}
use Rattle.format.specs.Answers.{Outcome, accepted, refused, and_then}
use Rattle.format.specs.Book.{after}
use Rattle.format.specs.Items.{ItemOf, Item, Channel, Histogram, HitCount, Sample, Bin, LastCell, TimeBin, Text, StartEvent, ContinueEvent, EndEvent, words_of, whole}
use Rattle.format.specs.Frames.{Frame, all_words, last_of, verdict}
use Rattle.format.specs.Stands as stands
use Rattle.format.specs.Stands.{ItemIs}
use Rattle.format.specs.Steps.{token_at, next_at, Indexed, index_of}
use Rattle.format.specs.Cursor.{standing_at, shown_by}
use Rattle.format.specs.Questions.{shown, Shown, showing, IndexedItem, item_at, IndexedShown, shown_at, text_found, text_at}
use Rattle.format.proofs.items.WordLaws.{length_words}
use Rattle.format.proofs.reader.StepLaws.{next_at_lem}
use Rattle.format.proofs.questions.ItemQuestions.{item_there}
use Rattle.format.proofs.reader.Placed.{answer_at, item_standing, index_refused, found_placed}
use Rattle.format.proofs.reader.TextPlaced.{texted}
use Rattle.frame.specs.Parts.{text_count, from_found, text_from}

-- ---- the item question

module _ (s : List ℕ) (n : ℕ) where
  pub shown_refused : (k p : ℕ) → refused k p ≡ index_of s n → refused k p ≡ shown_at s n
  unfolding shown_at
  shown_refused k p e = rw (index_refused s n k p e)

  -- what stands at the index that the walk noted, and that nothing does
  pub item_found : (i : Indexed) → accepted i ≡ index_of s n → (x : Shown) → some x ≡ shown_by (standing_at s i.index) → (at : ℕ) → at ≡ i.index
      → accepted (record { index = at; item = x.item; next = x.next }) ≡ shown_at s n
  item_found i e x f at k = ap₂ answer_at k f ∙ item_standing s n i e

  pub item_missing : (i : Indexed) → accepted i ≡ index_of s n → none ≡ shown_by (standing_at s i.index) → refused 13 0 ≡ shown_at s n
  item_missing i e f = ap (answer_at i.index) f ∙ item_standing s n i e

  -- ---- the text question

  -- what was found, before it is shown
  record Behind (y : ItemOf ℕ) (next : ℕ) : Type 0 where
    found : IndexedItem
    found_is : item_at s n ≡ accepted found
    item_is : y ≡ shown found.item
    next_is : next ≡ found.next

  item_of : (a b : IndexedShown) → accepted a ≡ accepted b → a ≡ b
  item_of a b e = cc

  behind : (at : ℕ) (y : ItemOf ℕ) (next : ℕ) → accepted (record { index = at; item = y; next = next }) ≡ shown_at s n → Behind y next
  unfolding shown_at
  behind at y next e = go (item_at s n) refl e
    where
      go : (o : Outcome IndexedItem) → item_at s n ≡ o → accepted (record { index = at; item = y; next = next }) ≡ and_then o (λ r. accepted (showing r)) → Behind y next
      go (accepted r) f g =
          let h = item_of _ _ g in
          record { found = r; found_is = f; item_is = ap (λ (a : IndexedShown). a.item) h; next_is = ap (λ (a : IndexedShown). a.next) h }
      go (refused k p) f g = cc

  -- an empty part, at the frame's start
  abbrev pub Empty : Type 0
  Empty = ([] ≡ text_at s n) × (0 ≡ text_from s n)

  empty : (o : Outcome IndexedItem) → item_at s n ≡ o → [] ≡ text_found o → 0 ≡ from_found o → Empty
  unfolding text_at text_from
  empty o e a b = (a ∙ ap text_found (sym e), b ∙ ap from_found (sym e))

  pub text_refused : (k p : ℕ) → refused k p ≡ shown_at s n → Empty
  unfolding shown_at
  text_refused k p e = go (item_at s n) refl e
    where
      go : (o : Outcome IndexedItem) → item_at s n ≡ o → refused k p ≡ and_then o (λ r. accepted (showing r)) → Empty
      go (accepted r) f g = cc
      go (refused j q) f g = empty (refused j q) f refl refl

  module _ (at : ℕ) (y : ItemOf ℕ) (next : ℕ) (e : accepted (record { index = at; item = y; next = next }) ≡ shown_at s n) (c : ℕ) (q : c ≡ text_count y) where
    pub text_none : c < 1 → Empty
    text_none l =
        let b = behind at y next e in
        go b.found.index b.found.item b.found.next b.found_is (q ∙ ap text_count b.item_is)
      where
        go : (h : ℕ) (x : Item) (k : ℕ) → item_at s n ≡ accepted (record { index = h; item = x; next = k }) → c ≡ text_count (shown x) → Empty
        go h (Channel i j l) k f g = empty _ f refl refl
        go h (Histogram i j l) k f g = empty _ f refl refl
        go h (HitCount i j l) k f g = empty _ f refl refl
        go h (Sample v) k f g = empty _ f refl refl
        go h (Bin i j) k f g = empty _ f refl refl
        go h (LastCell i j) k f g = empty _ f refl refl
        go h (TimeBin t) k f g = empty _ f refl refl
        go h (Text t) k f g = absurd (omega arith)
        go h (StartEvent i j l) k f g = empty _ f refl refl
        go h (ContinueEvent i) k f g = empty _ f refl refl
        go h (EndEvent i) k f g = empty _ f refl refl

    -- a text of c bytes, the final zero included, that ends before word `next`
    pub record Part : Type 0 where
      pub after_word : (c + 1) / 2 ≤ next
      pub inside : 2 * (next - (c + 1) / 2) + (c - 1) ≤ length s
      pub bytes_are : Bytes s → take (2 * (next - (c + 1) / 2) + (c - 1) - 2 * (next - (c + 1) / 2)) (drop (2 * (next - (c + 1) / 2)) s) ≡ text_at s n
      pub from_is : 2 * (next - (c + 1) / 2) ≡ text_from s n

    text_part_of : 1 ≤ c → (t : List ℕ) (i k at : ℕ) → next ≡ k → c ≡ length t + 1 → item_at s n ≡ accepted (record { index = i; item = Text t; next = k })
        → at < last_of s → token_at s (last_of s) at ≡ whole (Text t) → k ≡ next_at s at → Part
    unfolding text_at text_from words_of
    text_part_of p t i k at nk ct f h tok kn =
        let room : 2 * last_of s ≤ length s = omega arith in
        let wide : 2 * last_of s ≤ length s + 1 = omega arith in
        let w = next_at_lem s (last_of s) wide at (Text t) h tok in
        let v = w.wide in
        let b = w.within in
        let m = length_words (t ++ (0 ∷ [])) in
        let l = length-append t (0 ∷ []) in
        let here : next - (c + 1) / 2 ≡ at + 1 = omega arith in
        let r = texted s (last_of s) at room h t tok in
        let long : 2 * (next - (c + 1) / 2) + (c - 1) - 2 * (next - (c + 1) / 2) ≡ length t = omega arith in
        record {
          after_word = omega arith;
          inside = omega arith;
          bytes_are = λ y. ap₂ (λ (i j : ℕ). take i (drop (2 * j) s)) long here ∙ sym (r.part y) ∙ sym (ap text_found f);
          from_is = omega arith ∙ sym (ap from_found f);
        }

    pub text_part : 1 ≤ c → Part
    text_part p =
        let b = behind at y next e in
        go b.found.index b.found.item b.found.next b.found_is b.next_is (q ∙ ap text_count b.item_is)
      where
        found_of : (a b : IndexedItem) → accepted a ≡ accepted b → a ≡ b
        found_of a b f = cc

        go : (h : ℕ) (x : Item) (k : ℕ) → item_at s n ≡ accepted (record { index = h; item = x; next = k }) → next ≡ k → c ≡ text_count (shown x) → Part
        go h (Channel i j l) k f nk g = absurd (omega arith)
        go h (Histogram i j l) k f nk g = absurd (omega arith)
        go h (HitCount i j l) k f nk g = absurd (omega arith)
        go h (Sample v) k f nk g = absurd (omega arith)
        go h (Bin i j) k f nk g = absurd (omega arith)
        go h (LastCell i j) k f nk g = absurd (omega arith)
        go h (TimeBin t) k f nk g = absurd (omega arith)
        go h (Text t) k f nk g =
            let (at, w) = found_placed s n (record { index = h; item = Text t; next = k }) f in
            let r = found_of _ _ (sym w.answer ∙ f) in
            let a = w.further in
            let b = w.within in
            text_part_of p t h k at nk g f (omega arith) (w.token ∙ ap (λ (z : IndexedItem). whole z.item) r) (sym (ap (λ (z : IndexedItem). z.next) r))
        go h (StartEvent i j l) k f nk g = absurd (omega arith)
        go h (ContinueEvent i) k f nk g = absurd (omega arith)
        go h (EndEvent i) k f nk g = absurd (omega arith)

-- ---- T11, where the part begins: of an accepted frame's item n, a text, right after its word

next_index : (n : ℕ) (before after : List Item) (x : Item) → length before ≡ n
    → length (all_words (take (suc n) (before ++ (x ∷ after)))) ≡ length (all_words (take n (before ++ (x ∷ after)))) + length (words_of x)
unfolding all_words
next_index zero [] after x e = omega (arith, length-append (words_of x) [])
next_index zero (y ∷ before) after x e = absurd (omega arith)
next_index (suc n) [] after x e = absurd (omega arith)
next_index (suc n) (y ∷ before) after x e =
    let a = length-append (words_of y) (all_words (take (suc n) (before ++ (x ∷ after)))) in
    let b = length-append (words_of y) (all_words (take n (before ++ (x ∷ after)))) in
    omega (arith, a, b, next_index n before after x (omega arith))

pub text_begins : (s : List ℕ) (f : Frame) → verdict s ≡ accepted f → (n : ℕ) (t : List ℕ) → ItemIs f.items n (Text t)
    → text_from s n ≡ 2 * stands.index_of f.items n + 2
unfolding text_from
text_begins s f v n t h =
    let i = subst (λ (xs : List Item). length (all_words (take (suc n) xs)) ≡ length (all_words (take n xs)) + length (words_of (Text t))) (sym h.items) (next_index n h.before h.after (Text t) h.ordinal) in
    ap from_found (item_there s f v n (Text t) h) ∙ omega arith
