-- Putting a value, as bytes stored: what they leave of the bytes, and the frame that the new bytes are. T25 follows in StabilityLaws.
-- Assumes nothing.
use Prim.Native.Nat.{ℕ, ◌+◌, ◌*◌}
use mathlib.Core.Path.{◌≡◌, refl, sym, ap, ap₂, subst, ◌∙◌}
use mathlib.Core.List.{List, [], ◌∷◌, ◌++◌, append_assoc}
use mathlib.Core.Logic.{◌↔◌}
use mathlib.Core.Bool.{true}
use mathlib.Core.Option.{Option, none, some}
use native.Mathlib.Omega.{arith}
use lib.ListN.{length, length-append}
use Rattle.format.specs.Words.{Bytes, bytes}
use Rattle.format.specs.Answers.{Outcome, accepted, refused}
use Rattle.format.specs.Items.{Item, words_of, in_range}
use Rattle.format.specs.Rules.{may_end, sized}
use Rattle.format.specs.Frames.{Frame, earlier_then, Sound, start_word, all_words, frame_words, encode, Legal, verdict}
use Rattle.format.specs.Spots.{no_header, Spot, spot_in, spot_for, spot, value_word, value_words, put_for, put, legal_value, with_value, under_all, SpotIs, with_items}
use Rattle.format.proofs.book.PrefixLaws.{and_left}
use Rattle.format.proofs.items.WordLaws.{bytes_append, length_bytes}
use Rattle.format.proofs.items.StoringLaws.{sets_mid}
use Rattle.format.proofs.questions.ItemQuestions.{no_some, all_words_lem}
use Rattle.format.proofs.rules.SoundLaws.{sound_right, sound_head}
use Rattle.format.proofs.rules.AlikeLaws.{sound_with, ended_with}
use Rattle.format.proofs.spots.SpotLaws.{spot_exactly, Valued, valued, replaced, replaced_split, replaced_all}
use Rattle.format.proofs.verdict.Acceptance.{sound, complete}

-- ---- a frame's words in parts

pub length_encode : (f : Frame) → length (encode f) ≡ 2 * (4 + length (all_words f.items))
unfolding encode frame_words
length_encode f = length_bytes (frame_words f) ∙ ap (λ (n : ℕ). 2 * n) (omega (arith, length-append (all_words f.items) (0x000F ∷ [])))

-- the words before an item, where n words are those of all items
fore : Frame → ℕ → List Item → List ℕ
fore f n before = start_word f.kind f.card ∷ (2 * (4 + n)) ∷ f.sequence ∷ all_words before

encode_split : (f : Frame) (n : ℕ) (before : List Item) (x : Item) (after : List Item) (lead m : List ℕ) → f.items ≡ before ++ (x ∷ after)
    → length (all_words f.items) ≡ n → words_of x ≡ lead ++ m
    → encode f ≡ bytes (fore f n before ++ lead) ++ (bytes m ++ bytes (all_words after ++ (0x000F ∷ [])))
unfolding encode frame_words fore all_words
encode_split f n before x after lead m e k q =
    let w : all_words f.items ≡ all_words before ++ ((lead ++ m) ++ all_words after) =
    ap all_words e ∙ all_words_lem before (x ∷ after) ∙ ap (λ (l : List ℕ). all_words before ++ (l ++ all_words after)) q in
    let r : (all_words before ++ ((lead ++ m) ++ all_words after)) ++ (0x000F ∷ []) ≡ (all_words before ++ lead) ++ (m ++ (all_words after ++ (0x000F ∷ []))) = simp append_assoc in
    ap₂ (λ (i : ℕ) (l : List ℕ). bytes (start_word f.kind f.card ∷ (2 * (4 + i)) ∷ f.sequence ∷ (l ++ (0x000F ∷ [])))) k w
    ∙ ap (λ (l : List ℕ). bytes (start_word f.kind f.card ∷ (2 * (4 + n)) ∷ f.sequence ∷ l)) r
    ∙ bytes_append (fore f n before ++ lead) (m ++ (all_words after ++ (0x000F ∷ [])))
    ∙ ap (λ (l : List ℕ). bytes (fore f n before ++ lead) ++ l) (bytes_append m (all_words after ++ (0x000F ∷ [])))

length_fore : (f : Frame) (n : ℕ) (before : List Item) (lead : List ℕ) → length (bytes (fore f n before ++ lead)) ≡ 2 * (3 + length (all_words before) + length lead)
unfolding fore
length_fore f n before lead = length_bytes (fore f n before ++ lead) ∙ ap (λ (k : ℕ). 2 * k) (omega (arith, length-append (all_words before) lead))

-- ---- a frame with the value v in the item at word w

abbrev pub changed : Frame → ℕ → ℕ → Frame
changed f w v = with_items f (replaced 3 f.items w v)

module _ (f : Frame) (w : ℕ) (p : Spot) (is : SpotIs f.items w p) where
  known : Valued (under_all no_header is.before) is.item p
  known = valued (under_all no_header is.before) is.item p is.spot

  pub split : (v : ℕ) → replaced 3 f.items w v ≡ is.before ++ (with_value is.item v ∷ is.after)
  split v = ap (λ (l : List Item). replaced 3 l w v) is.items ∙ replaced_split is.before is.item is.after 3 w v is.index

  -- its bytes are those of the frame with the value's bytes stored
  encode_changed : (v : ℕ) → encode (changed f w v) ≡ put_for (some p) (encode f) w v
  unfolding fore
  encode_changed v =
      let n : ℕ = length (all_words f.items) in
      let lead : List ℕ = known.lead in
      let before : List Item = is.before in
      let rest : List ℕ = bytes (all_words is.after ++ (0x000F ∷ [])) in
      let old : List ℕ = value_words p.kind p.value in
      let new : List ℕ = value_words p.kind v in
      let there : encode f ≡ bytes (fore f n before ++ lead) ++ (bytes old ++ rest) =
      encode_split f n before is.item is.after lead old is.items refl (ap words_of (sym known.own) ∙ known.words p.value) in
      let here : encode (changed f w v) ≡ bytes (fore f n before ++ lead) ++ (bytes new ++ rest) =
      encode_split (changed f w v) n before (with_value is.item v) is.after lead new (split v) (replaced_all 3 f.items w v) (known.words v) in
      let at : length (bytes (fore f n before ++ lead)) ≡ 2 * value_word p.kind w =
      length_fore f n before lead ∙ ap (λ (k : ℕ). 2 * k) (sym (known.starts w ∙ ap (λ (k : ℕ). k + length lead) is.index)) in
      let long : length (bytes new) ≡ length (bytes old) = length_bytes new ∙ ap (λ (k : ℕ). 2 * k) (known.as_long v p.value) ∙ sym (length_bytes old) in
      here
      ∙ sym (ap (λ (l : List ℕ). put_for (some p) l w v) there
      ∙ sets_mid (bytes (fore f n before ++ lead)) (bytes old) rest (bytes new) (2 * value_word p.kind w) at long)

  module _ (l : Legal f) where
    items_sound : Sound f.kind f.card [] (is.before ++ (is.item ∷ is.after))
    items_sound = subst (Sound f.kind f.card []) is.items l.sound

    in_range_lem : in_range f.card is.item ≡ true
    in_range_lem =
        let a = sound_head f.kind f.card (earlier_then [] is.before) is.item is.after (sound_right f.kind f.card [] is.before (is.item ∷ is.after) items_sound) in
        and_left (in_range f.card is.item) (sized (earlier_then [] is.before) is.item) a.valued

    pub standing_legal : legal_value p.kind p.value ≡ true
    standing_legal = known.standing f.card in_range_lem

    pub legal_changed : (v : ℕ) → legal_value p.kind v ≡ true → Legal (changed f w v)
    legal_changed v h =
        record {
          card = l.card;
          sequence = l.sequence;
          sound = subst (Sound f.kind f.card []) (sym (split v))
              (sound_with f.kind f.card is.before is.item is.after v [] (known.ranged f.card v in_range_lem h) items_sound);
          ended = ap (λ (xs : List Item). may_end (earlier_then [] xs)) (split v)
              ∙ ended_with is.before is.item is.after v
              ∙ ap (λ (xs : List Item). may_end (earlier_then [] xs)) (sym is.items)
              ∙ l.ended;
          short = let m = length_encode f in let n = length_encode (changed f w v) in let s = l.short in let k = replaced_all 3 f.items w v in omega arith;
        }

-- ---- the bytes

-- a spot stands in an accepted frame
pub record Stands (s : List ℕ) (w : ℕ) (p : Spot) : Type 0 where
  pub frame : Frame
  pub accepted : verdict s ≡ accepted frame
  pub is : SpotIs frame.items w p

pub stands : (s : List ℕ) (w : ℕ) (p : Spot) → spot s w ≡ some p → Stands s w p
unfolding spot
stands s w p e = go (verdict s) refl e
  where
    go : (o : Outcome Frame) → verdict s ≡ o → spot_for o w ≡ some p → Stands s w p
    go (accepted f) v h = record { frame = f; accepted = v; is = (spot_exactly f.items w p).0 h }
    go (refused n q) v h = no_some p h

pub spot_in_lem : (s : List ℕ) (f : Frame) (w : ℕ) → verdict s ≡ accepted f → spot s w ≡ spot_in no_header 3 f.items w
unfolding spot
spot_in_lem s f w v = ap (λ (o : Outcome Frame). spot_for o w) v

-- D15 by the list's split: a spot stands at word w of an accepted frame exactly where an item is that spot and the words before it end there
pub spot_is : (s : List ℕ) (f : Frame) (w : ℕ) (p : Spot) → verdict s ≡ accepted f → (spot s w ≡ some p) ↔ SpotIs f.items w p
spot_is s f w p v = (λ e. (spot_exactly f.items w p).0 (sym (spot_in_lem s f w v) ∙ e), λ i. spot_in_lem s f w v ∙ (spot_exactly f.items w p).1 i)

pub spot_refused : (s : List ℕ) (n q w : ℕ) → verdict s ≡ refused n q → spot s w ≡ none
unfolding spot
spot_refused s n q w v = ap (λ (o : Outcome Frame). spot_for o w) v

pub put_stores : (s : List ℕ) (w v : ℕ) (p : Spot) → spot s w ≡ some p → put s w v ≡ put_for (some p) s w v
unfolding put
put_stores s w v p e = ap (λ (o : Option Spot). put_for o s w v) e

pub put_nowhere : (s : List ℕ) (w v : ℕ) → spot s w ≡ none → put s w v ≡ s
unfolding put
put_nowhere s w v e = ap (λ (o : Option Spot). put_for o s w v) e

-- an accepted frame with a value put is the changed frame's bytes, and accepted as that frame
module _ (s : List ℕ) (y : Bytes s) (f : Frame) (a : verdict s ≡ accepted f) (w : ℕ) (p : Spot) (e : spot s w ≡ some p) (v : ℕ) where
  is_there : SpotIs f.items w p
  is_there = (spot_is s f w p a).0 e

  pub put_encode : put s w v ≡ encode (changed f w v)
  put_encode =
      put_stores s w v p e
      ∙ ap (λ (l : List ℕ). put_for (some p) l w v) (sound s y f a).1
      ∙ sym (encode_changed f w p is_there v)

  pub put_changed : legal_value p.kind v ≡ true → verdict (put s w v) ≡ accepted (changed f w v)
  put_changed h = ap verdict put_encode ∙ complete (changed f w v) (legal_changed f w p is_there (sound s y f a).0 v h)
