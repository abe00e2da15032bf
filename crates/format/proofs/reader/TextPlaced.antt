-- A text that stands at a word: its bytes are those of the frame right after that word.
-- Assumes nothing.
use Prim.Native.Nat.{ℕ, ◌+◌, ◌-◌, ◌*◌, ◌%◌, ◌<◌, ◌≤◌}
use mathlib.Core.Path.{◌≡◌, refl, sym, ap, ap₂, ◌∙◌}
use mathlib.Core.List.{List}
use mathlib.Core.Bool.{Bool, true, false, true≢false}
use mathlib.Core.Option.{Option, none, some}
use native.Mathlib.Omega.{arith}
use lib.Dec.{eqb}
use lib.ListN.{length, take, drop}
use lib.Seq.{take-take, length-take-le}
use Rattle.format.specs.Words.{Bytes, pick, words, bytes, word_at, long_of}
use Rattle.format.specs.Book.{Class, channel, histogram, hit_count, sample, bin, last_cell, time_bin, data_frame, monitor_frame, command_frame, text, start_event, continue_event, end_event, frame_end, unassigned, class_of, after, text_words}
use Rattle.format.specs.Items.{Item, Text, ContinueEvent, EndEvent, class_for, closed, decode, whole}
use Rattle.format.specs.Rules.{same}
use Rattle.format.specs.Steps.{token_at}
use Rattle.format.proofs.items.TextLaws.{text_back}
use Rattle.format.proofs.items.ItemLaws.{token_passed}
use Rattle.format.proofs.reader.StepLaws.{left_after}
use Rattle.format.proofs.questions.ItemQuestions.{no_some, some_is}
use Rattle.format.proofs.items.PartLaws.{payload_bytes}

-- only a Text word is read as a text, and only where its bytes are closed
record Closed (c : Class) (w : ℕ) (ws t : List ℕ) : Type 0 where
  class : c ≡ text
  closes : closed (w % 256) (bytes ws) ≡ true
  is : t ≡ take (w % 256 - 1) (bytes ws)

other : {A : Type 0} (x : Item) (t : List ℕ) → same text (class_for x) ≡ false → some x ≡ some (Text t) → A
other x t n e = absurd (true≢false (ap (λ (y : Item). same text (class_for y)) (sym (some_is x (Text t) e)) ∙ n))

kept : (b : Bool) (o : Option Item) (x : Item) → pick b o none ≡ some x → (b ≡ true) × (o ≡ some x)
kept true o x e = (refl, e)
kept false o x e = no_some x e

decode_text : (c : Class) (w : ℕ) (ws t : List ℕ) → decode c w ws ≡ some (Text t) → Closed c w ws t
unfolding decode
decode_text channel w ws t e = other _ t refl e
decode_text histogram w ws t e = other _ t refl e
decode_text hit_count w ws t e = other _ t refl e
decode_text sample w ws t e = other _ t refl e
decode_text bin w ws t e = other _ t refl e
decode_text last_cell w ws t e = other _ t refl e
decode_text time_bin w ws t e = other _ t refl e
decode_text data_frame w ws t e = no_some (Text t) e
decode_text monitor_frame w ws t e = no_some (Text t) e
decode_text command_frame w ws t e = no_some (Text t) e
decode_text text w ws t e =
    let (c, f) = kept (closed (w % 256) (bytes ws)) (some (Text (take (w % 256 - 1) (bytes ws)))) (Text t) e in
    record { class = refl; closes = c; is = inner _ _ (some_is _ _ f) }
  where
    inner : (u v : List ℕ) → ◌≡◌ {A = Item} (Text u) (Text v) → v ≡ u
    inner u v g = cc
decode_text start_event w ws t e = other _ t refl e
decode_text continue_event w ws t e =
    let (c, f) = kept (eqb (w % 512) 0) (some (ContinueEvent (long_of ws))) (Text t) e in
    other (ContinueEvent (long_of ws)) t refl f
decode_text end_event w ws t e =
    let (c, f) = kept (eqb (w % 16) 0) (some (EndEvent (long_of ws))) (Text t) e in
    other (EndEvent (long_of ws)) t refl f
decode_text frame_end w ws t e = no_some (Text t) e
decode_text unassigned w ws t e = no_some (Text t) e

module _ (s : List ℕ) (last at : ℕ) (room : 2 * last ≤ length s) (h : at < last) (t : List ℕ) (e : token_at s last at ≡ whole (Text t)) where
  -- its word holds its n
  pub record Texted : Type 0 where
    pub counted : word_at s at % 256 ≡ length t + 1
    pub words_after : at + 1 + text_words (word_at s at) ≤ last
    pub part : Bytes s → t ≡ take (length t) (drop (2 * (at + 1)) s)

  pub texted : Texted
  unfolding token_at
  texted =
      let w : ℕ = word_at s at in
      let ws : List ℕ = drop (at + 1) (take last (words s)) in
      let p = token_passed w ws (Text t) e in
      let d = decode_text (class_of w) w (take (after (class_of w) w) ws) t p.read in
      let k : after (class_of w) w ≡ text_words w = ap (λ (c : Class). after c w) d.class in
      let i : take (after (class_of w) w) ws ≡ take (text_words w) ws = ap (λ (m : ℕ). take m ws) k in
      let a : after (class_of w) w ≤ length ws = p.there in
      let l : length ws ≡ last - (at + 1) = left_after s last (omega arith) at in
      let m : text_words w ≤ last - (at + 1) = omega arith in
      let c : closed (w % 256) (bytes (take (text_words w) ws)) ≡ true = ap (λ (u : List ℕ). closed (w % 256) (bytes u)) (sym i) ∙ d.closes in
      let b : t ≡ take (w % 256 - 1) (bytes (take (text_words w) ws)) = d.is ∙ ap (λ (u : List ℕ). take (w % 256 - 1) (bytes u)) i in
      let r = text_back (w % 256) (take (text_words w) ws) c (length-take-le (text_words w) ws (omega arith)) in
      let n : length t ≡ w % 256 - 1 = ap length b ∙ r.long in
      let least : 1 ≤ w % 256 = r.least in
      record {
        counted = omega arith;
        words_after = omega arith;
        part = λ y.
            b ∙ ap₂ take (sym n) (payload_bytes s last at (text_words w) y room (omega arith))
            ∙ take-take (length t) (2 * text_words w) (drop (2 * (at + 1)) s) (omega arith);
      }
