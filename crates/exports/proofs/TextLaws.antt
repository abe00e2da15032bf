-- Where a text lies in its frame, by what the item question answers flat.
-- Assumes nothing.
use Prim.Native.Nat.{ℕ, ◌+◌, ◌-◌, ◌*◌, ◌/◌, ◌≤◌, ◌<◌}
use mathlib.Core.Path.{◌≡◌, refl, sym, ap, ap₂, subst, ◌∙◌}
use mathlib.Core.List.{List}
use native.Mathlib.Omega.{arith}
use lib.ListN.{length, take, drop, length-take, length-drop}
use Rattle.format.specs.Words.{Bytes}
use Rattle.format.specs.Answers.{Outcome, accepted, refused}
use Rattle.format.specs.Items.{ItemOf, Channel, Histogram, HitCount, Sample, Bin, LastCell, TimeBin, Text, StartEvent, ContinueEvent, EndEvent}
use Rattle.format.specs.Questions.{IndexedShown, shown_at, text_at}
use Rattle.frame.specs.Parts.{text_count, text_from}
use Rattle.frame.proofs.Finding.{Empty, text_refused, text_none, text_part}
use Rattle.exports.specs.declared.answers.PlaneFound.{PlaneFound}
use Rattle.exports.specs.declared.answers.PlaneText.{PlaneText}
use Rattle.exports.specs.Flat.{flat_item, flat_found}
use Rattle.exports.specs.Promises.{TextPart}

length_is : (y : ItemOf ℕ) → (flat_item y).length ≡ text_count y
unfolding flat_item
length_is (Channel a b c) = refl
length_is (Histogram a b c) = refl
length_is (HitCount a b c) = refl
length_is (Sample v) = refl
length_is (Bin b n) = refl
length_is (LastCell a b) = refl
length_is (TimeBin t) = refl
length_is (Text n) = refl
length_is (StartEvent t ts n) = refl
length_is (ContinueEvent n) = refl
length_is (EndEvent n) = refl

module _ (s : List ℕ) (n : ℕ) where
  -- an empty part, at the frame's start
  none : Empty s n → (r : PlaneText) → (r.offset ≡ 0) × (r.length ≡ 0) → TextPart s n r
  none e r z = record { begins = z.0 ∙ e.1; long = z.1 ∙ ap length e.0; bytes_are = ap (λ (k : ℕ). take k (drop r.offset s)) z.1 ∙ e.0 }

  pub text_empty : (f : PlaneFound) → f ≡ flat_found (shown_at s n) → f.item.length < 1 → (r : PlaneText) → (r.offset ≡ 0) × (r.length ≡ 0) → TextPart s n r
  unfolding flat_found
  text_empty f e h r z = go (shown_at s n) refl (subst (λ (g : PlaneFound). g.item.length < 1) e h)
    where
      go : (o : Outcome IndexedShown) → shown_at s n ≡ o → (flat_found o).item.length < 1 → TextPart s n r
      go (refused k p) i l = none (text_refused s n k p (sym i)) r z
      go (accepted x) i l = none (text_none s n x.index x.item x.next (sym i) (flat_item x.item).length (length_is x.item) l) r z

  -- a text of so many bytes, the final zero included, that ends before word `next`
  pub record There (next count : ℕ) : Type 0 where
    pub after_word : (count + 1) / 2 ≤ next
    pub inside : 2 * (next - (count + 1) / 2) + (count - 1) ≤ length s
    pub part : Bytes s → TextPart s n (record { offset = 2 * (next - (count + 1) / 2); length = count - 1 })

  there_in : (x : IndexedShown) → accepted x ≡ shown_at s n → 1 ≤ (flat_item x.item).length → There x.next (flat_item x.item).length
  there_in x e h =
      let p = text_part s n x.index x.item x.next e (flat_item x.item).length (length_is x.item) h in
      let from = 2 * (x.next - ((flat_item x.item).length + 1) / 2) in
      let size = (flat_item x.item).length - 1 in
      let same : from + size - from ≡ size = omega arith in
      let i = p.inside in
      let whole : Bytes s → take size (drop from s) ≡ text_at s n = λ bs. ap (λ (k : ℕ). take k (drop from s)) (sym same) ∙ p.bytes_are bs in
      let long : length (take size (drop from s)) ≡ size = simp (length-take, length-drop) (omega arith) in
      record {
        after_word = p.after_word;
        inside = p.inside;
        part = λ bs. record { begins = p.from_is; long = sym long ∙ ap length (whole bs); bytes_are = whole bs };
      }

  pub there : (f : PlaneFound) → f ≡ flat_found (shown_at s n) → 1 ≤ f.item.length → There f.next f.item.length
  unfolding flat_found
  there f e h = subst (λ (g : PlaneFound). There g.next g.item.length) (sym e) (go (shown_at s n) refl (subst (λ (g : PlaneFound). 1 ≤ g.item.length) e h))
    where
      go : (o : Outcome IndexedShown) → shown_at s n ≡ o → 1 ≤ (flat_found o).item.length → There (flat_found o).next (flat_found o).item.length
      go (refused k p) i l = absurd (omega arith)
      go (accepted x) i l = there_in x (sym i) l
