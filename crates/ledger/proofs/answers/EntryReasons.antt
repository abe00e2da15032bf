-- What makes a value illegal, a signer none, a header wrong and an entry unfit (specs/Reasons.antt), against the tests that say so.
-- Assumes nothing.
use Prim.Native.Nat.{ℕ, ◌+◌, ◌*◌, ◌<◌}
use mathlib.Core.Path.{◌≡◌, refl, sym, ap, ap₂, ◌∙◌}
use mathlib.Core.Logic.{◌⊎◌, inl, inr, ⊎_elim, by_cases}
use mathlib.Core.Bool.{Bool, true, false, true≢false}
use mathlib.Core.List.{List}
use mathlib.Core.Option.{Option, none, some}
use native.Mathlib.Omega.{arith}
use native.Mathlib.Decide.{dec_lt}
use lib.ListN.{length, drop}
use lib.Seq.{get_or-drop}
use lib.Dec.{eqb}
use borrow.Author.Tests.{leb-false, eqb-true, eqb-false, not-false}
use Rattle.format.specs.Items.{Item, Channel, Histogram, HitCount, Sample, Bin, LastCell, TimeBin, Text, StartEvent, ContinueEvent, EndEvent}
use Rattle.format.specs.Words.{Bytes, word_at, long_at}
use Rattle.format.specs.Spots.{Spot, spot_of, spot, legal_value}
use Rattle.format.specs.Spots as spots
use Rattle.format.proofs.questions.ItemQuestions.{no_some, some_is}
use Rattle.format.proofs.spots.PutLaws.{stands}
use Rattle.format.proofs.front.Stability as stability
use Rattle.format.proofs.items.WordLaws.{below_drop}
use Rattle.ledger.specs.Records.{length_in, count_in, total_in, entry_of, entries_to, length_entries, header_right, signed, at_spot, fits_item, fits}
use Rattle.ledger.specs.Chains.{Header, Fits}
use Rattle.ledger.specs.VersionOne.{version_one}
use Rattle.ledger.specs.VersionTwo.{version_two}
use Rattle.ledger.specs.Versions.{Version, v1, v2, format_of}
use Rattle.ledger.specs.Layout.{number_of, total_length}
use Rattle.ledger.specs.PlaneFrames.{plane_frames}
use Rattle.ledger.specs.Reasons.{Illegal, over, nought, wide, NotSigned, no_operator, high_operator, no_reason, high_reason, HeaderBroken, short, version, frames, offset, history, count, total, zero, cut, Unfit, no_item, other_kind, other_value, old_illegal, unchanged, signer, desk}
use Rattle.ledger.proofs.answers.Due.{caught}
use Rattle.ledger.proofs.records.Headers.{header_words}
use Rattle.ledger.proofs.records.Judging.{signed_right, right_signed, fits_right}
use Rattle.ledger.proofs.plane.VersionLaws.{number_is, size_is, limit_is, count_limit}
use Rattle.ledger.proofs.plane.StampLaws.{read_fits}
use Rattle.ledger.proofs.plane.PlaneFrames.{stands_there}

-- ---- values: the kind of an item is 1 or 2
kind_of : (k : spots.Header) (x : Item) (p : Spot) → spot_of k x ≡ some p → (p.kind ≡ 1) ⊎ (p.kind ≡ 2)
kind_of k (Channel a b c) p e = no_some p e
kind_of k (Histogram a b c) p e = no_some p e
kind_of k (HitCount a b c) p e = no_some p e
kind_of k (Sample v) p e = inl (sym (ap (λ (s : Spot). s.kind) (some_is _ p e)))
kind_of k (Bin b n) p e = inr (sym (ap (λ (s : Spot). s.kind) (some_is _ p e)))
kind_of k (LastCell a b) p e = no_some p e
kind_of k (TimeBin t) p e = no_some p e
kind_of k (Text s) p e = no_some p e
kind_of k (StartEvent t ts n) p e = no_some p e
kind_of k (ContinueEvent n) p e = no_some p e
kind_of k (EndEvent n) p e = no_some p e

pub spot_kind : (s : List ℕ) (w : ℕ) (p : Spot) → spot s w ≡ some p → (p.kind ≡ 1) ⊎ (p.kind ≡ 2)
spot_kind s w p e = let t = stands s w p e in kind_of _ t.is.item p t.is.spot

pub illegal_value : (k v : ℕ) → (k ≡ 1) ⊎ (k ≡ 2) → legal_value k v ≡ false → Illegal k v
illegal_value k v (inl q) e =
    by_cases (dec_lt 4095 v) (over q)
    (λ h. let l : 4095 < v → ⊥ = h in absurd (true≢false (sym (ap (λ (i : ℕ). legal_value i v) q ∙ (stability.legal_sample v).1 (omega arith)) ∙ e)))
illegal_value k v (inr q) e =
    by_cases (dec_lt v 4294967296)
    (λ l. by_cases (dec_lt 0 v)
    (λ m. absurd (true≢false (sym (ap (λ (i : ℕ). legal_value i v) q ∙ (stability.legal_bin v).1 (omega arith, l)) ∙ e)))
    (λ h. let m : 0 < v → ⊥ = h in nought q (omega arith)))
    (λ h. let m : v < 4294967296 → ⊥ = h in wide q (omega arith))

pub value_illegal : (k v : ℕ) → legal_value k v ≡ true → Illegal k v → ⊥
value_illegal k v e (over q h) = let l = (stability.legal_sample v).0 (ap (λ (i : ℕ). legal_value i v) (sym q) ∙ e) in omega arith
value_illegal k v e (nought q h) = let l = (stability.legal_bin v).0 (ap (λ (i : ℕ). legal_value i v) (sym q) ∙ e) in omega arith
value_illegal k v e (wide q h) = let l = (stability.legal_bin v).0 (ap (λ (i : ℕ). legal_value i v) (sym q) ∙ e) in omega arith

-- ---- signers
pub unsigned : (o r : ℕ) → signed o r ≡ false → NotSigned o r
unfolding signed
unsigned o r e =
    caught (NotSigned o r) _ e
    (λ h. no_operator (let l = leb-false 1 o h in omega arith))
    (λ h. high_operator (leb-false o 65535 h))
    (λ h. no_reason (let l = leb-false 1 r h in omega arith))
    (λ h. high_reason (leb-false r 5 h))

pub signed_not : (o r : ℕ) → signed o r ≡ true → NotSigned o r → ⊥
signed_not o r e (no_operator h) = let s = (signed_right o r e).0 in omega arith
signed_not o r e (high_operator h) = let s = (signed_right o r e).0 in omega arith
signed_not o r e (no_reason h) = let s = (signed_right o r e).1 in omega arith
signed_not o r e (high_reason h) = let s = (signed_right o r e).1 in omega arith

-- ---- headers
module _ (v : Version) (b : List ℕ) where
  total_is : total_in (format_of v) b ≡ total_length v b
  unfolding length_in count_in
  total_is = ap (λ (n : ℕ). 16 + word_at b 3 + n * word_at b 5) (size_is v)

  pub broken_header : header_right (format_of v) b ≡ false → HeaderBroken v b
  unfolding header_right length_in count_in
  broken_header e =
      caught (HeaderBroken v b) _ e
      (λ h. short (leb-false 16 (length b) h))
      (λ h. version (λ q. eqb-false _ _ h (q ∙ sym (number_is v))))
      (λ h. frames (eqb-false _ _ h))
      (λ h. offset (eqb-false _ _ h))
      (λ h. history (eqb-false _ _ h))
      (λ h. total (λ q. eqb-false _ _ h (q ∙ sym total_is)))
      (λ h. zero (eqb-false _ _ h))
      (λ h. cut (let l = leb-false _ (length b) h in let t = total_is in omega arith))
      (λ h. count (rw (length_entries (format_of v) b (word_at b 5)) at (leb-false (length (entries_to (format_of v) b (word_at b 5))) 512 (sym (limit_is v _) ∙ h))))

  pub header_broken : Header (format_of v) b → HeaderBroken v b → ⊥
  unfolding length_in count_in
  header_broken r (short h) = let l = r.long in omega arith
  header_broken r (version h) = h (r.version ∙ number_is v)
  header_broken r (frames h) = h r.one
  header_broken r (offset h) = h r.sixteen
  header_broken r (history h) = h r.history
  header_broken r (count h) = let l = (count_limit v b).0 r.limit in omega arith
  header_broken r (total h) = h (r.total ∙ total_is)
  header_broken r (zero h) = h r.nought
  header_broken r (cut h) = let l = r.room in let t = total_is in omega arith

  -- a header that is not broken is right
  pub whole_header : (HeaderBroken v b → ⊥) → Header (format_of v) b
  whole_header h = go (header_right (format_of v) b) refl
    where
      go : (t : Bool) → header_right (format_of v) b ≡ t → Header (format_of v) b
      go true q = header_words (format_of v) b q
      go false q = absurd (h (broken_header q))

-- ---- what a version adds to an entry: nothing, or a time and a desk
desk_word : (e : List ℕ) → word_at (drop 16 e) 3 ≡ word_at e 11
desk_word e = ap₂ (λ (a b : ℕ). a + 256 * b) (get_or-drop 16 e 6 0) (get_or-drop 16 e 7 0)

read_good : (v : Version) (e : List ℕ) → Bytes e → (format_of v).good ((format_of v).read (drop 16 e)) ≡ true
unfolding version_one version_two
read_good v1 e y = refl
read_good v2 e y = read_fits (drop 16 e) (below_drop 16 e 256 y)

desk_wrong : (v : Version) (f e : List ℕ) (s : Spot) → (format_of v).suits ((format_of v).read (drop 16 e)) s ≡ false → Unfit v f e
unfolding version_one version_two
desk_wrong v1 f e s h = absurd (true≢false h)
desk_wrong v2 f e s h = desk refl (λ q. eqb-false _ _ h (desk_word e ∙ q))

desk_right : (v : Version) (e : List ℕ) (s : Spot) → v ≡ v2 → (format_of v).suits ((format_of v).read (drop 16 e)) s ≡ true → word_at e 11 ≡ 0
unfolding version_one version_two
desk_right v1 e s q h = absurd (versions q)
  where
    versions : v1 ≡ v2 → ⊥
    versions q = let z : ◌≡◌ {A = ℕ} 1 2 = ap number_of q in omega arith
desk_right v2 e s q h = sym (desk_word e) ∙ eqb-true _ _ h

-- ---- entries
module _ (v : Version) (f e : List ℕ) where
  item_unfit : Bytes e → (p : Spot) → spot f (word_at e 0) ≡ some p → fits_item plane_frames (format_of v) (entry_of (format_of v) e) p ≡ false → Unfit v f e
  unfolding fits_item entry_of plane_frames
  item_unfit y p s h =
      caught (Unfit v f e) _ h
      (λ q. other_kind p s (eqb-false _ _ q))
      (λ q. other_value p s (eqb-false _ _ q))
      old
      (λ q. unchanged (eqb-true _ _ (not-false _ q)))
      (λ q. signer (unsigned _ _ q))
      (λ q. absurd (true≢false (sym (read_good v e y) ∙ q)))
      (λ q. desk_wrong v f e p q)
    where
      -- an item's kind is 1 or 2, and so is that of an entry that has it
      old : legal_value (word_at e 1) (long_at e 2) ≡ false → Unfit v f e
      old q = go (eqb p.kind (word_at e 1)) refl
        where
          go : (t : Bool) → eqb p.kind (word_at e 1) ≡ t → Unfit v f e
          go true k =
              let same = eqb-true p.kind (word_at e 1) k in
              old_illegal (illegal_value (word_at e 1) (long_at e 2) (⊎_elim (λ i. inl (sym same ∙ i)) (λ i. inr (sym same ∙ i)) (spot_kind f (word_at e 0) p s)) q)
          go false k = other_kind p s (eqb-false p.kind (word_at e 1) k)

  not_fits : Bytes e → fits plane_frames (format_of v) f (entry_of (format_of v) e) ≡ false → Unfit v f e
  unfolding fits entry_of plane_frames
  not_fits y h = go (spot f (word_at e 0)) refl h
    where
      go : (o : Option Spot) → spot f (word_at e 0) ≡ o → at_spot o (fits_item plane_frames (format_of v) (entry_of (format_of v) e)) ≡ false → Unfit v f e
      go none q k = no_item (λ p s. no_some p (sym q ∙ s))
      go (some p) q k = item_unfit y p q k

  module _ (r : Fits plane_frames (format_of v) f (entry_of (format_of v) e)) where
    there : spot f (word_at e 0) ≡ some r.spot
    unfolding entry_of
    there = stands_there f (word_at e 0) r.spot r.stands

    one : (p : Spot) → spot f (word_at e 0) ≡ some p → r.spot ≡ p
    one p s = some_is r.spot p (sym there ∙ s)

    pub unfit_not : Unfit v f e → ⊥
    unfolding entry_of plane_frames
    unfit_not (no_item h) = h r.spot there
    unfit_not (other_kind p s h) = h (sym (ap (λ (q : Spot). q.kind) (one p s)) ∙ r.kind)
    unfit_not (other_value p s h) = h (sym (ap (λ (q : Spot). q.value) (one p s)) ∙ r.new)
    unfit_not (old_illegal h) = value_illegal (word_at e 1) (long_at e 2) r.old h
    unfit_not (unchanged h) = r.changed h
    unfit_not (signer h) = signed_not (word_at e 6) (word_at e 7) (right_signed _ _ r.operator r.reason) h
    unfit_not (desk q h) = h (desk_right v e r.spot q r.suits)

  -- one of the two
  pub fit_or_unfit : Bytes e → Fits plane_frames (format_of v) f (entry_of (format_of v) e) ⊎ Unfit v f e
  fit_or_unfit y = go (fits plane_frames (format_of v) f (entry_of (format_of v) e)) refl
    where
      go : (t : Bool) → fits plane_frames (format_of v) f (entry_of (format_of v) e) ≡ t → Fits plane_frames (format_of v) f (entry_of (format_of v) e) ⊎ Unfit v f e
      go true q = inl (fits_right plane_frames (format_of v) f (entry_of (format_of v) e) q)
      go false q = inr (not_fits y q)
