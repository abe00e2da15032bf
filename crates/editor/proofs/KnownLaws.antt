-- What one judging of a record tells: it is accepted, its header is right, its frame is an accepted frame that its entries fit.
-- Assumes nothing.
use Prim.Native.Nat.{ℕ, ◌+◌, ◌*◌, ◌≤◌}
use mathlib.Core.Path.{◌≡◌, refl, sym, ap, ◌∙◌}
use mathlib.Core.List.{List}
use mathlib.Core.Option.{Option}
use native.Mathlib.Omega.{arith}
use lib.ListN.{length}
use Rattle.format.specs.Words.{Bytes}
use Rattle.format.specs.Answers.{Outcome, Done, accepted, refused, and_then}
use Rattle.format.specs.Spots.{Spot}
use Rattle.ledger.specs.Frames.{Accepted}
use Rattle.ledger.specs.Records.{length_in, count_in, total_in, frame_in, entries_in, history_verdict, record_verdict}
use Rattle.ledger.specs.Calls.{Summary, record_answer}
use Rattle.ledger.specs.Chains.{Header}
use Rattle.ledger.specs.Formats.{Format, LawfulFormat, size}
use Rattle.ledger.specs.PlaneFrames.{plane_frames}
use Rattle.ledger.specs.Judged.{Judged, judged_at}
use Rattle.ledger.proofs.records.Codecs.{bytes_part}
use Rattle.ledger.proofs.records.Headers.{header_words, frame_length, few_entries}
use Rattle.ledger.proofs.records.Judging.{verdict_parts}
use Rattle.ledger.proofs.plane.PlaneFrames.{plane_frames_lawful}
use Rattle.editor.specs.Writes.{Known}

-- ---- from the answer of judging
abbrev here : Format → List ℕ → ℕ → Judged
here F b w = record { length = length_in b; count = count_in b; total = total_in F b; spot = plane_frames.spot (frame_in b) w }

same_judged : (i j : Judged) → ◌≡◌ {A = Outcome Judged} (accepted i) (accepted j) → i ≡ j
same_judged i j e = cc

pub judged_known : (F : Format) (b : List ℕ) (w : ℕ) (x : Summary) (o : Option Spot)
    → accepted (record { length = x.length; count = x.count; total = x.total; spot = o }) ≡ judged_at plane_frames F b w
    → Known F b x × (o ≡ plane_frames.spot (frame_in b) w)
unfolding judged_at
judged_known F b w x o e = go (record_verdict plane_frames F b) refl e
  where
    go : (v : Done) → record_verdict plane_frames F b ≡ v
        → accepted (record { length = x.length; count = x.count; total = x.total; spot = o }) ≡ and_then v (λ u. accepted (here F b w))
        → Known F b x × (o ≡ plane_frames.spot (frame_in b) w)
    go (accepted u) q h =
        let s = same_judged (record { length = x.length; count = x.count; total = x.total; spot = o }) (here F b w) h in (
          record {
            judged = q;
            length = ap (λ (j : Judged). j.length) s;
            count = ap (λ (j : Judged). j.count) s;
            total = ap (λ (j : Judged). j.total) s;
          },
          ap (λ (j : Judged). j.spot) s,
        )
    go (refused n p) q h = let z : ◌≡◌ {A = ℕ} 0 1 = cc in absurd (omega arith)

pub judged_refused : (F : Format) (b : List ℕ) (w n p : ℕ) → refused n p ≡ judged_at plane_frames F b w → record_verdict plane_frames F b ≡ refused n p
unfolding judged_at
judged_refused F b w n p e = go (record_verdict plane_frames F b) e
  where
    go : (v : Done) → refused n p ≡ and_then v (λ u. accepted (here F b w)) → v ≡ refused n p
    go (accepted u) h = let z : ◌≡◌ {A = ℕ} 0 1 = cc in absurd (omega arith)
    go (refused m q) h = cc

abbrev lengths : Format → List ℕ → Summary
lengths F b = record { length = length_in b; count = count_in b; total = total_in F b }

same_summary : (i j : Summary) → ◌≡◌ {A = Outcome Summary} (accepted i) (accepted j) → i ≡ j
same_summary i j e = cc

pub record_known : (F : Format) (b : List ℕ) (x : Summary) → accepted x ≡ record_answer plane_frames F b → Known F b x
unfolding record_answer
record_known F b x e = go (record_verdict plane_frames F b) refl e
  where
    go : (v : Done) → record_verdict plane_frames F b ≡ v → accepted x ≡ and_then v (λ u. accepted (lengths F b)) → Known F b x
    go (accepted u) q h =
        let s = same_summary x (lengths F b) h in
        record {
          judged = q;
          length = ap (λ (j : Summary). j.length) s;
          count = ap (λ (j : Summary). j.count) s;
          total = ap (λ (j : Summary). j.total) s;
        }
    go (refused n p) q h = let z : ◌≡◌ {A = ℕ} 0 1 = cc in absurd (omega arith)

pub record_refused : (F : Format) (b : List ℕ) (n p : ℕ) → refused n p ≡ record_answer plane_frames F b → record_verdict plane_frames F b ≡ refused n p
unfolding record_answer
record_refused F b n p e = go (record_verdict plane_frames F b) e
  where
    go : (v : Done) → refused n p ≡ and_then v (λ u. accepted (lengths F b)) → v ≡ refused n p
    go (accepted u) h = let z : ◌≡◌ {A = ℕ} 0 1 = cc in absurd (omega arith)
    go (refused m q) h = cc

-- ---- what an accepted record is
module _ (F : Format) (b : List ℕ) (x : Summary) (k : Known F b x) where
  pub head : Header F b
  head = header_words F b (verdict_parts plane_frames F b k.judged).0

  pub fitting : history_verdict plane_frames F (frame_in b) (entries_in F b) ≡ accepted tt
  fitting = (verdict_parts plane_frames F b k.judged).2

  pub standing : Bytes b → Accepted plane_frames (frame_in b)
  standing y = record { bytes = bytes_part b 16 (length_in b) y; judged = (verdict_parts plane_frames F b k.judged).1 }

  pub frame_long : length (frame_in b) ≡ x.length
  frame_long = frame_length F b head ∙ sym k.length

  pub sum : x.total ≡ 16 + x.length + size F * x.count
  sum = k.total ∙ rw (k.length, k.count)

  pub whole : x.total ≡ 16 + length_in b + size F * x.count
  whole = k.total ∙ rw k.count

  pub inside : x.total ≤ length b
  inside = let t = k.total in let r = head.room in omega arith

  pub few : LawfulFormat F → x.count ≤ 512
  few L = let n = k.count in let f = few_entries F L b head in omega arith

  pub short : Bytes b → x.length ≤ 8192
  short y = let l = frame_long in let s = plane_frames_lawful.short (frame_in b) (standing y) in omega arith
