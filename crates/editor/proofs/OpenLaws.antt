-- Opening a record, as laws over plain lists: the stores are header and frame, and each way through the code keeps the promise.
-- Assumes nothing.
use Prim.Native.Nat.{ℕ, ◌+◌, ◌*◌, ◌-◌, ◌≤◌, ◌<◌}
use mathlib.Core.Path.{◌≡◌, refl, sym, ap, ◌∙◌}
use mathlib.Core.List.{List, [], ◌∷◌, ◌++◌}
use native.Mathlib.Omega.{arith}
use lib.ListN.{length, take, drop}
use lib.Seq.{sets, length-sets}
use borrow.Rule.Slice.PartMut.{put_mid}
use Rattle.format.specs.Words.{Bytes, bytes}
use Rattle.format.specs.Answers.{Outcome, accepted, refused, and_then}
use Rattle.format.specs.Frames.{Frame, verdict}
use Rattle.format.specs.Questions.{done}
use Rattle.format.specs.Steps.{Overview, overview, read_of}
use Rattle.ledger.specs.Records.{header}
use Rattle.ledger.specs.Calls.{open_answer, open_exit}
use Rattle.ledger.specs.VersionTwo.{version_two}
use Rattle.ledger.specs.PlaneFrames.{plane_frames, plane_frames_judge}
use Rattle.ledger.proofs.answers.Answering.{leaves_found, leaves_written}
use Rattle.format.proofs.items.StoringLaws.{part_stores}
use Rattle.ledger.proofs.calls.Opening.{open_exactly, open_refused, open_no_room}
use Rattle.ledger.proofs.plane.PlaneFrames.{plane_frames_lawful}
use Rattle.editor.specs.Promises.{Opened}

-- the eight words of a header with no entries
pub header_none : (b l : List ℕ) (n : ℕ) → l ≡ sets b 0 (bytes (2 ∷ 1 ∷ 16 ∷ n ∷ (16 + n) ∷ 0 ∷ (16 + n) ∷ 0 ∷ [])) → l ≡ sets b 0 (header version_two n 0)
unfolding header version_two
header_none b l n e = let z : 16 + n + 24 * 0 ≡ 16 + n = omega arith in rw z e

-- the two stores: the header, and the frame in the part behind it
pub opened_stores : (b f l₁ l₂ : List ℕ) → 16 + length f ≤ length b → l₁ ≡ sets b 0 (header version_two (length f) 0)
    → l₂ ≡ sets (take (16 + length f - 16) (drop 16 l₁)) 0 f
    → put_mid 16 (16 + length f - 16) l₁ l₂ ≡ sets b 0 (header version_two (length f) 0 ++ f)
unfolding header bytes
opened_stores b f l₁ l₂ h e₁ e₂ =
    let k : 16 + length f ≤ length l₁ = rw (e₁, length-sets b 0 (header version_two (length f) 0)) h in
    part_stores l₁ 16 (16 + length f) l₂ f (omega arith) k (omega arith) e₂ ∙ ap (λ (x : List ℕ). sets x 16 f) e₁

-- what reading a frame answers is the book's verdict on it
read_judged : (f : List ℕ) (o : Outcome Overview) → o ≡ read_of f → plane_frames.judge f ≡ done o
unfolding read_of
read_judged f o e = plane_frames_judge f ∙ sym (ap (λ (r : Outcome Overview). done r) e ∙ go (verdict f))
  where
    go : (v : Outcome Frame) → done (and_then v (λ g. accepted (overview g))) ≡ done v
    go (accepted g) = refl
    go (refused n p) = refl

module _ (f b : List ℕ) where
  pub opened_refused : (n p : ℕ) → refused n p ≡ read_of f → Opened f b (refused n p) b
  unfolding open_exit
  opened_refused n p e =
      let a : open_answer plane_frames version_two f b ≡ refused n p = open_refused plane_frames version_two f b n p (read_judged f (refused n p) e) in
      record { answered = sym a; left = sym (leaves_found (open_answer plane_frames version_two f b) b _ n p a) }

  module _ (x : Overview) (e : accepted x ≡ read_of f) where
    judged : plane_frames.judge f ≡ accepted tt
    judged = read_judged f (accepted x) e

    pub frame_short : Bytes f → length f ≤ 8192
    frame_short y = plane_frames_lawful.short f (record { bytes = y; judged = judged })

    pub opened_no_room : length b < 16 + length f → Opened f b (refused 12 0) b
    unfolding open_exit
    opened_no_room l =
        let a : open_answer plane_frames version_two f b ≡ refused 12 0 = open_no_room plane_frames version_two f b judged l in
        record { answered = sym a; left = sym (leaves_found (open_answer plane_frames version_two f b) b _ 12 0 a) }

    pub opened_written : (l : List ℕ) → 16 + length f ≤ length b → l ≡ sets b 0 (header version_two (length f) 0 ++ f) → Opened f b (accepted tt) l
    unfolding open_exit
    opened_written l r w =
        let a : open_answer plane_frames version_two f b ≡ accepted tt = (open_exactly plane_frames version_two f b).1 (judged, r) in
        record { answered = sym a; left = w ∙ sym (leaves_written (open_answer plane_frames version_two f b) b _ tt a) }
