-- Document 01's own frames are a lawful book, so that demand 3 holds of records over them.
-- Assumes nothing.
use Prim.Native.Nat.{ℕ, ◌≤◌}
use mathlib.Core.Path.{◌≡◌, refl, ap, ◌∙◌}
use mathlib.Core.Logic.{◌⊎◌, ⊎_elim}
use mathlib.Core.Bool.{true}
use mathlib.Core.List.{List}
use mathlib.Core.Option.{some}
use native.Mathlib.Omega.{arith}
use lib.ListN.{length}
use Rattle.format.specs.Answers.{Outcome, accepted, refused}
use Rattle.format.specs.Frames.{Frame, encode, verdict}
use Rattle.format.specs.Questions.{done}
use Rattle.format.specs.Spots.{Spot, spot, legal_value, revalued}
use Rattle.format.proofs.verdict.Acceptance.{sound}
use Rattle.format.proofs.spots.PutLaws.{stands}
use Rattle.format.proofs.front.Stability as stability
use Rattle.ledger.specs.Frames.{Accepted, Settable, LawfulBook}
use Rattle.ledger.specs.Formats.{Lawful}
use Rattle.ledger.specs.Versions.{Version, format_of, format_for}
use Rattle.ledger.specs.PlaneFrames.{plane_frames, plane_frames_judge}
use Rattle.ledger.proofs.plane.VersionLaws.{format_lawful, for_lawful}

-- the verdict accepts a frame exactly where the book judges it right
pub judges : (f : List ℕ) (g : Frame) → verdict f ≡ accepted g → plane_frames.judge f ≡ accepted tt
judges f g v = plane_frames_judge f ∙ ap (λ (o : Outcome Frame). done o) v

pub judged : (o : Outcome Frame) → done o ≡ accepted tt → (f : Frame) × (o ≡ accepted f)
judged (accepted f) e = (f, refl)
judged (refused n p) e = let z : ◌≡◌ {A = ℕ} 0 1 = cc in absurd (omega arith)

accepted_short : (f : List ℕ) → Accepted plane_frames f → length f ≤ 8192
unfolding plane_frames
accepted_short f a =
    let (g, v) = judged (verdict f) a.judged in
    let (l, q) = sound f a.bytes g v in
    let short = l.short in
    let m : length f ≡ length (encode g) = ap length q in
    omega arith

module _ (f : List ℕ) (w : ℕ) (s : Spot) where
  pub stands_there : plane_frames.spot f w ≡ some s → spot f w ≡ some s
  unfolding plane_frames
  stands_there e = e

  pub kind_is : Accepted plane_frames f → plane_frames.spot f w ≡ some s → (s.kind ≡ 1) ⊎ (s.kind ≡ 2)
  kind_is a e = stability.legal_kind s.kind s.value (stability.standing f a.bytes w s (stands_there e))

  module _ (v : ℕ) (h : Settable plane_frames f w v s) where
    there : spot f w ≡ some s
    there = stands_there h.stands

    lawful_value : legal_value s.kind v ≡ true
    unfolding plane_frames
    lawful_value = h.legal

    accepted_put : Accepted plane_frames (plane_frames.put f w v)
    unfolding plane_frames
    accepted_put =
        let t = stands f w s there in
        let y = h.frame.bytes in
        record {
          bytes = stability.put_bytes f y w s there v lawful_value;
          judged = ap (λ (o : Outcome Frame). done o) (stability.put_accepted f y w s there v lawful_value t.frame t.accepted t.is);
        }

    there_put : plane_frames.spot (plane_frames.put f w v) w ≡ some (revalued s v)
    unfolding plane_frames
    there_put = stability.put_there f h.frame.bytes w s there v lawful_value

    elsewhere_put : (u : ℕ) → (u ≡ w → ⊥) → plane_frames.spot (plane_frames.put f w v) u ≡ plane_frames.spot f u
    unfolding plane_frames
    elsewhere_put u n = stability.put_elsewhere f h.frame.bytes w s there v lawful_value u n

pub plane_frames_lawful : LawfulBook plane_frames
unfolding plane_frames
plane_frames_lawful = record {
  short = accepted_short;
  index_fits = λ f w s a e. let i = stability.index_small f a.bytes w s (stands_there f w s e) in omega arith;
  kind_fits = λ f w s a e. ⊎_elim (λ q. omega arith) (λ q. omega arith) (kind_is f w s a e);
  value_fits = stability.value_small;
  standing = λ f w s a e. stability.standing f a.bytes w s (stands_there f w s e);
  put_length = λ f w v s h. stability.put_length f w v;
  put_accepted = λ f w v s h. accepted_put f w s v h;
  put_there = λ f w v s h. there_put f w s v h;
  put_elsewhere = λ f w v s u h n. elsewhere_put f w s v h u n;
  put_again = λ f w v x s h i. stability.put_again f h.frame.bytes w s (there f w s v h) v (lawful_value f w s v h) x;
  put_back = λ f w s a e. stability.put_back f a.bytes w s (stands_there f w s e);
  put_apart = λ f w v s u x t h i n.
      stability.put_apart f h.frame.bytes w s (there f w s v h) v (lawful_value f w s v h) u t (there f u t x i) x (lawful_value f u t x i) n;
}

-- what demand 3's theorems ask, at the entries of each version, and at those that a number stands for
pub plane_lawful : (v : Version) → Lawful plane_frames (format_of v)
plane_lawful v = record { book = plane_frames_lawful; format = format_lawful v }

pub plane_lawful_for : (n : ℕ) → Lawful plane_frames (format_for n)
plane_lawful_for n = record { book = plane_frames_lawful; format = for_lawful n }
