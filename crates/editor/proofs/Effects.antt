-- T33 to T35 of the three calls, read off their promises: refused, the lent buffer is as found; accepted, nothing but the bytes named is
-- written; and the numbers that each can refuse by. The limits (T36) are constants of the crates below, `Sample`, `Bin`, `Spot`,
-- `Record` and `Entry`; the rules' numerals are written apart from them, and the proofs of plane's `legal` and `signed`, of `put_header` and of
-- `edit_tests` tie the two.
-- Assumes nothing.
use Prim.Native.Nat.{ℕ, ◌+◌, ◌≤◌, ◌<◌}
use mathlib.Core.Path.{◌≡◌, refl, sym, ap, ◌∙◌}
use mathlib.Core.Logic.{◌⊎◌, ⊎_elim}
use mathlib.Core.List.{List}
use lib.ListN.{length, get_or, drop}
use native.Mathlib.Omega.{arith}
use Rattle.format.specs.Words.{Bytes, word_at}
use Rattle.format.specs.Answers.{Outcome, accepted, refused}
use Rattle.format.specs.Frames.{Frame, verdict}
use Rattle.format.specs.Questions.{done}
use Rattle.format.specs.Spots.{put}
use Rattle.format.proofs.front.Refusals.{places}
use Rattle.ledger.specs.Formats.{Correction}
use Rattle.ledger.specs.Records.{length_in, total_in, frame_in}
use Rattle.ledger.specs.VersionTwo.{version_two}
use Rattle.ledger.specs.Versions.{v2, format_in}
use Rattle.ledger.specs.PlaneFrames.{plane_frames, plane_frames_judge}
use Rattle.ledger.proofs.calls.Writes as writes
use Rattle.ledger.proofs.calls.Restoring.{restore_parts, restore_rest}
use Rattle.ledger.proofs.answers.Refusals as refusals
use Rattle.ledger.proofs.plane.PlaneFrames.{plane_lawful, plane_lawful_for}
use Rattle.editor.specs.Promises.{Opened, Edited, Restored}

-- ---- T33
pub open_untouched : (f b : List ℕ) (n p : ℕ) (e : List ℕ) → Opened f b (refused n p) e → e ≡ b
open_untouched f b n p e o = o.left ∙ writes.open_found plane_frames version_two f b n p (sym o.answered)

pub edit_untouched : (b : List ℕ) (c : Correction) (n p : ℕ) (e : List ℕ) → Edited b c (refused n p) e → e ≡ b
edit_untouched b c n p e o = o.left ∙ writes.edit_found plane_frames version_two b c n p (sym o.answered)

pub restore_untouched : (b : List ℕ) (k : ℕ) (out : List ℕ) (n p : ℕ) (e : List ℕ) → Restored b k out (refused n p) e → e ≡ out
restore_untouched b k out n p e o = o.left ∙ writes.restore_found plane_frames (format_in b) b k out n p (sym o.answered)

-- ---- T34
pub open_nothing_beyond : (f b e : List ℕ) → Opened f b (accepted tt) e → drop (16 + length f) e ≡ drop (16 + length f) b
open_nothing_beyond f b e o = ap (drop (16 + length f)) o.left ∙ writes.open_beyond plane_frames version_two f b (sym o.answered)

-- all but bytes 10 to 13 (the two header words), the frame, and the entry behind the record
pub edit_nothing_else : (b : List ℕ) (c : Correction) (e : List ℕ) → Bytes b → Edited b c (accepted tt) e
    → (i : ℕ) → (10 ≤ i → i < 14 → ⊥) → (16 ≤ i → i < 16 + length_in b → ⊥) → (total_in version_two b ≤ i → i < total_in version_two b + 24 → ⊥)
    → get_or e i 0 ≡ get_or b i 0
unfolding version_two
edit_nothing_else b c e y o i h f n =
    ap (λ (l : List ℕ). get_or l i 0) o.left ∙ writes.edit_outside plane_frames version_two (plane_lawful v2) b c y (sym o.answered) i h f n

-- and in the frame only what putting the value changes
pub edit_only_value : (b : List ℕ) (c : Correction) (e : List ℕ) → Bytes b → Edited b c (accepted tt) e
    → (i : ℕ) → i < length_in b → get_or e (16 + i) 0 ≡ get_or (put (frame_in b) c.word c.value) i 0
unfolding plane_frames
edit_only_value b c e y o i h =
    ap (λ (l : List ℕ). get_or l (16 + i) 0) o.left ∙ writes.edit_inside plane_frames version_two (plane_lawful v2) b c y (sym o.answered) i h

pub restore_nothing_beyond : (b : List ℕ) (k : ℕ) (out e : List ℕ) → Bytes b → Restored b k out (accepted tt) e
    → drop (length_in b) e ≡ drop (length_in b) out
restore_nothing_beyond b k out e y o =
    let a = sym o.answered in
    ap (drop (length_in b)) o.left ∙ restore_rest plane_frames (format_in b) (plane_lawful_for (word_at b 0)) b y (restore_parts plane_frames (format_in b) b k out a).0 k out a

-- ---- T35
frame_numbers : (f : List ℕ) (n p : ℕ) → Bytes f → plane_frames.judge f ≡ refused n p → (1 ≤ n) × (n ≤ 11)
frame_numbers f n p y e = go (verdict f) (sym (plane_frames_judge f) ∙ e) (λ m q d. let h = places f y m q d in (h.least, h.most))
  where
    go : (o : Outcome Frame) → done o ≡ refused n p → ((m q : ℕ) → o ≡ refused m q → (1 ≤ m) × (m ≤ 11)) → (1 ≤ n) × (n ≤ 11)
    go (accepted g) d h = let z : ◌≡◌ {A = ℕ} 0 1 = cc in absurd (omega arith)
    go (refused m q) d h = let w = h m q refl in let r : m ≡ n = cc in (omega (arith, w.0), omega (arith, w.1))

-- 1 to 12
pub open_numbers : (f b : List ℕ) (n p : ℕ) (e : List ℕ) → Bytes f → Opened f b (refused n p) e → (1 ≤ n) × (n ≤ 12)
open_numbers f b n p e y o = refusals.open_numbers plane_frames version_two frame_numbers f b n p y (sym o.answered)

-- 1 to 12, 20 to 25
pub edit_numbers : (b : List ℕ) (c : Correction) (n p : ℕ) (e : List ℕ) → Bytes b → Edited b c (refused n p) e → ((1 ≤ n) × (n ≤ 12)) ⊎ ((20 ≤ n) × (n ≤ 25))
unfolding version_two
edit_numbers b c n p e y o =
    ⊎_elim (λ w. w) (λ w. let z : ◌≡◌ {A = ℕ} 0 1 = cc in absurd (omega arith)) (refusals.edit_numbers plane_frames version_two frame_numbers b c n p y (sym o.answered))

-- 1 to 12, 20, 21, 26
pub restore_numbers : (b : List ℕ) (k : ℕ) (out : List ℕ) (n p : ℕ) (e : List ℕ) → Bytes b → Restored b k out (refused n p) e
    → ((1 ≤ n) × (n ≤ 12)) ⊎ (((20 ≤ n) × (n ≤ 21)) ⊎ (n ≡ 26))
restore_numbers b k out n p e y o = refusals.restore_numbers plane_frames (format_in b) frame_numbers b k out n p y (sym o.answered)
