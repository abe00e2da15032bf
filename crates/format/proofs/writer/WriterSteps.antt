-- T17, what comes next: after an accepted begin or add the buffer holds a partial frame that is accepted, with the item added; after an accepted
-- close it holds a legal frame.
-- Assumes nothing.
use Prim.Native.Nat.{ℕ, ◌+◌, ◌*◌, ◌≤◌}
use mathlib.Core.Path.{◌≡◌, refl, sym, ap, subst, ◌∙◌}
use mathlib.Core.List.{List, [], ◌∷◌, ◌++◌, append_assoc}
use native.Mathlib.Omega.{arith}
use lib.ListN.{length, drop, length-append}
use lib.Seq.{take_at, drop_at, length-take-le}
use Rattle.format.specs.Words.{Bytes, bytes}
use Rattle.format.specs.Answers.{accepted}
use Rattle.format.specs.Items.{Item, words_of, whole}
use Rattle.format.specs.Rules.{Kind, may_end}
use Rattle.format.specs.Frames.{Frame, earlier_then, Allowed, Sound, all_words, encode, frame_words, Legal}
use Rattle.format.specs.Writing.{Partial, partial_words, partial_verdict, begin_answer, begin_left, add_answer, add_left, close_answer, close_left}
use Rattle.format.specs.WriterCases.{Begun, content, with_item, framed, Holds}
use Rattle.format.proofs.items.WordLaws.{length_bytes}
use Rattle.format.proofs.verdict.Acceptance.{in_order}
use Rattle.format.proofs.writer.JoinLaws.{sound_join, sound_one, sound_none, behind_one, partial_one}
use Rattle.format.proofs.writer.PartialLaws.{accepted_is, partial_sound, partial_complete, partial_length_lem, begun_length}
use Rattle.format.proofs.writer.WriterLaws.{begin_accepted, add_accepted, close_accepted}
use Rattle.format.proofs.writer.StoreLaws.{begin_left_lem, add_left_lem, close_left_lem}

-- a partial frame that stands at the front
pub begun_front : (f : Partial) (xs : List Item) (rest : List ℕ) (n : ℕ) → f.card ≤ 31 → f.sequence ≤ 0x0100 → Sound f.kind f.card [] xs
    → f.earlier ≡ earlier_then [] xs → n ≤ 8190 → length (bytes (partial_words f.kind f.card f.sequence xs)) ≡ n
    → Begun (bytes (partial_words f.kind f.card f.sequence xs) ++ rest) n f xs
begun_front f xs rest n c q s e m l =
    let k = length-append (bytes (partial_words f.kind f.card f.sequence xs)) rest in
    record {
      card = c;
      sequence = q;
      sound = s;
      earlier = e;
      most = m;
      inside = omega arith;
      written = take_at (bytes (partial_words f.kind f.card f.sequence xs)) rest n l;
    }

pub begin_begun : (buf : List ℕ) (kind : Kind) (card sequence m : ℕ) → begin_answer buf card sequence ≡ accepted m
    → Begun (begin_left buf kind card sequence) 6 (content kind card sequence []) []
unfolding all_words
begin_begun buf kind card sequence m e =
    let b = begin_accepted buf card sequence m e in
    subst (λ (l : List ℕ). Begun l 6 (content kind card sequence []) []) (sym (begin_left_lem buf kind card sequence m e))
    (begun_front (content kind card sequence []) [] (drop 6 buf) 6 b.card_fits b.sequence_fits (sound_none kind card []) refl (omega arith) (partial_length_lem kind card sequence []))

module _ (buf : List ℕ) (n : ℕ) (f : Partial) (xs : List Item) (b : Begun buf n f xs) (x : Item) (m : ℕ) (e : add_answer buf n (whole x) ≡ accepted m) where
  whole_is : (x y : Item) → whole x ≡ whole y → x ≡ y
  whole_is x y e = cc

  -- the verdict on a partial frame is one
  add_allowed : Allowed f.kind f.card f.earlier x
  add_allowed =
      let a = add_accepted buf n (whole x) m e in
      subst (λ (f : Partial). Allowed f.kind f.card f.earlier x) (accepted_is _ _ (sym a.judged ∙ partial_complete buf n f xs b))
      (subst (Allowed a.content.kind a.content.card a.content.earlier) (whole_is _ _ (sym a.token)) a.allowed)

  add_reached : m ≡ n + length (bytes (words_of x))
  add_reached =
      let a = add_accepted buf n (whole x) m e in
      a.reached ∙ ap (λ (y : Item). n + length (bytes (words_of y))) (whole_is _ _ (sym a.token))

  add_front : add_left buf n (whole x) ≡ bytes (partial_words f.kind f.card f.sequence (xs ++ (x ∷ []))) ++ drop m buf
  add_front =
      add_left_lem buf n x m e
      ∙ ap (λ (l : List ℕ). l ++ (bytes (words_of x) ++ drop m buf)) b.written
      ∙ sym (append_assoc (bytes (partial_words f.kind f.card f.sequence xs)) (bytes (words_of x)) (drop m buf))
      ∙ ap (λ (l : List ℕ). l ++ drop m buf) (sym (partial_one f.kind f.card f.sequence xs x))

  front_length : length (bytes (partial_words f.kind f.card f.sequence (xs ++ (x ∷ [])))) ≡ m
  front_length =
      ap length (partial_one f.kind f.card f.sequence xs x)
      ∙ length-append (bytes (partial_words f.kind f.card f.sequence xs)) (bytes (words_of x))
      ∙ ap (λ (l : ℕ). l + length (bytes (words_of x))) (sym (ap length b.written) ∙ length-take-le n buf b.inside)
      ∙ sym add_reached

  -- the partial frame stands there with the item added
  pub add_begun : Begun (add_left buf n (whole x)) m (with_item f x) (xs ++ (x ∷ []))
  add_begun =
      let s = (add_accepted buf n (whole x) m e).most in
      subst (λ (l : List ℕ). Begun l m (with_item f x) (xs ++ (x ∷ []))) (sym add_front)
      (begun_front (with_item f x) (xs ++ (x ∷ [])) (drop m buf) m b.card b.sequence
      (sound_join f.kind f.card [] xs (x ∷ []) b.sound
      (sound_one f.kind f.card (earlier_then [] xs) x (subst (λ (p : List Item). Allowed f.kind f.card p x) b.earlier add_allowed)))
      (ap (λ (p : List Item). x ∷ p) b.earlier ∙ sym (behind_one [] xs x)) (omega arith) front_length)

  -- and the bytes behind it are as they were
  pub add_rest : drop m (add_left buf n (whole x)) ≡ drop m buf
  add_rest = ap (drop m) add_front ∙ drop_at (bytes (partial_words f.kind f.card f.sequence (xs ++ (x ∷ [])))) (drop m buf) m front_length

-- T17: the buffer that an accepted add leaves is accepted with the item added
pub add_judged : (buf : List ℕ) → Bytes buf → (n : ℕ) (x : Item) (m : ℕ) (f : Partial) → partial_verdict buf n ≡ accepted f → add_answer buf n (whole x) ≡ accepted m
    → partial_verdict (add_left buf n (whole x)) m ≡ accepted (with_item f x)
add_judged buf bs n x m f j e =
    let (xs, b) = partial_sound buf bs n f j in
    partial_complete (add_left buf n (whole x)) m (with_item f x) (xs ++ (x ∷ [])) (add_begun buf n f xs b x m e)

pub begin_judged : (buf : List ℕ) (kind : Kind) (card sequence m : ℕ) → begin_answer buf card sequence ≡ accepted m
    → partial_verdict (begin_left buf kind card sequence) 6 ≡ accepted (content kind card sequence [])
begin_judged buf kind card sequence m e = partial_complete _ 6 (content kind card sequence []) [] (begin_begun buf kind card sequence m e)

-- ---- close

-- four words and the items'
pub encode_length : (f : Frame) → length (encode f) ≡ 2 * (4 + length (all_words f.items))
unfolding encode frame_words
encode_length f = length_bytes (frame_words f) ∙ omega (arith, length-append (all_words f.items) (0x000F ∷ []))

-- after an accepted close the frame stands there, and it is legal
pub close_legal : (buf : List ℕ) (n : ℕ) (f : Partial) (xs : List Item) (m : ℕ) → Begun buf n f xs → close_answer buf n ≡ accepted m
    → Legal (framed f xs) × (m ≡ length (encode (framed f xs)))
close_legal buf n f xs m b e =
    let c = close_accepted buf n m e in
    let l = begun_length buf n f xs b in
    let k = encode_length (framed f xs) in
    let s = b.most in
    let q = c.reached in
    let r : c.content ≡ f = accepted_is _ _ (sym c.judged ∙ partial_complete buf n f xs b) in (
      record {
        card = b.card;
        sequence = b.sequence;
        sound = b.sound;
        ended = ap may_end (sym b.earlier) ∙ ap (λ (f : Partial). may_end f.earlier) (sym r) ∙ c.ended;
        short = omega arith;
      },
      omega arith,
    )

pub close_frame : (buf : List ℕ) → Bytes buf → (n : ℕ) (f : Partial) (m : ℕ) → partial_verdict buf n ≡ accepted f → close_answer buf n ≡ accepted m
    → Holds buf (close_left buf n) (framed f (earlier_then [] f.earlier)) m
close_frame buf bs n f m j e =
    let (xs, b) = partial_sound buf bs n f j in
    let i : xs ≡ earlier_then [] f.earlier = sym (ap (earlier_then []) b.earlier ∙ in_order xs) in
    let c = subst (Begun buf n f) i b in
    let (l, r) = close_legal buf n f (earlier_then [] f.earlier) m c e in
    record { legal = l; reached = r; written = close_left_lem buf n f (earlier_then [] f.earlier) m c e }
