-- T33 to T35 for the calls on a record: a refused call leaves what it found, an accepted one writes nothing but the bytes named, and each call
-- refuses by no other numbers and places than those listed.
-- Assumes nothing but the laws of the book and the format.
use Prim.Native.Nat.{ℕ, ◌+◌, ◌*◌, ◌≤◌, ◌<◌}
use mathlib.Core.Path.{◌≡◌, refl, sym, ap, ◌∙◌}
use mathlib.Core.List.{List, [], ◌∷◌, ◌++◌, append_assoc}
use native.Mathlib.Omega.{arith}
use lib.ListN.{length, get_or, drop, length-append}
use lib.Seq.{sets, length-sets, drop_at}
use Rattle.format.specs.Words.{Bytes, bytes}
use Rattle.format.specs.Answers.{accepted, refused, Done, leaves}
use Rattle.ledger.specs.Frames.{FrameBook}
use Rattle.ledger.specs.Formats.{Correction, Format, Lawful, size}
use Rattle.ledger.specs.Records.{header, length_in, count_in, total_in, frame_in, entry_bytes, record_verdict}
use Rattle.ledger.specs.Calls.{entry_for, set_word, open_answer, open_exit, edit_answer, edit_written, edit_exit, restored, restore_answer, restore_exit}
use Rattle.ledger.specs.Chains.{Header}
use Rattle.format.proofs.items.StoringLaws.{sets_outside, sets_inside}
use Rattle.ledger.proofs.records.Codecs.{entry_length, header_length}
use Rattle.ledger.proofs.records.Headers.{header_words, frame_length}
use Rattle.ledger.proofs.records.Judging.{verdict_parts}
use Rattle.ledger.proofs.calls.Opening.{open_whole}
use Rattle.ledger.proofs.calls.Editing.{edit_judged, exit_written, exit_found}
use Rattle.ledger.proofs.calls.Changing.{allowed, edit_settable}

module _ (B : FrameBook) (F : Format) where
  -- ---- T33: a refused call leaves what it found
  pub open_found : (f b : List ℕ) (n p : ℕ) → open_answer B F f b ≡ refused n p → open_exit B F f b ≡ b
  unfolding open_exit
  open_found f b n p e = rw e

  pub edit_found : (b : List ℕ) (c : Correction) (n p : ℕ) → edit_answer B F b c ≡ refused n p → edit_exit B F b c ≡ b
  edit_found b c n p e = exit_found B F b c n p e

  pub restore_found : (b : List ℕ) (k : ℕ) (out : List ℕ) (n p : ℕ) → restore_answer B F b k out ≡ refused n p → restore_exit B F b k out ≡ out
  unfolding restore_exit
  restore_found b k out n p e = rw e

  -- ---- no call changes a buffer's length
  same_length : (o : Done) (x y : List ℕ) → length y ≡ length x → length (leaves o x y) ≡ length x
  same_length (accepted u) x y e = e
  same_length (refused n p) x y e = refl

  pub open_length : (f b : List ℕ) → length (open_exit B F f b) ≡ length b
  unfolding open_exit
  open_length f b = same_length (open_answer B F f b) b _ (length-sets b 0 (header F (length f) 0 ++ f))

  pub edit_length : (b : List ℕ) (c : Correction) → length (edit_exit B F b c) ≡ length b
  unfolding edit_exit edit_written
  edit_length b c =
      let g = B.put (frame_in b) c.word c.value in
      let b₁ = sets b 16 g in
      let b₂ = set_word b₁ 5 (count_in b + 1) in
      let b₃ = set_word b₂ 6 (total_in F b + size F) in
      same_length (edit_answer B F b c) b (sets b₃ (total_in F b) (entry_bytes F (entry_for B (frame_in b) c)))
      (length-sets b₃ (total_in F b) (entry_bytes F (entry_for B (frame_in b) c))
      ∙ length-sets b₂ 12 (bytes ((total_in F b + size F) ∷ []))
      ∙ length-sets b₁ 10 (bytes ((count_in b + 1) ∷ []))
      ∙ length-sets b 16 g)

  pub restore_length : (b : List ℕ) (k : ℕ) (out : List ℕ) → length (restore_exit B F b k out) ≡ length out
  unfolding restore_exit
  restore_length b k out = same_length (restore_answer B F b k out) out _ (length-sets out 0 (restored B F b k))

  -- ---- T34: what an accepted call leaves as it was
  -- opening: everything beyond header and frame
  pub open_beyond : (f b : List ℕ) → open_answer B F f b ≡ accepted tt → drop (16 + length f) (open_exit B F f b) ≡ drop (16 + length f) b
  open_beyond f b e =
      let hd = header F (length f) 0 in
      let l : length (hd ++ f) ≡ 16 + length f = length-append hd f ∙ rw (header_length F (length f) 0) in
      ap (drop (16 + length f)) (open_whole B F f b e ∙ sym (append_assoc hd f (drop (16 + length f) b))) ∙ drop_at (hd ++ f) (drop (16 + length f) b) (16 + length f) l

module _ (B : FrameBook) (F : Format) (L : Lawful B F) where
  module _ (b : List ℕ) (c : Correction) (y : Bytes b) (e : edit_answer B F b c ≡ accepted tt) where
    judged : record_verdict B F b ≡ accepted tt
    judged = edit_judged B F b c e

    right : Header F b
    right = header_words F b (verdict_parts B F b judged).0

    put_long : length (B.put (frame_in b) c.word c.value) ≡ length_in b
    put_long = L.book.put_length (frame_in b) c.word c.value (allowed B F L b c y e).spot (edit_settable B F L b c y e) ∙ frame_length F b right

    entry_long : length (entry_bytes F (entry_for B (frame_in b) c)) ≡ size F
    entry_long = entry_length F L.format (entry_for B (frame_in b) c) (allowed B F L b c y e).good

    two : (v : ℕ) → length (bytes (v ∷ [])) ≡ 2
    unfolding bytes
    two v = refl

    -- an edit: everything but the two header words (bytes 10 to 13), the frame and the new entry
    pub edit_outside : (i : ℕ) → (10 ≤ i → i < 14 → ⊥) → (16 ≤ i → i < 16 + length_in b → ⊥) → (total_in F b ≤ i → i < total_in F b + size F → ⊥)
        → get_or (edit_exit B F b c) i 0 ≡ get_or b i 0
    unfolding edit_written
    edit_outside i h f n =
        let g = B.put (frame_in b) c.word c.value in
        let x = entry_bytes F (entry_for B (frame_in b) c) in
        let b₁ = sets b 16 g in
        let b₂ = set_word b₁ 5 (count_in b + 1) in
        let b₃ = set_word b₂ 6 (total_in F b + size F) in
        let w₁ : length (bytes ((count_in b + 1) ∷ [])) ≡ 2 = two (count_in b + 1) in
        let w₂ : length (bytes ((total_in F b + size F) ∷ [])) ≡ 2 = two (total_in F b + size F) in
        ap (λ (l : List ℕ). get_or l i 0) (exit_written B F b c e)
        ∙ sets_outside x b₃ (total_in F b) i (λ p q. n p (rw entry_long at q))
        ∙ sets_outside (bytes ((total_in F b + size F) ∷ [])) b₂ 12 i (λ p q. h (omega arith) (let r : i < 12 + 2 = rw w₂ at q in omega arith))
        ∙ sets_outside (bytes ((count_in b + 1) ∷ [])) b₁ 10 i (λ p q. h (omega arith) (let r : i < 10 + 2 = rw w₁ at q in omega arith))
        ∙ sets_outside g b 16 i (λ p q. f p (rw put_long at q))

    -- and in the frame every byte is that of the frame with the value put: what putting leaves, the edit leaves
    pub edit_inside : (i : ℕ) → i < length_in b → get_or (edit_exit B F b c) (16 + i) 0 ≡ get_or (B.put (frame_in b) c.word c.value) i 0
    unfolding edit_written
    edit_inside i h =
        let g = B.put (frame_in b) c.word c.value in
        let x = entry_bytes F (entry_for B (frame_in b) c) in
        let b₁ = sets b 16 g in
        let b₂ = set_word b₁ 5 (count_in b + 1) in
        let b₃ = set_word b₂ 6 (total_in F b + size F) in
        let w₁ : length (bytes ((count_in b + 1) ∷ [])) ≡ 2 = two (count_in b + 1) in
        let w₂ : length (bytes ((total_in F b + size F) ∷ [])) ≡ 2 = two (total_in F b + size F) in
        let r : total_in F b ≤ length b = right.room in
        let l : 16 + length g ≤ length b = rw put_long (omega arith) in
        ap (λ (l : List ℕ). get_or l (16 + i) 0) (exit_written B F b c e)
        ∙ sets_outside x b₃ (total_in F b) (16 + i) (λ p q. let z : 16 + length_in b + size F * count_in b ≤ 16 + i = p in omega arith)
        ∙ sets_outside (bytes ((total_in F b + size F) ∷ [])) b₂ 12 (16 + i) (λ p q. let z : 16 + i < 12 + 2 = rw w₂ at q in omega arith)
        ∙ sets_outside (bytes ((count_in b + 1) ∷ [])) b₁ 10 (16 + i) (λ p q. let z : 16 + i < 10 + 2 = rw w₁ at q in omega arith)
        ∙ sets_inside g b 16 i l (rw put_long h)
