-- Newest first and oldest first: the same edits, frames and entries either way.
-- Assumes nothing.
use Prim.Native.Nat.{ℕ, zero, suc, ◌-◌, ◌≤◌}
use mathlib.Core.Path.{◌≡◌, refl, sym, ap, ◌∙◌}
use mathlib.Core.List.{List, [], ◌∷◌, ◌++◌, append_assoc, append-nil, map}
use native.Mathlib.Numerals.{add-one}
use native.Mathlib.Omega.{arith}
use lib.ListN.{length, take, drop, length-append}
use lib.Seq.{take-append-le, take_all}
use Rattle.format.specs.Answers.{accepted, refused, Done}
use Rattle.ledger.specs.Frames.{FrameBook}
use Rattle.ledger.specs.Formats.{Entry, Correction, Format}
use Rattle.ledger.specs.Calls.{entry_for, edit_answer, edit_exit}
use Rattle.ledger.specs.Histories.{oldest_first, bytes_of, keep, correction_of, frame_after, entries_of, edit_all, made}
use Rattle.ledger.specs.Records.{entry_bytes}
use Rattle.ledger.proofs.records.Codecs.{entries_bytes}
use Rattle.ledger.proofs.histories.Edits.{frame_of, entries_made}

module _ {A : Type 0} where
  pub oldest_append : (xs ys : List A) → oldest_first (xs ++ ys) ≡ oldest_first ys ++ oldest_first xs
  unfolding oldest_first
  oldest_append [] ys = sym (append-nil (oldest_first ys))
  oldest_append (x ∷ xs) ys = rw (oldest_append xs ys) (append_assoc (oldest_first ys) (oldest_first xs) (x ∷ []))

  -- turned round twice a list is as it was
  pub oldest_twice : (xs : List A) → oldest_first (oldest_first xs) ≡ xs
  unfolding oldest_first
  oldest_twice [] = refl
  oldest_twice (x ∷ xs) = oldest_append (oldest_first xs) (x ∷ []) ∙ ap (λ (l : List A). x ∷ l) (oldest_twice xs)

  pub oldest_length : (xs : List A) → length (oldest_first xs) ≡ length xs
  unfolding oldest_first
  oldest_length [] = refl
  oldest_length (x ∷ xs) = length-append (oldest_first xs) (x ∷ []) ∙ rw (oldest_length xs) (add-one (length xs))

  -- the oldest k of some edits
  pub oldest_drop : (xs : List A) (m : ℕ) → m ≤ length xs → oldest_first (drop m xs) ≡ take (length xs - m) (oldest_first xs)
  unfolding oldest_first
  oldest_drop xs zero h = let l : length (oldest_first xs) ≤ length xs - 0 = rw (oldest_length xs) (omega arith) in sym (take_all (length xs - 0) (oldest_first xs) l)
  oldest_drop [] (suc m) h = absurd (omega arith)
  oldest_drop (x ∷ xs) (suc m) h =
      let k : suc (length xs) - suc m ≡ length xs - m = omega arith in
      let l : length xs - m ≤ length (oldest_first xs) = rw (oldest_length xs) (omega arith) in
      oldest_drop xs m (omega arith) ∙ rw k (sym (take-append-le (length xs - m) (oldest_first xs) (x ∷ []) l))

  pub oldest_map : {C : Type 0} (g : A → C) (xs : List A) → oldest_first (map g xs) ≡ map g (oldest_first xs)
  unfolding oldest_first
  oldest_map g [] = refl
  oldest_map {C} g (x ∷ xs) = ap (λ (l : List C). l ++ (g x ∷ [])) (oldest_map g xs) ∙ sym (map_append g (oldest_first xs) (x ∷ []))
    where
      map_append : {A C : Type 0} (g : A → C) (xs ys : List A) → map g (xs ++ ys) ≡ map g xs ++ map g ys
      map_append g [] ys = refl
      map_append {A} {C} g (x ∷ xs) ys = ap (λ (l : List C). g x ∷ l) (map_append g xs ys)

-- the bytes of entries, newest first, are those of the same entries in order
bytes_more : (F : Format) (es : List Entry) (e : Entry) → bytes_of F (es ++ (e ∷ [])) ≡ bytes_of F es ++ entry_bytes F e
unfolding bytes_of
bytes_more F [] e = append-nil (entry_bytes F e)
bytes_more F (x ∷ es) e = ap (λ (l : List ℕ). entry_bytes F x ++ l) (bytes_more F es e) ∙ sym (append_assoc (entry_bytes F x) (bytes_of F es) (entry_bytes F e))

bytes_none : (F : Format) → [] ≡ bytes_of F []
unfolding bytes_of
bytes_none F = refl

pub bytes_order : (F : Format) (es : List Entry) → entries_bytes F es ≡ bytes_of F (oldest_first es)
unfolding entries_bytes oldest_first
bytes_order F [] = bytes_none F
bytes_order F (e ∷ es) = ap (λ (l : List ℕ). l ++ entry_bytes F e) (bytes_order F es) ∙ sym (bytes_more F (oldest_first es) e)

module _ (B : FrameBook) where
  after_append : (f : List ℕ) (cs ds : List Correction) → frame_after B f (cs ++ ds) ≡ frame_after B (frame_after B f cs) ds
  unfolding frame_after
  after_append f [] ds = refl
  after_append f (c ∷ cs) ds = after_append (B.put f c.word c.value) cs ds

  entries_append : (f : List ℕ) (cs ds : List Correction) → entries_of B f (cs ++ ds) ≡ entries_of B f cs ++ entries_of B (frame_after B f cs) ds
  unfolding frame_after entries_of
  entries_append f [] ds = refl
  entries_append f (c ∷ cs) ds = ap (λ (l : List Entry). entry_for B f c ∷ l) (entries_append (B.put f c.word c.value) cs ds)

  pub frame_order : (f : List ℕ) (h : List Correction) → frame_of B f h ≡ frame_after B f (oldest_first h)
  unfolding frame_of frame_after oldest_first
  frame_order f [] = refl
  frame_order f (c ∷ h) = ap (λ (g : List ℕ). B.put g c.word c.value) (frame_order f h) ∙ sym (after_append f (oldest_first h) (c ∷ []))

  pub entries_order : (f : List ℕ) (h : List Correction) → oldest_first (entries_made B f h) ≡ entries_of B f (oldest_first h)
  unfolding entries_made entries_of oldest_first
  entries_order f [] = refl
  entries_order f (c ∷ h) =
      ap (λ (l : List Entry). l ++ (entry_for B (frame_of B f h) c ∷ [])) (entries_order f h)
      ∙ ap (λ (g : List ℕ). entries_of B f (oldest_first h) ++ (entry_for B g c ∷ [])) (frame_order f h)
      ∙ sym (entries_append f (oldest_first h) (c ∷ []))

  -- an edit is told by the entry it makes
  pub correction_back : (f : List ℕ) (h : List Correction) → map correction_of (entries_made B f h) ≡ h
  unfolding entries_made
  correction_back f [] = refl
  correction_back f (c ∷ h) = ap (λ (l : List Correction). c ∷ l) (correction_back f h)

module _ (B : FrameBook) (F : Format) where
  -- the edits of h, newest first, and the accepted ones of some later calls before them
  unfoldable pub gather : List ℕ → List Correction → List Correction → List Correction
  gather b h [] = h
  gather b h (c ∷ cs) = gather (edit_exit B F b c) (keep (edit_answer B F b c) c h) cs

  kept : (o : Done) (c : Correction) (h ds : List Correction) → oldest_first (keep o c h) ++ ds ≡ oldest_first h ++ keep o c ds
  unfolding oldest_first
  kept (accepted u) c h ds = append_assoc (oldest_first h) (c ∷ []) ds
  kept (refused n p) c h ds = refl

  pub gather_order : (b : List ℕ) (h cs : List Correction) → oldest_first (gather b h cs) ≡ oldest_first h ++ made B F b cs
  unfolding gather made
  gather_order b h [] = sym (append-nil (oldest_first h))
  gather_order b h (c ∷ cs) = gather_order (edit_exit B F b c) (keep (edit_answer B F b c) c h) cs ∙ kept (edit_answer B F b c) c h (made B F (edit_exit B F b c) cs)

  pub gathered : (b : List ℕ) (cs : List Correction) → oldest_first (gather b [] cs) ≡ made B F b cs
  unfolding oldest_first
  gathered b cs = gather_order b [] cs

  pub edit_all_append : (b : List ℕ) (cs ds : List Correction) → edit_all B F b (cs ++ ds) ≡ edit_all B F (edit_all B F b cs) ds
  unfolding edit_all
  edit_all_append b [] ds = refl
  edit_all_append b (c ∷ cs) ds = edit_all_append (edit_exit B F b c) cs ds

  pub made_append : (b : List ℕ) (cs ds : List Correction) → made B F b (cs ++ ds) ≡ made B F b cs ++ made B F (edit_all B F b cs) ds
  unfolding made edit_all
  made_append b [] ds = refl
  made_append b (c ∷ cs) ds = rw (made_append (edit_exit B F b c) cs ds) (keep_append (edit_answer B F b c) c (made B F (edit_exit B F b c) cs) (made B F (edit_all B F (edit_exit B F b c) cs) ds))
    where
      keep_append : (o : Done) (c : Correction) (xs ys : List Correction) → keep o c (xs ++ ys) ≡ keep o c xs ++ ys
      keep_append (accepted u) c xs ys = refl
      keep_append (refused n p) c xs ys = refl
