-- Edits of a frame, newest first: when each may be made, the frame and the entries that they leave, and that undoing the entries leads back.
-- Assumes nothing but the laws of the book and the format.
use Prim.Native.Nat.{ℕ, zero, suc, ◌≤◌}
use mathlib.Core.Path.{◌≡◌, refl, ap, ◌∙◌}
use mathlib.Core.Bool.{true}
use mathlib.Core.List.{List, [], ◌∷◌}
use mathlib.Core.Option.{some}
use native.Mathlib.Omega.{arith}
use lib.ListN.{length, take, drop}
use Rattle.format.specs.Words.{Bytes}
use Rattle.format.specs.Answers.{accepted}
use Rattle.format.specs.Spots.{Spot, revalued}
use Rattle.ledger.specs.Frames.{FrameBook, Accepted, Settable}
use Rattle.ledger.specs.Formats.{Entry, Correction, Format, Lawful}
use Rattle.ledger.specs.Records.{before, history_verdict, history_none, history_fits}
use Rattle.ledger.specs.Calls.{entry_for, undone}
use Rattle.ledger.specs.Chains.{Fits}
use Rattle.ledger.proofs.records.Codecs.{Small, Good, entries_bytes, entry_bytes_lem, bytes_join}
use Rattle.ledger.proofs.records.Judging.{right_fits}

module _ (B : FrameBook) where
  -- the frame after the edits of h, newest first, and the entries that they make
  unfoldable pub frame_of : List ℕ → List Correction → List ℕ
  frame_of f [] = f
  frame_of f (c ∷ h) = B.put (frame_of f h) c.word c.value

  pub frame_none : (f : List ℕ) → frame_of f [] ≡ f
  unfolding frame_of
  frame_none f = refl

  unfoldable pub entries_made : List ℕ → List Correction → List Entry
  entries_made f [] = []
  entries_made f (c ∷ h) = entry_for B (frame_of f h) c ∷ entries_made f h

  pub entries_count : (f : List ℕ) (h : List Correction) → length (entries_made f h) ≡ length h
  unfolding entries_made
  entries_count f [] = refl
  entries_count f (c ∷ h) = ap suc (entries_count f h)

module _ (B : FrameBook) (F : Format) where
  -- a correction that may be made on a frame, room and number of entries apart
  pub record Legal (f : List ℕ) (c : Correction) : Type 0 where
    pub spot : Spot
    pub stands : B.spot f c.word ≡ some spot
    pub suits : F.suits c.extra spot ≡ true
    pub legal : B.legal spot.kind c.value ≡ true
    pub changed : spot.value ≡ c.value → ⊥
    pub operator : (1 ≤ c.operator) × (c.operator ≤ 65535)
    pub reason : (1 ≤ c.reason) × (c.reason ≤ 5)
    pub good : F.good c.extra ≡ true

  unfoldable pub Valid : List ℕ → List Correction → Type 0
  Valid f [] = Unit {0}
  Valid f (c ∷ h) = Legal (frame_of B f h) c × Valid f h

  pub valid_none : (f : List ℕ) → Valid f []
  unfolding Valid
  valid_none f = tt

  pub valid_more : (f : List ℕ) (c : Correction) (h : List Correction) → Legal (frame_of B f h) c → Valid f h → Valid f (c ∷ h)
  unfolding Valid
  valid_more f c h l v = (l, v)

  pub valid_newest : (f : List ℕ) (c : Correction) (h : List Correction) → Valid f (c ∷ h) → Legal (frame_of B f h) c
  unfolding Valid
  valid_newest f c h v = v.0

  pub valid_older : (f : List ℕ) (c : Correction) (h : List Correction) → Valid f (c ∷ h) → Valid f h
  unfolding Valid
  valid_older f c h v = v.1

  pub valid_drop : (f : List ℕ) (h : List Correction) (m : ℕ) → Valid f h → Valid f (drop m h)
  valid_drop f h zero v = v
  valid_drop f [] (suc m) v = v
  valid_drop f (c ∷ h) (suc m) v = valid_drop f h m (valid_older f c h v)

module _ (B : FrameBook) (F : Format) (L : Lawful B F) where
  -- ---- one edit of an accepted frame
  module _ (f : List ℕ) (c : Correction) (a : Accepted B f) (l : Legal B F f c) where
    pub settable : Settable B f c.word c.value l.spot
    settable = record { frame = a; stands = l.stands; legal = l.legal }

    standing : Settable B f c.word l.spot.value l.spot
    standing = record { frame = a; stands = l.stands; legal = L.book.standing f c.word l.spot a l.stands }

    -- the entry that it makes: the value that stands as the old one, the value asked for as the new one
    pub entry_is : entry_for B f c
        ≡ record { word = c.word; kind = l.spot.kind; old = l.spot.value; new = c.value; operator = c.operator; reason = c.reason; extra = c.extra }
    entry_is = rw l.stands

    pub entry_small : Small F (entry_for B f c)
    entry_small = record {
      word = L.book.index_fits f c.word l.spot a l.stands;
      kind = rw l.stands (L.book.kind_fits f c.word l.spot a l.stands);
      old = rw l.stands (L.book.value_fits l.spot.kind l.spot.value standing.legal);
      new = L.book.value_fits l.spot.kind c.value l.legal;
      operator = let h = l.operator in omega arith;
      reason = let h = l.reason in omega arith;
      good = l.good;
    }

    -- it fits the frame that the edit leaves, and undone gives back the frame that the edit found
    pub edited_fits : Fits B F (B.put f c.word c.value) (entry_for B f c)
    edited_fits = record {
      spot = revalued l.spot c.value;
      stands = L.book.put_there f c.word c.value l.spot settable;
      kind = rw l.stands;
      new = refl;
      old = rw l.stands standing.legal;
      changed = rw l.stands l.changed;
      operator = l.operator;
      reason = l.reason;
      good = l.good;
      suits = rw (L.format.suits_revalued c.extra l.spot c.value) l.suits;
    }

    pub edited_undone : before B (B.put f c.word c.value) (entry_for B f c) ≡ f
    edited_undone = rw l.stands (L.book.put_again f c.word c.value l.spot.value l.spot settable standing ∙ L.book.put_back f c.word l.spot a l.stands)

  -- ---- any number of them
  pub frame_accepted : (f : List ℕ) (h : List Correction) → Accepted B f → Valid B F f h → Accepted B (frame_of B f h)
  unfolding frame_of
  frame_accepted f [] a v = a
  frame_accepted f (c ∷ h) a v =
      let g = frame_accepted f h a (valid_older B F f c h v) in
      L.book.put_accepted (frame_of B f h) c.word c.value _ (settable (frame_of B f h) c g (valid_newest B F f c h v))

  pub frame_same : (f : List ℕ) (h : List Correction) → Accepted B f → Valid B F f h → length (frame_of B f h) ≡ length f
  unfolding frame_of
  frame_same f [] a v = refl
  frame_same f (c ∷ h) a v =
      let g = frame_accepted f h a (valid_older B F f c h v) in
      L.book.put_length (frame_of B f h) c.word c.value _ (settable (frame_of B f h) c g (valid_newest B F f c h v)) ∙ frame_same f h a (valid_older B F f c h v)

  pub entries_good : (f : List ℕ) (h : List Correction) → Valid B F f h → Good F (entries_made B f h)
  unfolding entries_made
  entries_good f [] v = tt
  entries_good f (c ∷ h) v = ((valid_newest B F f c h v).good, entries_good f h (valid_older B F f c h v))

  pub made_bytes : (f : List ℕ) (h : List Correction) → Accepted B f → Valid B F f h → Bytes (entries_bytes F (entries_made B f h))
  unfolding entries_made entries_bytes
  made_bytes f [] a v = λ i. omega arith
  made_bytes f (c ∷ h) a v =
      let o = valid_older B F f c h v in
      let g = frame_of B f h in
      let x = entry_for B g c in
      bytes_join (entries_bytes F (entries_made B f h)) _ (made_bytes f h a o) (entry_bytes_lem F L.format x (entry_small g c (frame_accepted f h a o) (valid_newest B F f c h v)))

  -- the entries fit, and undoing the newest m of them leaves the frame after the others
  pub history_made : (f : List ℕ) (h : List Correction) → Accepted B f → Valid B F f h → history_verdict B F (frame_of B f h) (entries_made B f h) ≡ accepted tt
  unfolding frame_of entries_made
  history_made f [] a v = history_none B F f
  history_made f (c ∷ h) a v =
      let o = valid_older B F f c h v in
      let g = frame_of B f h in
      let ag = frame_accepted f h a o in
      let l = valid_newest B F f c h v in
      history_fits B F (B.put g c.word c.value) (entry_for B g c) (entries_made B f h) (right_fits B F _ _ (edited_fits g c ag l)) ∙ rw (edited_undone g c ag l) (history_made f h a o)

  pub undone_made : (f : List ℕ) (h : List Correction) (m : ℕ) → Accepted B f → Valid B F f h
      → undone B (frame_of B f h) (take m (entries_made B f h)) ≡ frame_of B f (drop m h)
  unfolding frame_of entries_made undone
  undone_made f h zero a v = refl
  undone_made f [] (suc m) a v = refl
  undone_made f (c ∷ h) (suc m) a v =
      let o = valid_older B F f c h v in
      rw (edited_undone (frame_of B f h) c (frame_accepted f h a o) (valid_newest B F f c h v)) (undone_made f h m a o)
