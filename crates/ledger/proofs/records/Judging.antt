-- T26. The record judge as the chain of frames: accepted exactly where a right header, an accepted frame and a chain f_0 .. f_c stand; the
-- frames are the only ones; refused 21 at j exactly where the chain holds above entry j and fails there.
-- Assumes nothing.
use Prim.Native.Nat.{ℕ, zero, suc, ◌-◌, ◌≤◌, ◌<◌}
use mathlib.Core.Path.{◌≡◌, refl, sym, ap, ◌∙◌}
use mathlib.Core.Logic.{◌↔◌, ◌⊎◌, inl, inr, ⊎_elim}
use mathlib.Core.Bool.{Bool, true, false, true≢false}
use mathlib.Core.List.{List, [], ◌∷◌}
use mathlib.Core.Option.{Option, none, some}
use native.Mathlib.Omega.{arith}
use lib.ListN.{length, get_or, take}
use borrow.Author.Tests.{leb-true, eqb-true, eqb-false, le-leb, eq-eqb, ne_eqb, not-true}
use Rattle.format.specs.Answers.{accepted, refused, Done, and_then, first_of}
use Rattle.format.specs.Spots.{Spot}
use Rattle.ledger.specs.Tests.{all}
use Rattle.ledger.specs.Frames.{FrameBook}
use Rattle.ledger.specs.Formats.{Entry, Format}
use Rattle.ledger.specs.Records.{count_in, frame_in, numbered, entries_to, entries_in, length_entries, header_right, signed, at_spot, fits_item, fits, before, history_verdict, history_none, history_fits, history_unfit, record_verdict}
use Rattle.ledger.specs.Calls.{undone, restored}
use Rattle.ledger.specs.Chains.{Header, Fits, Chain}
use Rattle.ledger.proofs.answers.Answering.{all_at, need_holds, not_both, first_at}
use Rattle.ledger.proofs.records.Headers.{header_words, header_right_lem}

-- ---- operator and reason
pub signed_right : (o r : ℕ) → signed o r ≡ true → ((1 ≤ o) × (o ≤ 65535)) × ((1 ≤ r) × (r ≤ 5))
unfolding signed
signed_right o r h = ((leb-true _ _ (all_at _ 0 h), leb-true _ _ (all_at _ 1 h)), (leb-true _ _ (all_at _ 2 h), leb-true _ _ (all_at _ 3 h)))

pub right_signed : (o r : ℕ) → (1 ≤ o) × (o ≤ 65535) → (1 ≤ r) × (r ≤ 5) → signed o r ≡ true
unfolding signed all
right_signed o r p q = rw (le-leb _ _ p.0, le-leb _ _ p.1, le-leb _ _ q.0, le-leb _ _ q.1)

-- ---- the item that a test is passed at
pub record Passed (o : Option Spot) (p : Spot → Bool) : Type 0 where
  pub spot : Spot
  pub stands : o ≡ some spot
  pub passes : p spot ≡ true

pub at_spot_lem : (o : Option Spot) (p : Spot → Bool) → at_spot o p ≡ true → Passed o p
at_spot_lem none p h = absurd (true≢false (sym h))
at_spot_lem (some s) p h = record { spot = s; stands = refl; passes = h }

module _ (B : FrameBook) (F : Format) where
  -- ---- one entry
  item_right : (f : List ℕ) (e : Entry) (s : Spot) → B.spot f e.word ≡ some s → fits_item B F e s ≡ true → Fits B F f e
  unfolding fits_item
  item_right f e s q k = record {
    spot = s;
    stands = q;
    kind = eqb-true _ _ (all_at _ 0 k);
    new = eqb-true _ _ (all_at _ 1 k);
    old = all_at _ 2 k;
    changed = eqb-false _ _ (not-true _ (all_at _ 3 k));
    operator = (signed_right _ _ (all_at _ 4 k)).0;
    reason = (signed_right _ _ (all_at _ 4 k)).1;
    good = all_at _ 5 k;
    suits = all_at _ 6 k;
  }

  pub fits_right : (f : List ℕ) (e : Entry) → fits B F f e ≡ true → Fits B F f e
  unfolding fits
  fits_right f e h = let a = at_spot_lem (B.spot f e.word) (fits_item B F e) h in item_right f e a.spot a.stands a.passes

  pub right_fits : (f : List ℕ) (e : Entry) → Fits B F f e → fits B F f e ≡ true
  unfolding fits fits_item all
  right_fits f e h =
      rw (h.stands, eq-eqb _ _ h.kind, eq-eqb _ _ h.new, h.old, ne_eqb _ _ h.changed, right_signed _ _ h.operator h.reason, h.good, h.suits)

  -- ---- entries from the newest back
  pub undone_take : (f : List ℕ) (es : List Entry) (m : ℕ) (d : Entry) → m < length es → undone B f (take (suc m) es) ≡ before B (undone B f (take m es)) (get_or es m d)
  unfolding undone
  undone_take f [] m d h = absurd (omega arith)
  undone_take f (e ∷ es) zero d h = refl
  undone_take f (e ∷ es) (suc m) d h = undone_take (before B f e) es m d (omega arith)

  pub step_accepted : (f : List ℕ) (e : Entry) (es : List Entry) → history_verdict B F f (e ∷ es) ≡ accepted tt
      → (fits B F f e ≡ true) × (history_verdict B F (before B f e) es ≡ accepted tt)
  step_accepted f e es h = go (fits B F f e) refl
    where
      go : (t : Bool) → fits B F f e ≡ t → (fits B F f e ≡ true) × (history_verdict B F (before B f e) es ≡ accepted tt)
      go true q = (q, sym (history_fits B F f e es q) ∙ h)
      go false q = absurd (not_both _ tt 21 (suc (length es)) h (history_unfit B F f e es q))

  pub step_refused : (f : List ℕ) (e : Entry) (es : List Entry) (n p : ℕ) → history_verdict B F f (e ∷ es) ≡ refused n p
      → ((fits B F f e ≡ false) × (n ≡ 21) × (p ≡ suc (length es))) ⊎ ((fits B F f e ≡ true) × (history_verdict B F (before B f e) es ≡ refused n p))
  step_refused f e es n p h = go (fits B F f e) refl
    where
      go : (t : Bool) → fits B F f e ≡ t → ((fits B F f e ≡ false) × (n ≡ 21) × (p ≡ suc (length es))) ⊎ ((fits B F f e ≡ true) × (history_verdict B F (before B f e) es ≡ refused n p))
      go true q = inr (q, sym (history_fits B F f e es q) ∙ h)
      go false q = let z = sym (history_unfit B F f e es q) ∙ h in inl (q, cc, cc)

  -- a refusal of some entries is 21, at the number of one of them
  pub entry_place : (f : List ℕ) (es : List Entry) (n p : ℕ) → history_verdict B F f es ≡ refused n p → (n ≡ 21) × (1 ≤ p) × (p ≤ length es)
  entry_place f [] n p e = absurd (not_both _ tt n p (history_none B F f) e)
  entry_place f (x ∷ es) n p e =
      ⊎_elim
      (λ w. let q = w.2 in (w.1, omega arith, omega arith))
      (λ w. let r = entry_place (before B f x) es n p w.1 in (r.0, r.1, let h = r.2 in omega arith))
      (step_refused f x es n p e)

  pub each_fits : (f : List ℕ) (es : List Entry) (d : Entry) → history_verdict B F f es ≡ accepted tt → (m : ℕ) → m < length es
      → fits B F (undone B f (take m es)) (get_or es m d) ≡ true
  unfolding undone
  each_fits f [] d h m l = absurd (omega arith)
  each_fits f (e ∷ es) d h zero l = (step_accepted f e es h).0
  each_fits f (e ∷ es) d h (suc m) l = each_fits (before B f e) es d (step_accepted f e es h).1 m (omega arith)

  pub all_fit : (f : List ℕ) (es : List Entry) (d : Entry) → ((m : ℕ) → m < length es → fits B F (undone B f (take m es)) (get_or es m d) ≡ true)
      → history_verdict B F f es ≡ accepted tt
  unfolding undone
  all_fit f [] d h = history_none B F f
  all_fit f (e ∷ es) d h = history_fits B F f e es (h 0 (omega arith)) ∙ all_fit (before B f e) es d (λ m l. h (suc m) (omega arith))

  -- entry m, from the newest as 0, is the newest that does not fit
  record Unfit (f : List ℕ) (es : List Entry) (d : Entry) (n p : ℕ) : Type 0 where
    at : ℕ
    below : at < length es
    number : n ≡ 21
    place : p ≡ length es - at
    newer : (m : ℕ) → m < at → fits B F (undone B f (take m es)) (get_or es m d) ≡ true
    fails : fits B F (undone B f (take at es)) (get_or es at d) ≡ false

  further : (f : List ℕ) (e : Entry) (es : List Entry) (d : Entry) (n p : ℕ) → fits B F f e ≡ true → Unfit (before B f e) es d n p → Unfit f (e ∷ es) d n p
  unfolding undone
  further f e es d n p q u = record {
    at = suc u.at;
    below = let l = u.below in omega arith;
    number = u.number;
    place = let l = u.place in omega arith;
    newer = λ m. elim m as (λ k. k < suc u.at → fits B F (undone B f (take k (e ∷ es))) (get_or (e ∷ es) k d) ≡ true) [ zero ↦ λ l. q | suc i ↦ λ l. u.newer i (let k : suc i < suc u.at = l in omega arith) ];
    fails = u.fails;
  }

  unfit : (f : List ℕ) (es : List Entry) (d : Entry) (n p : ℕ) → history_verdict B F f es ≡ refused n p → Unfit f es d n p
  unfolding undone
  unfit f [] d n p h = absurd (not_both _ tt n p (history_none B F f) h)
  unfit f (e ∷ es) d n p h =
      ⊎_elim
      (λ w. record { at = 0; below = omega arith; number = w.1; place = let q = w.2 in omega arith; newer = λ m l. absurd (omega arith); fails = w.0 })
      (λ w. further f e es d n p w.0 (unfit (before B f e) es d n p w.1))
      (step_refused f e es n p h)

  fit_refused : (f : List ℕ) (es : List Entry) (d : Entry) (m : ℕ) → m < length es → ((i : ℕ) → i < m → fits B F (undone B f (take i es)) (get_or es i d) ≡ true)
      → fits B F (undone B f (take m es)) (get_or es m d) ≡ false → history_verdict B F f es ≡ refused 21 (length es - m)
  unfolding undone
  fit_refused f [] d m l h q = absurd (omega arith)
  fit_refused f (e ∷ es) d zero l h q = let k : suc (length es) - 0 ≡ suc (length es) = omega arith in rw k (history_unfit B F f e es q)
  fit_refused f (e ∷ es) d (suc m) l h q =
      let k : suc (length es) - suc m ≡ length es - m = omega arith in
      history_fits B F f e es (h 0 (omega arith)) ∙ fit_refused (before B f e) es d m (omega arith) (λ i j. h (suc i) (omega arith)) q ∙ sym (ap (refused 21) k)

  -- ---- the chain: frame j is the one restored to j
  pub entry_at : (b : List ℕ) (n m : ℕ) (d : Entry) → m < n → get_or (entries_to F b n) m d ≡ numbered F b (n - m)
  unfolding entries_to
  entry_at b zero m d h = absurd (omega arith)
  entry_at b (suc n) zero d h = let k : suc n - 0 ≡ suc n = omega arith in rw k
  entry_at b (suc n) (suc m) d h = let k : suc n - suc m ≡ n - m = omega arith in entry_at b n m d (omega arith) ∙ sym (ap (numbered F b) k)

  pub restored_standing : (b : List ℕ) → restored B F b (count_in b) ≡ frame_in b
  unfolding restored undone
  restored_standing b = let k : count_in b - count_in b ≡ 0 = omega arith in rw k

  pub restored_back : (b : List ℕ) (j : ℕ) → j < count_in b → restored B F b j ≡ before B (restored B F b (suc j)) (numbered F b (suc j))
  unfolding restored
  restored_back b j h =
      let c = count_in b in
      let m = c - suc j in
      let k : c - j ≡ suc (c - suc j) = omega arith in
      let n : c - (c - suc j) ≡ suc j = omega arith in
      let l : m < length (entries_in F b) = rw (length_entries F b c) (omega arith) in
      let d = numbered F b 0 in
      let e : get_or (entries_in F b) m d ≡ numbered F b (suc j) = entry_at b c m d (omega arith) ∙ ap (numbered F b) n in
      rw (k, ← e) (undone_take (frame_in b) (entries_in F b) m d l)

  -- T26: the frames of a chain are the only ones
  chain_down : (b : List ℕ) (low : ℕ) (f : ℕ → List ℕ) → Chain B F b low f → (m : ℕ) → m ≤ count_in b → low ≤ count_in b - m
      → f (count_in b - m) ≡ restored B F b (count_in b - m)
  chain_down b low f C zero h l = let k : count_in b - 0 ≡ count_in b = omega arith in rw k (C.standing ∙ sym (restored_standing b))
  chain_down b low f C (suc m) h l =
      let c = count_in b in
      let j = c - suc m in
      let s : suc (c - suc m) ≡ c - m = omega arith in
      let r : f (suc j) ≡ restored B F b (suc j) = rw s (chain_down b low f C m (omega arith) (omega arith)) in
      C.back j l (omega arith) ∙ ap (λ (g : List ℕ). before B g (numbered F b (suc j))) r ∙ sym (restored_back b j (omega arith))

  pub chain_is : (b : List ℕ) (low : ℕ) (f : ℕ → List ℕ) → Chain B F b low f → (j : ℕ) → low ≤ j → j ≤ count_in b → f j ≡ restored B F b j
  chain_is b low f C j l h = let k : count_in b - (count_in b - j) ≡ j = omega arith in rw k at (chain_down b low f C (count_in b - j) (omega arith) (omega arith))

  pub chain_unique : (b : List ℕ) (low : ℕ) (f g : ℕ → List ℕ) → Chain B F b low f → Chain B F b low g → (j : ℕ) → low ≤ j → j ≤ count_in b → f j ≡ g j
  chain_unique b low f g C D j l h = chain_is b low f C j l h ∙ sym (chain_is b low g D j l h)

  -- entries above `low` that fit the restored frames are a chain, and the other way round
  above : (b : List ℕ) (low : ℕ) → ((m : ℕ) → m < count_in b - low → fits B F (undone B (frame_in b) (take m (entries_in F b))) (get_or (entries_in F b) m (numbered F b 0)) ≡ true)
      → Chain B F b low (restored B F b)
  unfolding restored
  above b low h = record {
    standing = restored_standing b;
    fit = λ j l k.
        let c = count_in b in
        let m = c - suc j in
        let n : c - (c - suc j) ≡ suc j = omega arith in
        let e : get_or (entries_in F b) m (numbered F b 0) ≡ numbered F b (suc j) = entry_at b c m (numbered F b 0) (omega arith) ∙ ap (numbered F b) n in
        fits_right _ _ (rw e at (h m (omega arith)));
    back = λ j l k. restored_back b j k;
  }

  below : (b : List ℕ) (low : ℕ) (f : ℕ → List ℕ) → Chain B F b low f → (m : ℕ) → m < count_in b - low
      → fits B F (undone B (frame_in b) (take m (entries_in F b))) (get_or (entries_in F b) m (numbered F b 0)) ≡ true
  unfolding restored
  below b low f C m h =
      let c = count_in b in
      let j = c - suc m in
      let s : suc j ≡ c - m = omega arith in
      let k : c - (c - m) ≡ m = omega arith in
      let r : f (suc j) ≡ restored B F b (c - m) = rw s (chain_is b low f C (c - m) (omega arith) (omega arith)) in
      let r₂ : f (suc j) ≡ undone B (frame_in b) (take m (entries_in F b)) = rw k at r in
      let e : get_or (entries_in F b) m (numbered F b 0) ≡ numbered F b (suc j) = entry_at b c m (numbered F b 0) (omega arith) ∙ ap (numbered F b) (sym s) in
      rw (e, ← r₂) (right_fits _ _ (C.fit j (omega arith) (omega arith)))

  -- ---- the record
  -- T26, refused: 20 where the header is wrong, the frame's own refusal where it is not accepted
  pub header_refused : (b : List ℕ) → (Header F b → ⊥) → record_verdict B F b ≡ refused 20 0
  unfolding record_verdict first_of
  header_refused b h = rw (wrong (header_right F b) refl)
    where
      wrong : (t : Bool) → header_right F b ≡ t → header_right F b ≡ false
      wrong true q = absurd (h (header_words F b q))
      wrong false q = q

  pub frame_refused : (b : List ℕ) (n p : ℕ) → Header F b → B.judge (frame_in b) ≡ refused n p → record_verdict B F b ≡ refused n p
  unfolding record_verdict first_of
  frame_refused b n p h j = rw (header_right_lem F b h, j)

  pub verdict_parts : (b : List ℕ) → record_verdict B F b ≡ accepted tt
      → (header_right F b ≡ true) × (B.judge (frame_in b) ≡ accepted tt) × (history_verdict B F (frame_in b) (entries_in F b) ≡ accepted tt)
  unfolding record_verdict
  verdict_parts b e = (need_holds _ 20 0 (first_at _ 0 e), first_at _ 1 e, first_at _ 2 e)

  pub parts_verdict : (b : List ℕ) → header_right F b ≡ true → B.judge (frame_in b) ≡ accepted tt
      → record_verdict B F b ≡ history_verdict B F (frame_in b) (entries_in F b)
  unfolding record_verdict first_of
  parts_verdict b h j = rw (h, j) (last (history_verdict B F (frame_in b) (entries_in F b)))
    where
      last : (o : Done) → and_then o (λ u. accepted tt) ≡ o
      last (accepted u) = refl
      last (refused n p) = refl

  -- T26, accepted
  pub record_chain : (b : List ℕ)
      → (record_verdict B F b ≡ accepted tt) ↔ (Header F b × (B.judge (frame_in b) ≡ accepted tt) × ((f : ℕ → List ℕ) × Chain B F b 0 f))
  record_chain b = (
    λ e.
        let p = verdict_parts b e in
        let n = length_entries F b (count_in b) in
        (header_words F b p.0, p.1, (restored B F b, above b 0 (λ m l. each_fits (frame_in b) (entries_in F b) (numbered F b 0) p.2 m (rw n (omega arith))))),
    λ w.
        let n = length_entries F b (count_in b) in
        parts_verdict b (header_right_lem F b w.0) w.1
        ∙ all_fit (frame_in b) (entries_in F b) (numbered F b 0) (λ m l. below b 0 w.2.0 w.2.1 m (let k : m < count_in b = rw n at l in omega arith)),
  )

  -- and 21 with the number j of the newest entry that does not fit: the chain holds down to f_j, and entry j does not fit f_j
  pub entry_refused : (b : List ℕ) (j : ℕ) → Header F b → B.judge (frame_in b) ≡ accepted tt
      → (record_verdict B F b ≡ refused 21 j) ↔ ((1 ≤ j) × (j ≤ count_in b) × ((f : ℕ → List ℕ) × Chain B F b j f × (Fits B F (f j) (numbered F b j) → ⊥)))
  unfolding restored
  entry_refused b j h a =
      let c = count_in b in
      let d = numbered F b 0 in
      let es = entries_in F b in
      let n : length es ≡ c = length_entries F b c in
      let v : record_verdict B F b ≡ history_verdict B F (frame_in b) es = parts_verdict b (header_right_lem F b h) a in (
        λ e.
            let u = unfit (frame_in b) es d 21 j (sym v ∙ e) in
            let p = u.place in
            let l = u.below in
            let k : c - j ≡ u.at = omega arith in
            let q : c - u.at ≡ j = omega arith in
            let r : get_or es u.at d ≡ numbered F b j = entry_at b c u.at d (omega arith) ∙ ap (numbered F b) q in
            (omega arith, omega arith, (restored B F b, above b j (λ m i. u.newer m (omega arith)), λ t. true≢false (sym (right_fits _ _ t) ∙ rw (k, ← r) u.fails))),
        λ w.
            let f = w.2.0 in
            let C = w.2.1 in
            let lo : 1 ≤ j = w.0 in
            let hi : j ≤ c = w.1 in
            let r : f j ≡ undone B (frame_in b) (take (c - j) es) = chain_is b j f C j (omega arith) hi in
            let i : c - (c - j) ≡ j = omega arith in
            let g : get_or es (c - j) d ≡ numbered F b j = entry_at b c (c - j) d (omega arith) ∙ ap (numbered F b) i in
            let x : fits B F (undone B (frame_in b) (take (c - j) es)) (get_or es (c - j) d) ≡ false = rw (← r, g) (not_fits (f j) (numbered F b j) w.2.2) in
            v ∙ fit_refused (frame_in b) es d (c - j) (rw n (omega arith)) (below b j f C) x ∙ ap (refused 21) (rw n i),
      )
    where
      not_fits : (g : List ℕ) (e : Entry) → (Fits B F g e → ⊥) → fits B F g e ≡ false
      not_fits g e nay = go (fits B F g e) refl
        where
          go : (t : Bool) → fits B F g e ≡ t → fits B F g e ≡ false
          go true q = absurd (nay (fits_right g e q))
          go false q = q
