-- A scan of an accepted frame along the cursor: at each word where an item begins it knows the word of the header that the item stands under, so
-- that the items there, and these words, tell every spot. All of it are corollaries of the one law of a turn (CursorLaws).
-- Assumes nothing.
use Prim.Native.Nat.{ℕ, zero, suc, ◌+◌, ◌<◌, ◌≤◌}
use mathlib.Core.Path.{◌≡◌, refl, sym, ap, ap₂, subst, ◌∙◌}
use mathlib.Core.List.{List, [], ◌∷◌}
use mathlib.Core.Bool.{Bool, true, false}
use mathlib.Core.Option.{Option, none, some}
use native.Mathlib.Omega.{arith}
use lib.Dec.{ltb, eqb}
use lib.ListN.{length}
use borrow.Author.Tests.{ltb-true, ltb-false, eqb-true, eqb-false, eq-eqb, ne_eqb}
use Rattle.format.specs.Words.{pick, Bytes}
use Rattle.format.specs.Answers.{Outcome, accepted, refused}
use Rattle.format.specs.Items.{ItemOf, Item, Channel, Histogram, HitCount, Sample, Bin, LastCell, TimeBin, Text, StartEvent, ContinueEvent, EndEvent, words_of}
use Rattle.format.specs.Frames.{Frame, last_of, verdict}
use Rattle.format.specs.Steps.{next_at}
use Rattle.format.specs.Questions.{shown, Found, Shown}
use Rattle.format.specs.Cursor.{standing_at, shown_by, items_from, On}
use Rattle.format.specs.Spots.{Header, no_header, Spot, spot_of, under, spot_in, spot_for, spot, put, legal_value, with_value}
use Rattle.format.specs.Scans.{head_by, head_in, head_for, head, header_by, header_at, spot_by, Noted}
use Rattle.format.proofs.questions.ItemQuestions.{no_some, some_is}
use Rattle.format.proofs.rules.AlikeLaws.{blind, same_width}
use Rattle.format.proofs.spots.SpotLaws.{replaced}
use Rattle.format.proofs.spots.PutLaws.{changed, stands, spot_in_lem, put_changed}
use Rattle.format.proofs.reader.StepLaws.{next_at_lem}
use Rattle.format.proofs.reader.CursorLaws.{within_bytes, stood, from_first, on_start, Turn, turn, run_out, standing_early}

-- ---- an item as it is answered tells the same

shown_under : (k : Header) (x : Item) → under k (shown x) ≡ under k x
shown_under k (Channel a b c) = refl
shown_under k (Histogram a b c) = refl
shown_under k (HitCount a b c) = refl
shown_under k (Sample v) = refl
shown_under k (Bin b n) = refl
shown_under k (LastCell a b) = refl
shown_under k (TimeBin t) = refl
shown_under k (Text s) = refl
shown_under k (StartEvent t ts n) = refl
shown_under k (ContinueEvent n) = refl
shown_under k (EndEvent n) = refl

pub shown_head : (h at : ℕ) (x : Item) → head_by h at (shown x) ≡ head_by h at x
shown_head h at (Channel a b c) = refl
shown_head h at (Histogram a b c) = refl
shown_head h at (HitCount a b c) = refl
shown_head h at (Sample v) = refl
shown_head h at (Bin b n) = refl
shown_head h at (LastCell a b) = refl
shown_head h at (TimeBin t) = refl
shown_head h at (Text s) = refl
shown_head h at (StartEvent t ts n) = refl
shown_head h at (ContinueEvent n) = refl
shown_head h at (EndEvent n) = refl

pub shown_spot : (k : Header) (x : Item) → spot_of k (shown x) ≡ spot_of k x
shown_spot k (Channel a b c) = refl
shown_spot k (Histogram a b c) = refl
shown_spot k (HitCount a b c) = refl
shown_spot k (Sample v) = refl
shown_spot k (Bin b n) = refl
shown_spot k (LastCell a b) = refl
shown_spot k (TimeBin t) = refl
shown_spot k (Text s) = refl
shown_spot k (StartEvent t ts n) = refl
shown_spot k (ContinueEvent n) = refl
shown_spot k (EndEvent n) = refl

-- ---- of an accepted frame's items

head_in_lem : (s : List ℕ) (f : Frame) (w : ℕ) → verdict s ≡ accepted f → head s w ≡ head_in 1 3 f.items w
unfolding head
head_in_lem s f w v = ap (λ (o : Outcome Frame). head_for o w) v

-- what is word_case of word u, by items from word `at` on, under the header k, whose word is h
pub record Alike (s : List ℕ) (at h : ℕ) (k : Header) (xs : List Item) (u : ℕ) : Type 0 where
  pub heads : head_in h at xs u ≡ head s u
  pub spots : spot_in k at xs u ≡ spot s u

-- no item begins at word u
pub record Blank (s : List ℕ) (u : ℕ) : Type 0 where
  pub head : head s u ≡ 0
  pub spot : spot s u ≡ none

module _ (s : List ℕ) (at h : ℕ) (k : Header) where
  alike_first : (x : Item) (xs : List Item) → Alike s at h k (x ∷ xs) at → (head_by h at x ≡ head s at) × (spot_of k x ≡ spot s at)
  unfolding head_in spot_in
  alike_first x xs a = let e = eq-eqb at at refl in (rw e at a.heads, rw e at a.spots)

  alike_later : (x : Item) (xs : List Item) (u : ℕ) → at < u → Alike s at h k (x ∷ xs) u → Alike s (at + length (words_of x)) (head_by h at x) (under k x) xs u
  unfolding head_in spot_in
  alike_later x xs u l a = let e = ne_eqb u at (λ q. omega arith) in record { heads = rw e at a.heads; spots = rw e at a.spots }

  blank_none : (u : ℕ) → Alike s at h k [] u → Blank s u
  unfolding head_in spot_in
  blank_none u a = record { head = sym a.heads; spot = sym a.spots }

-- no item begins before some items
blank_before : (s : List ℕ) (at h : ℕ) (k : Header) (xs : List Item) (u : ℕ) → u < at → Alike s at h k xs u → Blank s u
unfolding head_in spot_in
blank_before s at h k [] u l a = blank_none s at h k u a
blank_before s at h k (x ∷ xs) u l a =
    let e = ne_eqb u at (λ q. omega arith) in
    blank_before s (at + length (words_of x)) (head_by h at x) (under k x) xs u (omega arith) (record { heads = rw e at a.heads; spots = rw e at a.spots })

-- ---- the scan

-- it stands at word `at` of an accepted frame, behind the header whose word is h
pub record Ahead (s : List ℕ) (at h : ℕ) : Type 0 where
  pub on : On s at
  pub noted : 1 ≤ h
  pub alike : (u : ℕ) → at ≤ u → Alike s at h (header_at s h) (items_from s at) u

no_header_lem : (s : List ℕ) → header_at s 1 ≡ no_header
unfolding header_at
no_header_lem s = ap (λ (o : Option Found). header_by (shown_by o)) (standing_early s 1 (omega arith))

module _ (s : List ℕ) (y : Bytes s) (f : Frame) (v : verdict s ≡ accepted f) where
  all_alike : (u : ℕ) → Alike s 3 1 (header_at s 1) (items_from s 3) u
  all_alike u =
      let n = no_header_lem s in
      let i = from_first s y f v in
      record {
        heads = ap (λ (xs : List Item). head_in 1 3 xs u) i ∙ sym (head_in_lem s f u v);
        spots = ap₂ (λ (k : Header) (xs : List Item). spot_in k 3 xs u) n i ∙ sym (spot_in_lem s f u v);
      }

  pub ahead_start : Ahead s 3 1
  ahead_start = record { on = on_start s y f v; noted = omega arith; alike = λ u h. all_alike u }

  -- the first three words begin no item
  pub blank_first : (u : ℕ) → u < 3 → Blank s u
  blank_first u h = blank_before s 3 1 (header_at s 1) (items_from s 3) u h (all_alike u)

-- a turn of the scan past the item x, whose words end before word n
pub record Passed (s : List ℕ) (at h : ℕ) (x : Item) (n : ℕ) : Type 0 where
  pub head : head s at ≡ head_by h at x
  pub spot : spot s at ≡ spot_of (header_at s h) x
  -- "the words after an item are data"
  pub between : (u : ℕ) → at < u → u < n → Blank s u
  pub next : Ahead s n (head_by h at x)

module _ (s : List ℕ) (at h : ℕ) (g : Ahead s at h) where
  -- the header behind it is the one at the word noted
  header_next : (x : Item) (n : ℕ) → standing_at s at ≡ some (record { item = x; next = n }) → under (header_at s h) x ≡ header_at s (head_by h at x)
  unfolding header_at
  header_next x n e = go x (ap (λ (o : Option Found). header_by (shown_by o)) e ∙ shown_under no_header x)
    where
      go : (z : Item) → header_by (shown_by (standing_at s at)) ≡ under no_header z → under (header_at s h) z ≡ header_at s (head_by h at z)
      go (Channel a b c) q = sym q
      go (Histogram a b c) q = sym q
      go (HitCount a b c) q = refl
      go (Sample v) q = refl
      go (Bin b n) q = refl
      go (LastCell a b) q = refl
      go (TimeBin t) q = refl
      go (Text t) q = refl
      go (StartEvent t ts n) q = refl
      go (ContinueEvent n) q = refl
      go (EndEvent n) q = refl

  head_noted : (x : Item) → 1 ≤ at → 1 ≤ head_by h at x
  head_noted (Channel a b c) l = l
  head_noted (Histogram a b c) l = l
  head_noted (HitCount a b c) l = g.noted
  head_noted (Sample v) l = g.noted
  head_noted (Bin b n) l = g.noted
  head_noted (LastCell a b) l = g.noted
  head_noted (TimeBin t) l = g.noted
  head_noted (Text t) l = g.noted
  head_noted (StartEvent t ts n) l = g.noted
  head_noted (ContinueEvent n) l = g.noted
  head_noted (EndEvent n) l = g.noted

  pub pass : (x : Item) (n : ℕ) → Turn s at g.on x n → Passed s at h x n
  pass x n t =
      let k : Header = header_at s h in
      let i = g.on.index in
      let wide = t.wide in
      let further = t.further in
      let here : Alike s at h k (x ∷ items_from s n) at = subst (λ (xs : List Item). Alike s at h k xs at) t.split (g.alike at (omega arith)) in
      let first = alike_first s at h k x (items_from s n) here in
      let later : (u : ℕ) → at < u → Alike s n (head_by h at x) (under k x) (items_from s n) u =
      λ u l. subst (λ (m : ℕ). Alike s m (head_by h at x) (under k x) (items_from s n) u) (sym wide)
      (alike_later s at h k x (items_from s n) u l (subst (λ (xs : List Item). Alike s at h k xs u) t.split (g.alike u (omega arith)))) in
      record {
        head = sym first.0;
        spot = sym first.1;
        between = λ u a b. blank_before s n (head_by h at x) (under k x) (items_from s n) u b (later u a);
        next = record {
          on = t.next;
          noted = head_noted x (omega arith);
          alike = λ u l. subst (λ (j : Header). Alike s n (head_by h at x) j (items_from s n) u) (header_next x n t.there) (later u (omega arith));
        };
      }

  -- at the last word no item is left
  pub ahead_end : last_of s ≤ at → (u : ℕ) → at ≤ u → Blank s u
  ahead_end l u a = blank_none s at h (header_at s h) u (subst (λ (xs : List Item). Alike s at h (header_at s h) xs u) (run_out s at g.on l).0 (g.alike u a))

-- ---- every word

-- an item begins there, or none does
data WordCase (s : List ℕ) (w : ℕ) : Type 0 where
  begins : (x : Item) (n h : ℕ) → standing_at s w ≡ some (record { item = x; next = n }) → 1 ≤ head_by h w x → Passed s w h x n → WordCase s w
  blank : Blank s w → WordCase s w

tail_is : (x y : Item) (xs ys : List Item) → x ∷ xs ≡ y ∷ ys → xs ≡ ys
tail_is x y xs ys e = cc

-- at word w, or somewhere behind the item that the scan stands at
told_turn : (s : List ℕ) (at h : ℕ) (g : Ahead s at h) (w : ℕ) → at ≤ w
    → ((y : Item) → Turn s at g.on y (next_at s at) → next_at s at ≤ w → WordCase s w) → WordCase s w
told_turn s at h g w l further = go (ltb at (last_of s)) refl
  where
    sides : (y : Item) → Turn s at g.on y (next_at s at) → (b : Bool) → eqb at w ≡ b → (c : Bool) → ltb w (next_at s at) ≡ c → WordCase s w
    sides y t true q c d =
        subst (WordCase s) (eqb-true at w q)
        (begins y (next_at s at) h t.there (head_noted s at h g y (let i = g.on.index in omega arith)) (pass s at h g y (next_at s at) t))
    sides y t false q true d = let n = eqb-false at w q in blank ((pass s at h g y (next_at s at) t).between w (omega arith) (ltb-true w (next_at s at) d))
    sides y t false q false d = further y t (ltb-false w (next_at s at) d)

    go : (b : Bool) → ltb at (last_of s) ≡ b → WordCase s w
    go true b = let (y, t) = turn s at g.on (ltb-true at (last_of s) b) in sides y t (eqb at w) refl (ltb w (next_at s at)) refl
    go false b = blank (ahead_end s at h g (ltb-false at (last_of s) b) w l)

told_from : (s : List ℕ) (xs : List Item) (at h : ℕ) → Ahead s at h → items_from s at ≡ xs → (w : ℕ) → at ≤ w → WordCase s w
told_from s [] at h g e w l = blank (blank_none s at h (header_at s h) w (subst (λ (xs : List Item). Alike s at h (header_at s h) xs w) e (g.alike w l)))
told_from s (x ∷ xs) at h g e w l =
    told_turn s at h g w l
    (λ y t m. told_from s xs (next_at s at) (head_by h at y) (pass s at h g y (next_at s at) t).next (tail_is y x _ xs (sym t.split ∙ e)) w m)

word_case : (s : List ℕ) → Bytes s → (f : Frame) → verdict s ≡ accepted f → (w : ℕ) → WordCase s w
word_case s y f v w = go (ltb w 3) refl
  where
    go : (b : Bool) → ltb w 3 ≡ b → WordCase s w
    go true b = blank (blank_first s y f v w (ltb-true w 3 b))
    go false b = told_from s (items_from s 3) 3 1 (ahead_start s y f v) refl w (ltb-false w 3 b)

pub by_noted : (s : List ℕ) (n : ℕ) → 1 ≤ n → (r : Shown) → spot_by s n (some r) ≡ spot_of (header_at s n) r.item
by_noted s zero l r = absurd (omega arith)
by_noted s (suc n) l r = refl

-- a Sample or Bin is no header, so that the header behind it is the one that it stands under
behind_spot : (s : List ℕ) (h at : ℕ) (x : Item) → spot_of (header_at s (head_by h at x)) x ≡ spot_of (header_at s h) x
behind_spot s h at (Channel a b c) = refl
behind_spot s h at (Histogram a b c) = refl
behind_spot s h at (HitCount a b c) = refl
behind_spot s h at (Sample v) = refl
behind_spot s h at (Bin b n) = refl
behind_spot s h at (LastCell a b) = refl
behind_spot s h at (TimeBin t) = refl
behind_spot s h at (Text t) = refl
behind_spot s h at (StartEvent t ts n) = refl
behind_spot s h at (ContinueEvent n) = refl
behind_spot s h at (EndEvent n) = refl

-- a spot of an item has the header that the item was given
own_header : (p : Spot) (k : Header) (z : ItemOf ℕ) → some p ≡ spot_of k z → some p ≡ spot_of p.header z
own_header p k (Channel a b c) e = no_some p (sym e)
own_header p k (Histogram a b c) e = no_some p (sym e)
own_header p k (HitCount a b c) e = no_some p (sym e)
own_header p k (Sample v) e = e ∙ ap (λ (q : Spot). some (record { kind = 1; value = v; header = q.header })) (sym (some_is p _ e))
own_header p k (Bin b n) e = e ∙ ap (λ (q : Spot). some (record { kind = 2; value = n; header = q.header })) (sym (some_is p _ e))
own_header p k (LastCell a b) e = no_some p (sym e)
own_header p k (TimeBin t) e = no_some p (sym e)
own_header p k (Text t) e = no_some p (sym e)
own_header p k (StartEvent t ts n) e = no_some p (sym e)
own_header p k (ContinueEvent n) e = no_some p (sym e)
own_header p k (EndEvent n) e = no_some p (sym e)

module _ (s : List ℕ) (y : Bytes s) (w : ℕ) where
  -- the word noted and the item that stands there tell the spot
  pub spot_by_lem : spot s w ≡ spot_by s (head s w) (shown_by (standing_at s w))
  unfolding head spot
  spot_by_lem = judged (verdict s) refl
    where
      by : WordCase s w → spot s w ≡ spot_by s (head s w) (shown_by (standing_at s w))
      by (begins x n h e l p) =
          p.spot ∙ sym (behind_spot s h w x) ∙ sym (shown_spot (header_at s (head_by h w x)) x)
          ∙ sym (by_noted s (head_by h w x) l (record { item = shown x; next = n }))
          ∙ ap₂ (λ (i : ℕ) (o : Option Found). spot_by s i (shown_by o)) (sym p.head) (sym e)
      by (blank b) = b.spot ∙ ap (λ (i : ℕ). spot_by s i (shown_by (standing_at s w))) (sym b.head)

      judged : (o : Outcome Frame) → verdict s ≡ o → spot s w ≡ spot_by s (head s w) (shown_by (standing_at s w))
      judged (accepted f) v = by (word_case s y f v w)
      judged (refused n p) v = ap (λ (o : Outcome Frame). spot_for o w) v ∙ ap (λ (o : Outcome Frame). spot_by s (head_for o w) (shown_by (standing_at s w))) (sym v)

  -- where no item stands there is no spot
  pub no_spot : none ≡ shown_by (standing_at s w) → none ≡ spot s w
  no_spot e = sym (spot_by_lem ∙ ap (spot_by s (head s w)) (sym e) ∙ go (head s w))
    where
      go : (h : ℕ) → spot_by s h none ≡ none
      go zero = refl
      go (suc h) = refl

  -- a spot is the item answered at its word, under its header
  pub spot_shown : (p : Spot) → some p ≡ spot s w → (r : Shown) → some r ≡ shown_by (standing_at s w) → some p ≡ spot_of p.header r.item
  spot_shown p e r i = go (head s w) (e ∙ spot_by_lem ∙ ap (spot_by s (head s w)) (sym i))
    where
      go : (h : ℕ) → some p ≡ spot_by s h (some r) → some p ≡ spot_of p.header r.item
      go zero q = no_some p (sym q)
      go (suc h) q = own_header p (header_at s (suc h)) r.item q

none_noted : (s : List ℕ) (w n p : ℕ) → verdict s ≡ refused n p → head s w ≡ 0
unfolding head
none_noted s w n p v = ap (λ (o : Outcome Frame). head_for o w) v

-- where a header is noted an item stands
pub noted_there : (s : List ℕ) → Bytes s → (w : ℕ) → 1 ≤ head s w → Noted s w
noted_there s y w l = judged (verdict s) refl
  where
    by : WordCase s w → Noted s w
    by (begins x n h e m p) =
        let t = stood s w x n e in
        record { late = t.late; early = t.early; whole = (next_at_lem s (last_of s) (within_bytes s) w x t.early t.token).within }
    by (blank b) = let z = b.head in absurd (omega arith)

    judged : (o : Outcome Frame) → verdict s ≡ o → Noted s w
    judged (accepted f) v = by (word_case s y f v w)
    judged (refused n p) v = let z = none_noted s w n p v in absurd (omega arith)

-- ---- a value put leaves every header at its word

replaced_heads : (h at : ℕ) (xs : List Item) (w v u : ℕ) → head_in h at (replaced at xs w v) u ≡ head_in h at xs u
unfolding replaced head_in
replaced_heads h at [] w v u = refl
replaced_heads h at (x ∷ xs) w v u =
    ap₂ (λ (j i : ℕ). pick (eqb u at) j (head_in j (at + i) (replaced (at + length (words_of x)) xs w v) u)) (same_head (eqb w at)) (same_long (eqb w at))
    ∙ ap (pick (eqb u at) (head_by h at x)) (replaced_heads (head_by h at x) (at + length (words_of x)) xs w v u)
  where
    same_head : (b : Bool) → head_by h at (pick b (with_value x v) x) ≡ head_by h at x
    same_head true = blind (head_by h at) (λ m n. refl) (λ b m n. refl) x v
    same_head false = refl

    same_long : (b : Bool) → length (words_of (pick b (with_value x v) x)) ≡ length (words_of x)
    same_long true = same_width x v
    same_long false = refl

pub put_heads : (s : List ℕ) → Bytes s → (w : ℕ) (p : Spot) → spot s w ≡ some p → (v : ℕ) → legal_value p.kind v ≡ true → (u : ℕ) → head (put s w v) u ≡ head s u
put_heads s y w p e v l u =
    let t = stands s w p e in
    let f : Frame = t.frame in
    head_in_lem (put s w v) (changed f w v) u (put_changed s y f t.accepted w p e v l) ∙ replaced_heads 1 3 f.items w v u ∙ sym (head_in_lem s f u t.accepted)
