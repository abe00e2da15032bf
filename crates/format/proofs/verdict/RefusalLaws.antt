-- T6 to T9 and T37, of proofs/front/Refusals.antt: one reading; a refusal given where it is due and due where it is given; the words after an item.
-- Assumes nothing.
use Prim.Native.Nat.{ℕ, suc, ◌+◌, ◌*◌, ◌/◌, ◌%◌, ◌<◌, ◌≤◌}
use mathlib.Core.Path.{◌≡◌, refl, sym, ap, ap₂, subst, ◌∙◌}
use mathlib.Core.List.{List, [], ◌∷◌, ◌++◌, map, append_assoc, append-nil}
use mathlib.Core.Bool.{Bool, true, false}
use mathlib.Core.Logic.{◌↔◌}
use native.Mathlib.Omega.{arith}
use borrow.Author.Tests.{ne_eqb, le-leb, lt-ltb}
use lib.ListN.{length, drop}
use Rattle.format.specs.Words.{pick, Bytes, words, bytes, non_zero, all_zero}
use Rattle.format.specs.Answers.{Outcome, accepted, refused, and_then}
use Rattle.format.specs.Prefix.{find}
use Rattle.format.specs.Book.{class_of}
use Rattle.format.specs.Items.{Item, Histogram, Bin, words_of, decode, Token, whole, token_of, tokens}
use Rattle.format.specs.Rules.{Kind, monitor_kind, since, count, total, gather, above, may_end, check}
use Rattle.format.specs.Frames.{Frame, earlier_then, Sound, all_words, frame_words, encode, Legal, last_of, head_fault, kind_in, card_in, front, body, walk, ending, judged, verdict}
use Rattle.format.specs.Questions.{events, pick_nth, event_at}
use Rattle.format.specs.Figures.{pedestal}
use Rattle.format.specs.Faults.{HeadBroken, Refused, of_head, of_item, of_end, Placed, Answered, reads, refuses}
use Rattle.format.proofs.book.PrefixLaws.{and_both}
use Rattle.format.proofs.items.WordLaws.{below_drop}
use Rattle.format.proofs.items.ItemLaws.{read_written}
use Rattle.format.proofs.verdict.WalkLaws.{walk_sound, walk_complete, allowed_fits}
use Rattle.format.proofs.verdict.HeadLaws.{front_below}
use Rattle.format.proofs.verdict.Acceptance.{verdict_of, sound, complete, exactly, in_order}
use Rattle.format.proofs.verdict.FaultLaws.{one_first, HeadJudged, fine, faulty, head_number, head_judged, item_number}
use Rattle.format.proofs.verdict.WalkFaults.{refused_is, not_refused, walk_refused, walk_refuses}

-- ---- T6: two legal frames that are written as the same bytes are one

one_accepted : (f g : Frame) → accepted f ≡ accepted g → f ≡ g
one_accepted f g e = cc

pub one_reading : (f g : Frame) → Legal f → Legal g → encode f ≡ encode g → f ≡ g
one_reading f g l m e = one_accepted f g (sym (complete f l) ∙ ap verdict e ∙ complete g m)

-- ---- T7: a refusal is given exactly where it is due

head_refused : (s : List ℕ) (n : ℕ) → head_fault s ≡ suc n → verdict s ≡ refused (suc n) 0
unfolding verdict
head_refused s n e = rw (e, ne_eqb (suc n) 0 (λ h. omega arith))

head_passed : (s : List ℕ) → head_fault s ≡ 0 → verdict s ≡ judged s
unfolding verdict
head_passed s e = rw e

module _ (s : List ℕ) (bs : Bytes s) where
  -- the items end before the last word
  enough : 2 * last_of s ≤ length s
  enough = omega arith

  -- a refusal that the walk gives is due
  item_due : (n p : ℕ) → ((m : ℕ) → HeadBroken s m → ⊥) → walk (kind_in s) (card_in s) [] 3 (body s) ≡ refused n p → Refused s n p
  unfolding front
  item_due n p none e = of_item n p none (walk_refused s bs (last_of s) enough n p e)

  -- and so is one after the last item
  end_due : (n p : ℕ) (q : List Item) → ((m : ℕ) → HeadBroken s m → ⊥) → walk (kind_in s) (card_in s) [] 3 (body s) ≡ accepted q → ending s q ≡ refused n p → Refused s n p
  end_due n p q none e f = go (may_end q) _ refl f
    where
      go : (b : Bool) (k : Frame) → may_end q ≡ b → pick b (accepted k) (refused 11 (last_of s)) ≡ refused n p → Refused s n p
      go true k m g = not_refused k n p g
      go false k m g =
          let w = walk_sound (kind_in s) (card_in s) (length (drop 3 (front s))) [] 3 (drop 3 (front s)) q (omega arith) (below_drop 3 (front s) 65536 (front_below s bs)) e in
          let (i, j) = refused_is 11 n (last_of s) p g in
          subst (λ (k : ℕ). Refused s k p) i
          (subst (λ (r : ℕ). Refused s 11 r) j (of_end w.items none w.sound w.written (ap may_end (sym w.earlier) ∙ m)))

  due : (n p : ℕ) → verdict s ≡ refused n p → Refused s n p
  unfolding judged
  due n p e = go (head_judged s)
    where
      by_walk : ((m : ℕ) → HeadBroken s m → ⊥) → (o : Outcome (List Item)) → walk (kind_in s) (card_in s) [] 3 (body s) ≡ o → and_then o (ending s) ≡ refused n p → Refused s n p
      by_walk none (accepted q) w f = end_due n p q none w f
      by_walk none (refused m r) w f = let (i, j) = refused_is m n r p f in item_due n p none (w ∙ ap₂ refused i j)

      go : HeadJudged s → Refused s n p
      go (fine h none) = by_walk none (walk (kind_in s) (card_in s) [] 3 (body s)) refl (sym (head_passed s h) ∙ e)
      go (faulty m h f) =
          let (i, j) = refused_is (suc m) n 0 p (sym (head_refused s m h) ∙ e) in
          subst (λ (r : ℕ). Refused s n r) j (subst (λ (k : ℕ). Refused s k 0) i (of_head (suc m) f))

  -- where the first five rules hold, the verdict is that of the items
  by_items : (o : Outcome (List Item)) → ((m : ℕ) → HeadBroken s m → ⊥) → walk (kind_in s) (card_in s) [] 3 (body s) ≡ o → verdict s ≡ and_then o (ending s)
  unfolding judged
  by_items o none w = go (head_judged s)
    where
      go : HeadJudged s → verdict s ≡ and_then o (ending s)
      go (fine h n) = head_passed s h ∙ ap (λ (o : Outcome (List Item)). and_then o (ending s)) w
      go (faulty m h f) = absurd (none (suc m) f.broken)

  -- a refusal that is due is given
  given : (n p : ℕ) → Refused s n p → verdict s ≡ refused n p
  unfolding front
  given n p (of_head k f) = go (head_judged s)
    where
      go : HeadJudged s → verdict s ≡ refused k 0
      go (fine h none) = absurd (none k f.broken)
      go (faulty m h g) = head_refused s m h ∙ ap (λ (n : ℕ). refused n 0) (one_first (HeadBroken s) (suc m) k g f)
  given n p (of_item k r none f) = by_items (refused k r) none (walk_refuses s bs (last_of s) enough k r f)
  given n p (of_end xs none sd written opened) =
      by_items (accepted (earlier_then [] xs)) none
      (ap (λ (l : List ℕ). walk (kind_in s) (card_in s) [] 3 (tokens 0 l)) written ∙ walk_complete (kind_in s) (card_in s) xs [] 3 sd)
      ∙ (rw opened)

  -- T7, both ways
  pub refusals : (n p : ℕ) → (verdict s ≡ refused n p) ↔ Refused s n p
  refusals n p = (due n p, given n p)

-- ---- T37: the numbers and the places

due_placed : (s : List ℕ) (n p : ℕ) → Refused s n p → Placed s n p
due_placed s n p (of_head k f) =
    let (a, b) = head_number s k f.broken in
    record { least = a; most = omega arith; head = λ h. refl; item = λ h i. absurd (omega arith); last = λ h. absurd (omega arith) }
due_placed s n p (of_item k r none f) =
    let (a, b) = item_number s (last_of s) (earlier_then [] f.items) r k f.first.broken in
    record { least = omega arith; most = omega arith; head = λ h. absurd (omega arith); item = λ h i. (omega (arith, f.begins), f.inside); last = λ h. absurd (omega arith) }
due_placed s n p (of_end xs none sd written opened) =
    record { least = omega arith; most = omega arith; head = λ h. absurd (omega arith); item = λ h i. absurd (omega arith); last = λ h. refl }

pub places : (s : List ℕ) → Bytes s → (n p : ℕ) → verdict s ≡ refused n p → Placed s n p
places s bs n p e = due_placed s n p ((refusals s bs n p).0 e)

-- ---- T8: one answer

pub answered : (s : List ℕ) → Bytes s → Answered s
answered s bs = go (verdict s) refl
  where
    go : (o : Outcome Frame) → verdict s ≡ o → Answered s
    go (accepted f) e =
        let (l, w) = sound s bs f e in
        reads f e l w (λ g m v. one_accepted g f (sym ((exactly s bs g).1 (m, v)) ∙ e)) (λ n p r. not_refused f n p (sym e ∙ (refusals s bs n p).1 r))
    go (refused n p) e =
        let h = places s bs n p e in
        refuses n p e h.least h.most (λ m r d. refused_is m n r p (sym ((refusals s bs m r).1 d) ∙ e)) (λ f l w. not_refused f n p (sym ((exactly s bs f).1 (l, w)) ∙ e))

-- ---- T9: the words after an item are data

-- what is read in the words of some items, and in whatever comes after them, is those items and what is read after them
pub alone : (kind : Kind) (card : ℕ) (q xs : List Item) (rest : List ℕ) → Sound kind card q xs → tokens 0 (all_words xs ++ rest) ≡ map whole xs ++ tokens 0 rest
unfolding Sound all_words
alone kind card q [] rest s = refl
alone kind card q (x ∷ xs) rest s =
    ap (tokens 0) (append_assoc (words_of x) (all_words xs) rest)
    ∙ read_written x (all_words xs ++ rest) (allowed_fits kind card q x s.0)
    ∙ ap (λ (ts : List Token). whole x ∷ ts) (alone kind card (x ∷ q) xs rest s.1)

-- no item of an accepted frame begins inside another: what begins at its words is its items, one for one
pub items_only : (s : List ℕ) → Bytes s → (f : Frame) → verdict s ≡ accepted f → body s ≡ map whole f.items
unfolding tokens
items_only s bs f e =
    let v = verdict_of s f e in
    let j = v.judged in
    let w = walk_sound (kind_in s) (card_in s) (length (drop 3 (front s))) [] 3 (drop 3 (front s)) j.earlier (omega arith) (below_drop 3 (front s) 65536 (front_below s bs)) j.walked in
    ap (tokens 0) (w.written ∙ sym (append-nil (all_words w.items)))
    ∙ alone (kind_in s) (card_in s) [] w.items [] w.sound
    ∙ append-nil (map whole w.items)
    ∙ ap (map whole) (sym (in_order w.items) ∙ ap (earlier_then []) (sym w.earlier) ∙ ap (λ (g : Frame). g.items) j.ended.frame)

-- 00F1 in a Bin's count, where it looks like a Start event
pub bin_count : (b high : ℕ) (rest : List ℕ) → b ≤ 4095 → high < 65536
    → tokens 0 ((0x2000 + b) ∷ 0x00F1 ∷ high ∷ rest) ≡ whole (Bin b (0x00F1 + 65536 * high)) ∷ tokens 0 rest
unfolding words_of
bin_count b high rest h k =
    let n : ℕ = 0x00F1 + 65536 * high in
    let low : 0x00F1 ≡ n % 65536 = omega arith in
    let up : high ≡ n / 65536 = omega arith in
    ap₂ (λ (u v : ℕ). tokens 0 ((0x2000 + b) ∷ u ∷ v ∷ rest)) low up
    ∙ read_written (Bin b n) rest (and_both _ _ (le-leb b 4095 h) (lt-ltb n 4294967296 (omega arith)))

-- a Bin opens no event, whatever its count
pub no_event : (at b n : ℕ) (xs : List Item) → events at (Bin b n ∷ xs) ≡ events (at + 3) xs
unfolding events words_of
no_event at b n xs = refl

-- case 7 with 00F1 in the count's low word: a histogram and its bin, and no event
pub counted : verdict (pedestal 0x8A4E 0x00F1 1) ≡ accepted (record { kind = monitor_kind; card = 5; sequence = 0; items = Histogram 5 0 78 ∷ Bin 256 0x100F1 ∷ [] })
unfolding bytes words non_zero all_zero find class_of words_of decode token_of tokens since count total gather above check earlier_then head_fault front walk judged verdict
counted = refl

pub no_event_there : event_at (pedestal 0x8A4E 0x00F1 1) 0 ≡ refused 13 0
unfolding bytes words non_zero all_zero find class_of words_of decode token_of tokens since count total gather above check earlier_then head_fault front walk judged verdict event_at events pick_nth
no_event_there = refl

-- ---- there are legal frames: of every kind, card and sequence word the one without items
pub empty_legal : (kind : Kind) (card sequence : ℕ) → card ≤ 31 → sequence ≤ 0x0100
    → Legal (record { kind = kind; card = card; sequence = sequence; items = [] })
unfolding Sound earlier_then since count encode frame_words all_words bytes
empty_legal kind card sequence c q = record { card = c; sequence = q; sound = tt; ended = refl; short = omega arith }
