-- An accepted data frame links, and leaves an event open, as its marks and a few of its words tell.
-- Assumes nothing.
use Prim.Native.Nat.{ℕ, ◌+◌, ◌-◌, ◌*◌, max, ◌≤◌}
use mathlib.Core.Path.{◌≡◌, refl, sym, ap, ap₂, subst, ◌∙◌}
use mathlib.Core.List.{List, [], ◌∷◌, ◌++◌}
use mathlib.Core.Bool.{Bool, true, false, not, ◌&&◌, true≢false}
use mathlib.Core.Option.{Option, none, some}
use native.Mathlib.Omega.{arith}
use lib.Dec.{leb, ltb, eqb}
use lib.ListN.{length, length-append}
use borrow.Author.Tests.{leb-true, le-leb, eq-eqb, ne_eqb}
use Rattle.format.specs.Words.{pick, word_at, long_at}
use Rattle.format.specs.Book.{start_event, end_event}
use Rattle.format.specs.Items.{Item, StartEvent, ContinueEvent, EndEvent, class_for, words_of, fits}
use Rattle.format.specs.Rules.{data_kind, same, since, count, total, gather, channel_key, head_or_zero, openers, in_event, begun}
use Rattle.format.specs.Frames.{Frame, earlier_then, Sound, all_words, encode, Legal}
use Rattle.format.specs.Steps.{Marks, ReaderState, above_all, opener_after, first_after, lead_after, marks_after, state_of}
use Rattle.format.specs.Questions.{end_size, head_of, until}
use Rattle.format.proofs.book.PrefixLaws.{and_left, and_right}
use Rattle.format.proofs.rules.SoundLaws.{Seen, starts, continues, opening, ends, other, seen, open_nil, open_opening, stays_open, sound_head, sound_tail, own_nil, own_sound}
use Rattle.format.proofs.reader.StateLaws.{open_in_lem}
use Rattle.format.proofs.questions.ItemQuestions.{no_some, some_is, all_words_lem}
use Rattle.format.proofs.verdict.WalkLaws.{allowed_fits}
use Rattle.format.proofs.spots.PutLaws.{length_encode}
use Rattle.format.proofs.writer.NoDeadEnd.{total_behind}
use Rattle.runs.specs.Assembly.{Open, continued, is_none, is_number, from, part_bytes, size_goes_on, goes_on, linked, start_number, last_open, grown, open_after}
use Rattle.runs.specs.Marked.{continues_at, rises_by, item_bytes, size_by, goes_on_by, linked_by, begun_by, open_by}
use Rattle.runs.proofs.joins.PartLaws.{Next, a_start, a_continue, an_end, another, next}
use Rattle.runs.proofs.joins.BeginLaws.{count_front, no_sizes, some_sizes, until_all, continued_is, part_alone, first_continues}
use Rattle.runs.proofs.joins.OpenLaws.{is_number_lem}
use Rattle.runs.proofs.joins.ListLaws.{since_all, begun_count}
use Rattle.runs.proofs.cuts.GlueLaws.{data_sound, begun_inside}
use Rattle.runs.proofs.runs.HeldLaws.{size_begun}
use Rattle.runs.proofs.marks.StandingLaws.{end_size_lem, start_number_lem, first_word, continue_number, no_item_word}
use Rattle.runs.proofs.marks.LeadLaws.{Leads, lead_of, one_more, lead_from, first_from, first_rises}

-- the first End event, and what stands before it
ended_at : (xs : List Item) (z : ℕ) → head_of (gather end_size xs) ≡ some z → (zs : List Item) × (xs ≡ until end_event xs ++ (EndEvent z ∷ zs))
unfolding gather until
ended_at [] z e = no_some z e
ended_at (x ∷ xs) z e = go (seen x) (ended_at xs z)
  where
    More : Type 0
    More = head_of (gather end_size xs) ≡ some z → (zs : List Item) × (xs ≡ until end_event xs ++ (EndEvent z ∷ zs))

    Goal : Type 0
    Goal = (zs : List Item) × (x ∷ xs ≡ pick (same end_event (class_for x)) [] (x ∷ until end_event xs) ++ (EndEvent z ∷ zs))

    plain : same end_event (class_for x) ≡ false → end_size x ≡ [] → More → Goal
    plain n i r =
        let (zs, w) = r (ap (λ (l : List ℕ). head_of (l ++ gather end_size xs)) (sym i) ∙ e) in
        (zs, ap (λ (l : List Item). x ∷ l) w ∙ sym (ap (λ (b : Bool). pick b [] (x ∷ until end_event xs) ++ (EndEvent z ∷ zs)) n))

    go : Seen x → More → Goal
    go (opening (starts t ts n i)) r = plain (rw i) (ap end_size i) r
    go (opening (continues n i)) r = plain (rw i) (ap end_size i) r
    go (ends n i) r =
        let w : n ≡ z = some_is n z (ap (λ (y : Item). head_of (end_size y ++ gather end_size xs)) (sym i) ∙ e) in
        (xs, ap (λ (y : Item). y ∷ xs) (i ∙ ap EndEvent w) ∙ sym (ap (λ (y : Item). pick (same end_event (class_for y)) [] (y ∷ until end_event xs) ++ (EndEvent z ∷ xs)) i))
    go (other d) r = plain d.no_end d.no_size r

-- a Continue event alone
lone : (n : ℕ) → Leads (ContinueEvent n ∷ [])
unfolding count
lone n = record { no_start = refl; no_end = refl; inside = open_opening (ContinueEvent n) [] (continues n refl) }

lone_marks : (n : ℕ) → (first_after (ContinueEvent n ∷ []) ≡ 0) × (lead_after (ContinueEvent n ∷ []) ≡ 0) × (gather channel_key (ContinueEvent n ∷ []) ≡ []) × (total (ContinueEvent n ∷ []) ≡ 3)
unfolding first_after lead_after gather total words_of
lone_marks n = (refl, refl, refl, refl)

module _ (s : List ℕ) (f : Frame) (legal : Legal f) (written : s ≡ encode f) (of_data : f.kind ≡ data_kind) where
  abbrev xs : List Item
  xs = f.items

  abbrev p : List Item
  p = earlier_then [] xs

  sound : Sound data_kind f.card [] xs
  sound = data_sound f legal of_data

  long : length s ≡ 2 * (4 + length (all_words xs))
  long = ap length written ∙ length_encode f

  -- ---- how it begins

  sound_at : (ys : List Item) → xs ≡ ys → Sound data_kind f.card [] ys
  sound_at ys e = subst (Sound data_kind f.card []) e sound

  first_item : (x : Item) (ys : List Item) → xs ≡ x ∷ ys → Next [] x → continued (x ∷ ys) ≡ pick (continues_at s) (some (long_at s 4)) none
  unfolding words_of
  first_item x ys e (a_start t ts n i o) =
      let g = allowed_fits data_kind f.card [] x (sound_head data_kind f.card [] x ys (sound_at (x ∷ ys) e)) in
      let h : t ≤ 15 = leb-true t 15 (and_left (leb t 15) (leb ts 281474976710655) (and_left (leb t 15 && leb ts 281474976710655) (ltb n 4294967296) (ap fits (sym i) ∙ g))) in
      let w : word_at s 3 ≡ 0x00F0 + t = first_word s f written (StartEvent t ts n) ys (e ∙ ap (λ (y : Item). y ∷ ys) i) (omega arith) in
      ap (λ (y : Item). continued (y ∷ ys)) i ∙ sym (ap (λ (b : Bool). pick b (some (long_at s 4)) none) (ne_eqb (word_at s 3) 0x0A00 (λ j. omega arith)))
  first_item x ys e (a_continue n i o) =
      let j = e ∙ ap (λ (y : Item). y ∷ ys) i in
      let w : word_at s 3 ≡ 0x0A00 = first_word s f written (ContinueEvent n) ys j (omega arith) in
      ap (λ (y : Item). continued (y ∷ ys)) i ∙ ap some (sym (continue_number s f written ys n j))
      ∙ sym (ap (λ (b : Bool). pick b (some (long_at s 4)) none) (eq-eqb (word_at s 3) 0x0A00 w))
  first_item x ys e (an_end n i o) = absurd (true≢false (sym o ∙ open_nil))
  first_item x ys e (another d o) = absurd (true≢false (sym o ∙ open_nil))

  begins : continued xs ≡ pick (continues_at s) (some (long_at s 4)) none
  begins = go xs refl
    where
      go : (l : List Item) → xs ≡ l → continued xs ≡ pick (continues_at s) (some (long_at s 4)) none
      go [] e =
          let w = no_item_word s f written e in
          ap continued e ∙ sym (ap (λ (b : Bool). pick b (some (long_at s 4)) none) (ne_eqb (word_at s 3) 0x0A00 (λ j. omega arith)))
      go (x ∷ ys) e = ap continued e ∙ first_item x ys e (next f.card [] x (sound_head data_kind f.card [] x ys (sound_at (x ∷ ys) e)))

  -- ---- the part that a Continue event leads

  module _ (n : ℕ) (ys : List Item) (led : xs ≡ ContinueEvent n ∷ ys) where
    abbrev q : List Item
    q = ContinueEvent n ∷ []

    tail : Sound data_kind f.card q ys
    tail = sound_tail data_kind f.card [] (ContinueEvent n) ys (sound_at (ContinueEvent n ∷ ys) led)

    behind_led : p ≡ earlier_then q ys
    unfolding earlier_then
    behind_led = ap (earlier_then []) led

    keys_led : gather channel_key (until end_event xs) ≡ gather channel_key (until end_event ys)
    unfolding gather until
    keys_led = ap (λ (l : List Item). gather channel_key (until end_event l)) led

    sizes_led : gather end_size xs ≡ gather end_size ys
    unfolding gather
    sizes_led = ap (gather end_size) led

    words_led : length (all_words (until end_event xs)) ≡ 3 + length (all_words (until end_event ys))
    unfolding until all_words words_of
    words_led = ap (λ (l : List Item). length (all_words (until end_event l))) led ∙ omega arith

    rises : (k : ℕ) → from k (gather channel_key (until end_event xs)) ≡ rises_by k (first_after p)
    rises k =
        let (a, b, c, d) = lone_marks n in
        let e : first_after p ≡ one_more (gather channel_key (until end_event ys)) =
        ap first_after behind_led ∙ first_from f.card q ys (lone n) tail ∙ ap (λ (m : ℕ). pick (eqb m 0) (one_more (gather channel_key (until end_event ys))) m) a in
        ap (from k) keys_led ∙ first_rises f.card k q ys (lone n) c tail ∙ ap (rises_by k) (sym e)

    pub lead_is : lead_after p ≡ lead_of 3 xs (head_of (gather end_size xs))
    lead_is =
        let (a, b, c, d) = lone_marks n in
        ap lead_after behind_led ∙ lead_from f.card q ys (lone n) b tail ∙ ap (λ (l : List ℕ). lead_of (3 + total q) ys (head_of l)) (sym sizes_led)
        ∙ go (head_of (gather end_size xs))
      where
        go : (o : Option ℕ) → lead_of (3 + total q) ys o ≡ lead_of 3 xs o
        go none = refl
        go (some z) = let (a, b, c, d) = lone_marks n in omega (arith, words_led)

    sizes : (size : ℕ) → size_goes_on (size + part_bytes xs) (head_of (gather end_size xs)) ≡ size_by size s (lead_after p)
    unfolding size_by
    sizes size = go (head_of (gather end_size xs)) refl ∙ ap (size_by size s) (sym lead_is)
      where
        go : (o : Option ℕ) → head_of (gather end_size xs) ≡ o → size_goes_on (size + part_bytes xs) (head_of (gather end_size xs)) ≡ size_by size s (lead_of 3 xs (head_of (gather end_size xs)))
        go none e =
            let w : length (all_words (until end_event xs)) ≡ length (all_words xs) = ap (λ (l : List Item). length (all_words l)) (until_all xs (some_sizes xs e)) in
            let i : size + part_bytes xs ≡ size + item_bytes s = omega (arith, long) in
            ap (size_goes_on (size + part_bytes xs)) e ∙ ap (λ (m : ℕ). ltb m 4294967296) i ∙ sym (ap (λ (o : Option ℕ). size_by size s (lead_of 3 xs o)) e)
        go (some z) e =
            let (zs, w) = ended_at xs z e in
            let l : ℕ = 3 + length (all_words (until end_event xs)) in
            let i : size + part_bytes xs + 6 ≡ size + 2 * l = omega arith in
            let h : long_at s (l + 1) ≡ z = end_size_lem s f written (until end_event xs) zs z w in
            ap (size_goes_on (size + part_bytes xs)) e ∙ ap₂ eqb (sym h) i
            ∙ sym (ap (λ (o : Option ℕ). size_by size s (lead_of 3 xs o)) e ∙ ap (λ (b : Bool). pick b (ltb (size + item_bytes s) 4294967296) (eqb (long_at s (l + 1)) (size + 2 * l))) (ne_eqb l 0 (λ j. omega arith)))

  -- ---- whether it links

  abbrev marks : Marks
  marks = marks_after p

  marks_are : marks_after p ≡ record { opener = opener_after p; first = first_after p; lead = lead_after p }
  unfolding marks_after
  marks_are = refl

  goes_on_by_lem : (o : Open) (lost : ℕ) → goes_on o lost xs ≡ goes_on_by o lost s marks
  unfolding goes_on_by
  goes_on_by_lem o lost = go (continues_at s) refl
    where
      go : (b : Bool) → continues_at s ≡ b → goes_on o lost xs ≡ goes_on_by o lost s marks
      go false b =
          let c : continued xs ≡ none = begins ∙ ap (λ (t : Bool). pick t (some (long_at s 4)) none) b in
          ap (λ (c : Option ℕ). eqb lost 0 && is_number o.number c && from o.key (gather channel_key (until end_event xs)) && size_goes_on (o.size + part_bytes xs) (head_of (gather end_size xs))) c
          ∙ both (eqb lost 0) (from o.key (gather channel_key (until end_event xs))) (size_goes_on (o.size + part_bytes xs) (head_of (gather end_size xs))) (eqb o.number (long_at s 4)) (rises_by o.key marks.first) (size_by o.size s marks.lead)
          ∙ sym (ap (λ (t : Bool). eqb lost 0 && t && eqb o.number (long_at s 4) && rises_by o.key marks.first && size_by o.size s marks.lead) b)
        where
          both : (a b c d e f : Bool) → a && false && b && c ≡ a && false && d && e && f
          both true b c d e f = refl
          both false b c d e f = refl
      go true b =
          let c : continued xs ≡ some (long_at s 4) = begins ∙ ap (λ (t : Bool). pick t (some (long_at s 4)) none) b in
          let (ys, i) = continued_is xs (long_at s 4) c in
          let r = rises (long_at s 4) ys i o.key ∙ ap (λ (m : Marks). rises_by o.key m.first) (sym marks_are) in
          let z = sizes (long_at s 4) ys i o.size ∙ ap (λ (m : Marks). size_by o.size s m.lead) (sym marks_are) in
          ap (λ (c : Option ℕ). eqb lost 0 && is_number o.number c && from o.key (gather channel_key (until end_event xs)) && size_goes_on (o.size + part_bytes xs) (head_of (gather end_size xs))) c
          ∙ ap₂ (λ (r z : Bool). eqb lost 0 && eqb o.number (long_at s 4) && r && z) r z
          ∙ both (eqb lost 0) (eqb o.number (long_at s 4)) (rises_by o.key marks.first) (size_by o.size s marks.lead)
          ∙ sym (ap (λ (t : Bool). eqb lost 0 && t && eqb o.number (long_at s 4) && rises_by o.key marks.first && size_by o.size s marks.lead) b)
        where
          both : (a b c d : Bool) → a && b && c && d ≡ a && true && b && c && d
          both true b c d = refl
          both false b c d = refl

  pub linked_by_lem : (o : Option Open) (lost : ℕ) → linked o lost xs ≡ linked_by o lost s marks
  unfolding linked_by
  linked_by_lem none lost = ap is_none begins ∙ go (continues_at s)
    where
      go : (b : Bool) → is_none (pick b (some (long_at s 4)) none) ≡ not b
      go true = refl
      go false = refl
  linked_by_lem (some o) lost = goes_on_by_lem o lost

  -- ---- what is open then

  abbrev st : ReaderState
  st = state_of data_kind p

  not_begun_by : begun p ≡ false → begun_by s st ≡ none
  unfolding state_of marks_after begun_by
  not_begun_by b = ap (λ (t : Bool). pick (t && not (eqb (opener_after p) 0)) here none) (open_in_lem p) ∙ go (in_event p) refl
    where
      here : Option Open
      here = some (record { number = long_at s (opener_after p + 4); size = length s - 2 - 2 * opener_after p; key = above_all (gather channel_key (since start_event p)) })

      go : (i : Bool) → in_event p ≡ i → pick (i && not (eqb (opener_after p) 0)) here none ≡ none
      go false i = refl
      go true i =
          let o : opener_after p ≡ 0 = ap (λ (t : Bool). pick t ((3 + total p) - total (since start_event p)) 0) (own_sound data_kind f.card [] xs sound own_nil i ∙ b) in
          ap (λ (t : Bool). pick (not t) here none) (eq-eqb (opener_after p) 0 o)

  -- where the open event began
  begun_at : begun p ≡ true → (before inside : List Item) × (t ts : ℕ) × (xs ≡ before ++ (StartEvent t ts (head_or_zero (gather start_number p)) ∷ inside))
      × (opener_after p ≡ 3 + length (all_words before)) × (2 * total (since start_event p) ≡ length s - 2 - 2 * (3 + length (all_words before)))
  unfolding total
  begun_at b =
      let h = begun_inside xs b in
      let n = head_or_zero (gather start_number p) in
      let z = size_begun xs n h in
      let w = total_behind [] xs in
      let v : length (all_words xs) ≡ length (all_words h.before ++ all_words (StartEvent h.kind h.timestamp n ∷ h.inside)) =
      ap (λ (l : List Item). length (all_words l)) h.are ∙ ap length (all_words_lem h.before (StartEvent h.kind h.timestamp n ∷ h.inside)) in
      let u = length-append (all_words h.before) (all_words (StartEvent h.kind h.timestamp n ∷ h.inside)) in
      let o : opener_after p ≡ (3 + total p) - total (since start_event p) = ap (λ (t : Bool). pick t ((3 + total p) - total (since start_event p)) 0) (le-leb 1 (count start_event p) (begun_count p b)) in
      (h.before, h.inside, h.kind, h.timestamp, h.are, omega (arith, long), omega (arith, long))

  begun_open : begun p ≡ true → in_event p ≡ true
  begun_open b = let h = leb-true 1 (count start_event (since end_event p)) b in le-leb 1 (openers (since end_event p)) (omega arith)

  begun_by_lem : begun p ≡ true → begun_by s st ≡ some (last_open p)
  unfolding state_of marks_after begun_by
  begun_by_lem b =
      let (before, inside, t, ts, e, o, z) = begun_at b in
      let n : long_at s (opener_after p + 4) ≡ head_or_zero (gather start_number p) = ap (λ (k : ℕ). long_at s (k + 4)) o ∙ start_number_lem s f written before inside t ts _ e in
      let w : length s - 2 - 2 * opener_after p ≡ 2 * total (since start_event p) = ap (λ (k : ℕ). length s - 2 - 2 * k) o ∙ sym z in
      ap₂ (λ (t e : Bool). pick (t && not e) (some (record { number = long_at s (opener_after p + 4); size = length s - 2 - 2 * opener_after p; key = above_all (gather channel_key (since start_event p)) })) none)
      (open_in_lem p ∙ begun_open b) (ne_eqb (opener_after p) 0 (λ j. omega arith))
      ∙ (λ i. some (record { number = n i; size = w i; key = above_all (gather channel_key (since start_event p)) }))

  state_key : st.key ≡ above_all (gather channel_key (since start_event p))
  unfolding state_of
  state_key = refl

  state_lead : st.marks.lead ≡ lead_after p
  unfolding state_of marks_after
  state_lead = refl

  -- the whole frame is one part of an event that goes on
  module _ (n : ℕ) (ys : List Item) (led : xs ≡ ContinueEvent n ∷ ys) (none-given : head_of (gather end_size xs) ≡ none) where
    no_ends : count end_event ys ≡ 0
    unfolding count
    no_ends = let e : count end_event xs ≡ 0 + count end_event ys = ap (count end_event) led in omega (arith, some_sizes xs none-given)

    no_starts : count start_event p ≡ 0
    unfolding count
    no_starts =
        let g = part_alone f.card n ys (tail n ys led) no_ends in
        let k : count start_event xs ≡ 0 + count start_event ys = ap (count start_event) led in
        omega (arith, count_front start_event xs)

    through_open : in_event p ≡ true
    through_open =
        ap (λ (l : List Item). in_event l) (behind_led n ys led) ∙ stays_open (ContinueEvent n ∷ []) ys (open_opening (ContinueEvent n) [] (continues n refl)) no_ends

    through_begun : begun p ≡ false
    through_begun = go (begun p) refl
      where
        go : (b : Bool) → begun p ≡ b → begun p ≡ false
        go false e = e
        go true e = absurd (omega (arith, begun_count p e, no_starts))

    through_by : (o : Open) → open_after (some o) p ≡ open_by (some o) s st
    unfolding open_after total open_by
    through_by o =
        let z : o.size + 2 * total p ≡ o.size + item_bytes s = omega (arith, total_behind [] xs, long) in
        let k : max o.key (above_all (gather channel_key p)) ≡ max o.key st.key =
        ap (λ (l : List Item). max o.key (above_all (gather channel_key l))) (sym (since_all start_event p no_starts)) ∙ ap (max o.key) (sym state_key) in
        let w : st.marks.lead ≡ 0 = state_lead ∙ lead_is n ys led ∙ ap (lead_of 3 xs) none-given in
        ap₂ (λ (b i : Bool). pick b (some (last_open p)) (pick i (grown (some o) p) none)) through_begun through_open
        ∙ (λ i. some (record { number = o.number; size = z i; key = k i }))
        ∙ sym (ap (λ (t : Bool). pick t (some (record { number = o.number; size = o.size + item_bytes s; key = max o.key st.key })) (begun_by s st)) (eq-eqb st.marks.lead 0 w))

  -- what began in the frame, or nothing
  own_by : (o : Option Open) → (begun p ≡ false → pick (in_event p) (grown o p) none ≡ none) → open_after o p ≡ begun_by s st
  unfolding open_after
  own_by o h = go (begun p) refl
    where
      go : (b : Bool) → begun p ≡ b → open_after o p ≡ begun_by s st
      go true e = ap (λ (t : Bool). pick t (some (last_open p)) (pick (in_event p) (grown o p) none)) e ∙ sym (begun_by_lem e)
      go false e = ap (λ (t : Bool). pick t (some (last_open p)) (pick (in_event p) (grown o p) none)) e ∙ h e ∙ sym (not_begun_by e)

  ended_by : (o : Open) (n : ℕ) (ys : List Item) → xs ≡ ContinueEvent n ∷ ys → (z : ℕ) → head_of (gather end_size xs) ≡ some z → open_after (some o) p ≡ open_by (some o) s st
  unfolding open_by
  ended_by o n ys led z e =
      let w : st.marks.lead ≡ 3 + length (all_words (until end_event xs)) = state_lead ∙ lead_is n ys led ∙ ap (lead_of 3 xs) e in
      own_by (some o) (λ b. shut b (in_event p) refl)
      ∙ sym (ap (λ (t : Bool). pick t (some (record { number = o.number; size = o.size + item_bytes s; key = max o.key st.key })) (begun_by s st)) (ne_eqb st.marks.lead 0 (λ j. omega arith)))
    where
      shut : begun p ≡ false → (i : Bool) → in_event p ≡ i → pick (in_event p) (grown (some o) p) none ≡ none
      shut b false i = ap (λ (t : Bool). pick t (grown (some o) p) none) i
      shut b true i =
          let (m, zs, k, c) = first_continues f.card xs sound b i in
          no_some z (sym (ap head_of (no_sizes xs c)) ∙ e)

  pub open_by_lem : (o : Option Open) (lost : ℕ) → linked o lost xs ≡ true → open_after o p ≡ open_by o s st
  unfolding open_by
  open_by_lem none lost t = own_by none (λ b. nothing (in_event p))
    where
      nothing : (i : Bool) → ◌≡◌ {A = Option Open} (pick i none none) none
      nothing true = refl
      nothing false = refl
  open_by_lem (some o) lost t =
      let B = is_number o.number (continued xs) in
      let C = from o.key (gather channel_key (until end_event xs)) in
      let D = size_goes_on (o.size + part_bytes xs) (head_of (gather end_size xs)) in
      let b = and_right (eqb lost 0) B (and_left (eqb lost 0 && B) C (and_left (eqb lost 0 && B && C) D t)) in
      let (ys, i) = continued_is xs o.number (is_number_lem o.number (continued xs) b) in
      go ys i (head_of (gather end_size xs)) refl
    where
      go : (ys : List Item) → xs ≡ ContinueEvent o.number ∷ ys → (z : Option ℕ) → head_of (gather end_size xs) ≡ z → open_after (some o) p ≡ open_by (some o) s st
      go ys i none e = through_by o.number ys i e o
      go ys i (some z) e = ended_by o o.number ys i z e
