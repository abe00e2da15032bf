-- T6b, of proofs/front/Tree.antt: no two trees have the same leaves; and by the moves through its items a list is sound exactly where it is the leaves
-- of a lawful tree.
-- Assumes nothing.
use Prim.Native.Nat.{ℕ}
use mathlib.Core.Path.{◌≡◌, refl, sym, ap, ap₂, subst, ◌∙◌}
use mathlib.Core.List.{List, [], ◌∷◌}
use mathlib.Core.Bool.{true, false, true≢false}
use mathlib.Core.Logic.{◌↔◌}
use native.Mathlib.Omega.{arith}
use Rattle.format.specs.Book.{Class, channel, hit_count, sample, bin, last_cell, time_bin, continue_event}
use Rattle.format.specs.Items.{Item, Channel, HitCount, LastCell, EndEvent}
use Rattle.format.specs.Rules.{Kind, data_kind, monitor_kind, command_kind, same, since, count, latest, may_end}
use Rattle.format.specs.Frames.{Frame, earlier_then, Sound, Legal}
use Rattle.format.specs.Tree.{Stretch, stretch, Part, hits, cell, pulse, Event, event, Bar, bar, Pedestal, pedestal, new, ending, Tail, shut, opening, Readout, events, through, Tree, of_samples, of_stretches, of_parts, of_events, of_tail, of_readout, of_bars, of_pedestals, of_texts, leaves, Shaped, Limited, Lawful, TreeOf}
use Rattle.format.proofs.tree.Moves.{State, begin, empty, texts, kind_for, Leaves, Moves}
use Rattle.format.proofs.tree.SoundMoves.{sound_moves, moves_sound}
use Rattle.format.proofs.tree.TreeMoves.{readout_moves, monitor_moves, texts_moves, build}

-- ---- no two trees have the same leaves: each level ends where an item of another class begins

-- the first item is none of the class
abbrev Off : Class → List Item → Type 0
Off c xs = same c (latest xs) ≡ false

differ : {A : Type 0} (c : Class) (xs ys : List Item) → Off c xs → same c (latest ys) ≡ true → xs ≡ ys → A
differ c xs ys o s e = absurd (true≢false (sym s ∙ ap (λ (l : List Item). same c (latest l)) (sym e) ∙ o))

same_samples : (vs vs' : List ℕ) (xs xs' : List Item) → Off sample xs → Off sample xs' → of_samples vs xs ≡ of_samples vs' xs' → (vs ≡ vs') × (xs ≡ xs')
unfolding of_samples
same_samples [] [] xs xs' o o' e = (refl, e)
same_samples [] (v ∷ vs') xs xs' o o' e = differ sample xs _ o refl e
same_samples (v ∷ vs) [] xs xs' o o' e = differ sample xs' _ o' refl (sym e)
same_samples (v ∷ vs) (v' ∷ vs') xs xs' o o' e =
    let r : of_samples vs xs ≡ of_samples vs' xs' = cc in
    let f : v ≡ v' = cc in
    let (g, h) = same_samples vs vs' xs xs' o o' r in
    (ap₂ ◌∷◌ f g, h)

runs_off : (rs : List Stretch) (xs : List Item) → Off sample xs → Off sample (of_stretches rs xs)
unfolding of_stretches
runs_off [] xs o = o
runs_off (stretch t v vs ∷ rs) xs o = refl

same_runs : (rs rs' : List Stretch) (xs xs' : List Item) → Off sample xs → Off sample xs' → Off time_bin xs → Off time_bin xs'
    → of_stretches rs xs ≡ of_stretches rs' xs' → (rs ≡ rs') × (xs ≡ xs')
unfolding of_stretches
same_runs [] [] xs xs' o o' t t' e = (refl, e)
same_runs [] (stretch u v vs ∷ rs') xs xs' o o' t t' e = differ time_bin xs _ t refl e
same_runs (stretch u v vs ∷ rs) [] xs xs' o o' t t' e = differ time_bin xs' _ t' refl (sym e)
same_runs (stretch u v vs ∷ rs) (stretch u' v' vs' ∷ rs') xs xs' o o' t t' e =
    let r : of_samples vs (of_stretches rs xs) ≡ of_samples vs' (of_stretches rs' xs') = cc in
    let f : u ≡ u' = cc in
    let g : v ≡ v' = cc in
    let (i, j) = same_samples vs vs' (of_stretches rs xs) (of_stretches rs' xs') (runs_off rs xs o) (runs_off rs' xs' o') r in
    let (k, l) = same_runs rs rs' xs xs' o o' t t' j in
    (cc, l)

-- what comes after an event's parts: no item of these classes
record Outside (xs : List Item) : Type 0 where
  no_hits : Off hit_count xs
  no_cell : Off last_cell xs
  no_channel : Off channel xs
  no_sample : Off sample xs
  no_time : Off time_bin xs

ended_outside : (z : ℕ) (xs : List Item) → Outside (EndEvent z ∷ xs)
ended_outside z xs = record { no_hits = refl; no_cell = refl; no_channel = refl; no_sample = refl; no_time = refl }

nothing_outside : Outside []
nothing_outside = record { no_hits = refl; no_cell = refl; no_channel = refl; no_sample = refl; no_time = refl }

parts_off : (c : Class) (ps : List Part) (xs : List Item) → Off c (HitCount 0 0 0 ∷ []) → Off c (LastCell 0 0 ∷ []) → Off c (Channel 0 0 0 ∷ []) → Off c xs → Off c (of_parts ps xs)
unfolding of_parts
parts_off c [] xs h l k e = e
parts_off c (hits a₁ a₂ a₃ ∷ ps) xs h l k e = h
parts_off c (cell a₁ a₂ ∷ ps) xs h l k e = l
parts_off c (pulse a₁ a₂ a₃ r rs ∷ ps) xs h l k e = k

no_body : {A : Type 0} → ◌≡◌ {A = ℕ} 0 1 → A
no_body e = absurd (omega arith)

same_parts : (ps ps' : List Part) (xs xs' : List Item) → Outside xs → Outside xs' → of_parts ps xs ≡ of_parts ps' xs' → (ps ≡ ps') × (xs ≡ xs')
unfolding of_parts
same_parts [] [] xs xs' o o' e = (refl, e)
same_parts [] (hits a₁ a₂ a₃ ∷ qs) xs xs' o o' e = differ hit_count xs _ o.no_hits refl e
same_parts [] (cell a₁ a₂ ∷ qs) xs xs' o o' e = differ last_cell xs _ o.no_cell refl e
same_parts [] (pulse a₁ a₂ a₃ r rs ∷ qs) xs xs' o o' e = differ channel xs _ o.no_channel refl e
same_parts (hits a₁ a₂ a₃ ∷ ps) [] xs xs' o o' e = differ hit_count xs' _ o'.no_hits refl (sym e)
same_parts (hits a₁ a₂ a₃ ∷ ps) (hits b₁ b₂ b₃ ∷ qs) xs xs' o o' e =
    let (g, h) = same_parts ps qs xs xs' o o' (cc) in
    (cc, h)
same_parts (hits a₁ a₂ a₃ ∷ ps) (cell b₁ b₂ ∷ qs) xs xs' o o' e = no_body (cc)
same_parts (hits a₁ a₂ a₃ ∷ ps) (pulse b₁ b₂ b₃ r rs ∷ qs) xs xs' o o' e = no_body (cc)
same_parts (cell a₁ a₂ ∷ ps) [] xs xs' o o' e = differ last_cell xs' _ o'.no_cell refl (sym e)
same_parts (cell a₁ a₂ ∷ ps) (hits b₁ b₂ b₃ ∷ qs) xs xs' o o' e = no_body (cc)
same_parts (cell a₁ a₂ ∷ ps) (cell b₁ b₂ ∷ qs) xs xs' o o' e =
    let (g, h) = same_parts ps qs xs xs' o o' (cc) in
    (cc, h)
same_parts (cell a₁ a₂ ∷ ps) (pulse b₁ b₂ b₃ r rs ∷ qs) xs xs' o o' e = no_body (cc)
same_parts (pulse a₁ a₂ a₃ r rs ∷ ps) [] xs xs' o o' e = differ channel xs' _ o'.no_channel refl (sym e)
same_parts (pulse a₁ a₂ a₃ r rs ∷ ps) (hits b₁ b₂ b₃ ∷ qs) xs xs' o o' e = no_body (cc)
same_parts (pulse a₁ a₂ a₃ r rs ∷ ps) (cell b₁ b₂ ∷ qs) xs xs' o o' e = no_body (cc)
same_parts (pulse a₁ a₂ a₃ r rs ∷ ps) (pulse b₁ b₂ b₃ r' rs' ∷ qs) xs xs' o o' e =
    let (f, i) = same_runs (r ∷ rs) (r' ∷ rs') (of_parts ps xs) (of_parts qs xs')
    (parts_off sample ps xs refl refl refl o.no_sample) (parts_off sample qs xs' refl refl refl o'.no_sample)
    (parts_off time_bin ps xs refl refl refl o.no_time) (parts_off time_bin qs xs' refl refl refl o'.no_time) (cc) in
    let (g, h) = same_parts ps qs xs xs' o o' i in
    (cc, h)

-- an event that the frame ends in, and one that an End event ends
no_end : {A : Type 0} (z : ℕ) (xs : List Item) → EndEvent z ∷ xs ≡ [] → A
no_end z xs e = no_body (cc)

same_ended : (ps ps' : List Part) (z z' : ℕ) (xs xs' : List Item) → of_parts ps (EndEvent z ∷ xs) ≡ of_parts ps' (EndEvent z' ∷ xs') → (ps ≡ ps') × (z ≡ z') × (xs ≡ xs')
same_ended ps ps' z z' xs xs' e =
    let (g, h) = same_parts ps ps' (EndEvent z ∷ xs) (EndEvent z' ∷ xs') (ended_outside z xs) (ended_outside z' xs') e in
    (g, cc, cc)

ended_going : {A : Type 0} (ps ps' : List Part) (z : ℕ) (xs : List Item) → of_parts ps (EndEvent z ∷ xs) ≡ of_parts ps' [] → A
ended_going ps ps' z xs e =
    let (g, h) = same_parts ps ps' (EndEvent z ∷ xs) [] (ended_outside z xs) nothing_outside e in
    no_end z xs h

same_going : (ps ps' : List Part) → of_parts ps [] ≡ of_parts ps' [] → ps ≡ ps'
same_going ps ps' e = let (g, h) = same_parts ps ps' [] [] nothing_outside nothing_outside e in g

same_tails : (o o' : Tail) → of_tail o ≡ of_tail o' → o ≡ o'
same_tails shut shut e = refl
same_tails shut (opening t ts n ps) e = no_body (cc)
same_tails (opening t ts n ps) shut e = no_body (cc)
same_tails (opening t ts n ps) (opening t' ts' n' ps') e =
    let g = same_going ps ps' (cc) in
    cc

same_events : (es es' : List Event) (o o' : Tail) → of_events es (of_tail o) ≡ of_events es' (of_tail o') → (es ≡ es') × (o ≡ o')
unfolding of_events
same_events [] [] o o' e = (refl, same_tails o o' e)
same_events [] (event t ts n ps z ∷ es') shut o' e = no_body (cc)
same_events [] (event t ts n ps z ∷ es') (opening t' ts' n' ps') o' e = ended_going ps ps' z (of_events es' (of_tail o')) (sym (cc))
same_events (event t ts n ps z ∷ es) [] o shut e = no_body (cc)
same_events (event t ts n ps z ∷ es) [] o (opening t' ts' n' ps') e = ended_going ps ps' z (of_events es (of_tail o)) (cc)
same_events (event t ts n ps z ∷ es) (event t' ts' n' ps' z' ∷ es') o o' e =
    let (g, i, r) = same_ended ps ps' z z' (of_events es (of_tail o)) (of_events es' (of_tail o')) (cc) in
    let (h, j) = same_events es es' o o' r in
    (cc, j)

-- what goes on after an event does not begin with a Continue event
events_off : (es : List Event) (o : Tail) → Off continue_event (of_events es (of_tail o))
unfolding of_events
events_off [] shut = refl
events_off [] (opening t ts n ps) = refl
events_off (event t ts n ps z ∷ es) o = refl

same_readouts : (r r' : Readout) → of_readout r ≡ of_readout r' → r ≡ r'
same_readouts (events new es o) (events new es' o') e = let (g, h) = same_events es es' o o' e in cc
same_readouts (events new es o) (events (ending n ps z) es' o') e = differ continue_event _ _ (events_off es o) refl e
same_readouts (events new es o) (through n ps) e = differ continue_event _ _ (events_off es o) refl e
same_readouts (events (ending n ps z) es o) (events new es' o') e = differ continue_event _ _ (events_off es' o') refl (sym e)
same_readouts (events (ending n ps z) es o) (events (ending n' ps' z') es' o') e =
    let (g, i, r) = same_ended ps ps' z z' (of_events es (of_tail o)) (of_events es' (of_tail o')) (cc) in
    let (h, j) = same_events es es' o o' r in
    cc
same_readouts (events (ending n ps z) es o) (through n' ps') e = ended_going ps ps' z (of_events es (of_tail o)) (cc)
same_readouts (through n ps) (events new es' o') e = differ continue_event _ _ (events_off es' o') refl (sym e)
same_readouts (through n ps) (events (ending n' ps' z') es' o') e = ended_going ps' ps z' (of_events es' (of_tail o')) (sym (cc))
same_readouts (through n ps) (through n' ps') e =
    let g = same_going ps ps' (cc) in
    cc

same_bars : (bs bs' : List Bar) (xs xs' : List Item) → Off bin xs → Off bin xs' → of_bars bs xs ≡ of_bars bs' xs' → (bs ≡ bs') × (xs ≡ xs')
unfolding of_bars
same_bars [] [] xs xs' o o' e = (refl, e)
same_bars [] (bar b n ∷ bs') xs xs' o o' e = differ bin xs _ o refl e
same_bars (bar b n ∷ bs) [] xs xs' o o' e = differ bin xs' _ o' refl (sym e)
same_bars (bar b n ∷ bs) (bar b' n' ∷ bs') xs xs' o o' e =
    let (f, g) = same_bars bs bs' xs xs' o o' (cc) in
    (cc, g)

pedestals_off : (hs : List Pedestal) → Off bin (of_pedestals hs)
unfolding of_pedestals
pedestals_off [] = refl
pedestals_off (pedestal a b c bs ∷ hs) = refl

same_pedestals : (hs hs' : List Pedestal) → of_pedestals hs ≡ of_pedestals hs' → hs ≡ hs'
unfolding of_pedestals
same_pedestals [] [] e = refl
same_pedestals [] (pedestal a b c bs ∷ hs') e = no_body (cc)
same_pedestals (pedestal a b c bs ∷ hs) [] e = no_body (cc)
same_pedestals (pedestal a b c bs ∷ hs) (pedestal a' b' c' bs' ∷ hs') e =
    let (f, g) = same_bars bs bs' (of_pedestals hs) (of_pedestals hs') (pedestals_off hs) (pedestals_off hs') (cc) in
    let h = same_pedestals hs hs' g in
    cc

same_texts : (ss ss' : List (List ℕ)) → of_texts ss ≡ of_texts ss' → ss ≡ ss'
unfolding of_texts
same_texts [] [] e = refl
same_texts [] (s ∷ ss') e = no_body (cc)
same_texts (s ∷ ss) [] e = no_body (cc)
same_texts (s ∷ ss) (s' ∷ ss') e =
    let g = same_texts ss ss' (cc) in
    cc

pub one_tree : (kind : Kind) (t u : Tree kind) → leaves kind t ≡ leaves kind u → t ≡ u
one_tree data_kind t u e = same_readouts t u e
one_tree monitor_kind t u e = same_pedestals t u e
one_tree command_kind t u e = same_texts t u e

-- ---- the two writings say the same

-- where a frame of the kind begins
abbrev first : Kind → State
first data_kind = begin
first monitor_kind = empty
first command_kind = texts

kind_back : (kind : Kind) → kind_for (first kind) ≡ kind
kind_back data_kind = refl
kind_back monitor_kind = refl
kind_back command_kind = refl

begins : (kind : Kind) (card : ℕ) → Leaves card [] (first kind)
unfolding since count
begins data_kind card = refl
begins monitor_kind card = refl
begins command_kind card = refl

tree_moves : (kind : Kind) (tree : Tree kind) → Shaped kind tree → Moves (first kind) (leaves kind tree)
tree_moves data_kind r h = readout_moves r h
tree_moves monitor_kind hs h = monitor_moves hs h.0 h.1
tree_moves command_kind ss h = texts_moves ss

moves_tree : (kind : Kind) (xs : List Item) → Moves (first kind) xs → (tree : Tree kind) × Shaped kind tree × (leaves kind tree ≡ xs)
moves_tree data_kind xs ms = build xs begin ms tt
moves_tree monitor_kind xs ms = let (hs, r, a, e) = build xs empty ms tt in (hs, (r, a), e)
moves_tree command_kind xs ms = let (ss, e) = build xs texts ms tt in (ss, tt, e)

-- the leaves of a lawful tree are sound, and may end
pub of_tree : (kind : Kind) (card : ℕ) (tree : Tree kind) → Lawful kind card tree → Sound kind card [] (leaves kind tree) × (may_end (earlier_then [] (leaves kind tree)) ≡ true)
of_tree kind card tree l =
    let (s, e) = moves_sound card (leaves kind tree) (first kind) (tree_moves kind tree l.shaped) [] (begins kind card) l.limited in
    (subst (λ (k : Kind). Sound k card [] (leaves kind tree)) (kind_back kind) s, e)

-- and such a list is the leaves of a lawful tree
pub tree_of : (kind : Kind) (card : ℕ) (xs : List Item) → Sound kind card [] xs → may_end (earlier_then [] xs) ≡ true → TreeOf kind card xs
tree_of kind card xs s e =
    let (ms, r) = sound_moves card xs [] (first kind) (begins kind card) (subst (λ (k : Kind). Sound k card [] xs) (sym (kind_back kind)) s) e in
    let (t, h, l) = moves_tree kind xs ms in
    record { tree = t; lawful = record { shaped = h; limited = subst (Limited card) (sym l) r }; leaves_are = l }

-- T6b, both ways; by `one_tree` the tree is the only one
pub as_tree : (kind : Kind) (card : ℕ) (xs : List Item) → (Sound kind card [] xs × (may_end (earlier_then [] xs) ≡ true)) ↔ TreeOf kind card xs
as_tree kind card xs = (
  λ h. tree_of kind card xs h.0 h.1,
  λ h. subst (λ (l : List Item). Sound kind card [] l × (may_end (earlier_then [] l) ≡ true)) h.leaves_are (of_tree kind card h.tree h.lawful),
)

-- so the items of every legal frame are a lawful tree's
pub frame_tree : (f : Frame) → Legal f → TreeOf f.kind f.card f.items
frame_tree f l = tree_of f.kind f.card f.items l.sound l.ended
