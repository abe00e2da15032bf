-- The formats of both versions have the laws that demand 3's theorems ask of a format; and what each says, in the documents' words.
-- Assumes nothing.
use Prim.Native.Nat.{ℕ, ◌≤◌, ◌<◌}
use mathlib.Core.Path.{◌≡◌, refl, sym, ap, subst, ◌∙◌}
use mathlib.Core.Logic.{◌↔◌, ◌⊎◌, inl, inr}
use mathlib.Core.Bool.{Bool, true, false, true≢false}
use mathlib.Core.List.{List, [], ◌∷◌}
use native.Mathlib.Omega.{arith}
use lib.Dec.{leb, eqb}
use lib.ListN.{length}
use borrow.Author.Tests.{leb-true, le-leb, eq-eqb, ne_eqb, eqb-true, eqb-false, lt-ltb}
use Rattle.format.specs.Words.{pick}
use Rattle.format.specs.Answers.{accepted}
use Rattle.format.specs.Spots.{Spot}
use Rattle.ledger.specs.Formats.{Entry, LawfulFormat, size}
use Rattle.ledger.specs.Records.{count_in, entries_in, length_entries}
use Rattle.ledger.specs.VersionOne.{version_one, no_extra}
use Rattle.ledger.specs.VersionTwo.{time_in, stamp_fits, no_desk, few_entries, version_two}
use Rattle.ledger.specs.Versions.{Version, v1, v2, format_of, version_for, format_for, format_for_lem}
use Rattle.ledger.specs.Layout.{number_of, entry_size}
use Rattle.ledger.specs.PlaneFrames.{Asks}
use Rattle.ledger.proofs.plane.StampLaws.{stamp_of, stamped_lawful}

-- ---- at most 512 entries, each older part of them too
abbrev few_enough : List Entry → Bool
few_enough es = leb (length es) 512

few : (es : List Entry) → few_enough es ≡ true → length es ≤ 512
few es h = leb-true _ _ h

within : (es : List Entry) → length es ≤ 512 → few_enough es ≡ true
within es h = le-leb _ _ h

older : (e : Entry) (es : List Entry) → few_enough (e ∷ es) ≡ true → few_enough es ≡ true
older e es h = let k = few (e ∷ es) h in within es (omega arith)

-- ---- both are lawful
empty : (x : List ℕ) → no_extra x ≡ true → [] ≡ x
empty [] e = refl
empty (a ∷ x) e = absurd (true≢false (sym e))

version_one_lawful : LawfulFormat version_one
unfolding version_one
version_one_lawful = record {
  version_fits = omega arith;
  extra_small = omega arith;
  written_length = λ x g. refl;
  written_bytes = λ x g i. omega arith;
  read_written = λ x t g. empty x g;
  written_read = λ s y l g. refl;
  suits_revalued = λ x s v. refl;
  asked_suits = λ x s g t. refl;
  limit_none = within [] (omega arith);
  limit_older = older;
  limit_swap = λ d e es h. h;
  limit_few = few;
}

version_two_lawful : LawfulFormat version_two
unfolding version_two
version_two_lawful =
    stamped_lawful 2 no_desk (λ desk. accepted tt) few_entries (omega arith) (λ d s v. refl) (λ d s t. refl) (within [] (omega arith)) older (λ d e es h. h) few

pub format_lawful : (v : Version) → LawfulFormat (format_of v)
format_lawful v1 = version_one_lawful
format_lawful v2 = version_two_lawful

-- ---- what each says: its number, the bytes of an entry, nothing asked before 22, at most 512 entries
pub number_is : (v : Version) → (format_of v).version ≡ number_of v
unfolding version_one version_two
number_is v1 = refl
number_is v2 = refl

pub size_is : (v : Version) → size (format_of v) ≡ entry_size v
unfolding version_one version_two
size_is v1 = refl
size_is v2 = refl

pub asks_nothing : (v : Version) (x : List ℕ) → (format_of v).asked x ≡ accepted tt
unfolding version_one version_two
asks_nothing v1 x = refl
asks_nothing v2 x = refl

pub limit_is : (v : Version) (es : List Entry) → (format_of v).limit es ≡ leb (length es) 512
unfolding version_one version_two
limit_is v1 es = refl
limit_is v2 es = refl

-- the header's entry count is at most 512, and an edit is refused by 25 where 512 entries stand
pub count_limit : (v : Version) (b : List ℕ) → ((format_of v).limit (entries_in (format_of v) b) ≡ true) ↔ (count_in b ≤ 512)
count_limit v b =
    let n = length_entries (format_of v) b (count_in b) in
    let q = limit_is v (entries_in (format_of v) b) in
    (λ h. rw n at (few (entries_in (format_of v) b) (sym q ∙ h)), λ h. q ∙ within (entries_in (format_of v) b) (rw n h))

pub full_limit : (v : Version) (b : List ℕ) (e : Entry) → ((format_of v).limit (e ∷ entries_in (format_of v) b) ≡ true) ↔ (count_in b < 512)
full_limit v b e =
    let n = length_entries (format_of v) b (count_in b) in
    let q = limit_is v (e ∷ entries_in (format_of v) b) in
    (λ h. let k = few (e ∷ entries_in (format_of v) b) (sym q ∙ h) in omega arith, λ h. q ∙ within (e ∷ entries_in (format_of v) b) (omega arith))

-- what an edit gives beside operator and reason suits every item, and may be kept where 6 bytes hold the time
pub asks_suits : (v : Version) (x : List ℕ) → Asks v x → (s : Spot) → (format_of v).suits x s ≡ true
unfolding version_one version_two
asks_suits v1 x a s = refl
asks_suits v2 x a s = rw a

no_time : (t : ℕ) → stamp_fits (t ∷ 0 ∷ []) ≡ true → t < 281474976710656
no_time t e = (stamp_of (t ∷ 0 ∷ []) e).time

pub asks_good : (v : Version) (x : List ℕ) → Asks v x → ((format_of v).good x ≡ true) ↔ (time_in x < 281474976710656)
unfolding version_one version_two
asks_good v1 x a = (λ g. rw a (omega arith), λ h. rw a)
asks_good v2 x a = (λ g. no_time (time_in x) (sym (ap stamp_fits a) ∙ g), λ h. ap stamp_fits a ∙ rw (lt-ltb _ _ h))

-- ---- the version that a header's first word says
pub for_one : (n : ℕ) → n ≡ 1 → format_for n ≡ version_one
for_one n e = format_for_lem n ∙ ap (λ (t : Bool). format_of (pick t v1 v2)) (eq-eqb n 1 e)

pub for_other : (n : ℕ) → (n ≡ 1 → ⊥) → format_for n ≡ version_two
for_other n e = format_for_lem n ∙ ap (λ (t : Bool). format_of (pick t v1 v2)) (ne_eqb n 1 e)

pub for_two : (n : ℕ) → n ≡ 2 → format_for n ≡ version_two
for_two n e = for_other n (λ q. omega arith)

pub for_which : (n : ℕ) → ((n ≡ 1) × (format_for n ≡ version_one)) ⊎ ((n ≡ 1 → ⊥) × (format_for n ≡ version_two))
for_which n = go (eqb n 1) refl
  where
    go : (t : Bool) → eqb n 1 ≡ t → ((n ≡ 1) × (format_for n ≡ version_one)) ⊎ ((n ≡ 1 → ⊥) × (format_for n ≡ version_two))
    go true q = let e = eqb-true n 1 q in inl (e, for_one n e)
    go false q = let e = eqb-false n 1 q in inr (e, for_other n e)

pub for_lawful : (n : ℕ) → LawfulFormat (format_for n)
for_lawful n = subst LawfulFormat (sym (format_for_lem n)) (format_lawful (version_for n))
