-- Texts that are put one behind the other are one text.
-- Assumes nothing.
use Prim.Native.Nat.{ℕ, ◌+◌, ◌-◌, ◌≤◌, ◌<◌}
use mathlib.Core.Path.{◌≡◌, refl, ap, ◌∙◌}
use mathlib.Core.List.{List, ◌++◌}
use native.Mathlib.Omega.{arith}
use lib.ListN.{length, take, drop, length-append}
use lib.Seq.{sets}
use borrow.Rule.Slice.PartMut.{put_mid}
use Rattle.format.proofs.items.StoringLaws.{sets_append, part_stores}
use Rattle.std.specs.Fmt as fmt
use Rattle.listing.specs.Text.{decimal}
use Rattle.listing.specs.Writes.{Put}
use Rattle.listing.proofs.Decimals.{spelt, twenty}

pub joined : {m n : ℕ} {l k o : List ℕ} {at i j : ℕ} {a b : List ℕ} → Put m l at a k i → Put n k i b o j → Put (m + n) l at (a ++ b) o j
joined {m} {n} {l} {k} {o} {at} {i} {j} {a} {b} p q =
    record {
      stored = q.stored ∙ ap (λ (x : List ℕ). sets x i b) p.stored ∙ ap (λ (x : ℕ). sets (sets l at a) x b) p.behind ∙ sets_append l at a b;
      behind = let e = p.behind in let f = q.behind in let s = length-append a b in omega arith;
      few = let e = p.few in let f = q.few in omega arith;
    }

pub wider : {m : ℕ} (n : ℕ) {l k : List ℕ} {at i : ℕ} {a : List ℕ} → m ≤ n → Put m l at a k i → Put n l at a k i
wider n h p = record { stored = p.stored; behind = p.behind; few = let e = p.few in omega arith }

-- the text that was copied to the part behind byte `at`
pub copied : (l : List ℕ) (n at : ℕ) (s part : List ℕ) → n ≡ length l → part ≡ sets (take (n - at) (drop at l)) 0 s → at + length s ≤ n
    → Put (length s) l at s (put_mid at (n - at) l part) (at + length s)
copied l n at s part g e h =
    record {
      stored = part_stores l at n part s (omega arith) (omega arith) (omega arith) e;
      behind = refl;
      few = omega arith;
    }

-- the digits that a number was spelt in
pub decimal_put : (n : ℕ) (ds : List ℕ) → n < 18446744073709551616 → ds ≡ fmt.decimal n
    → {l left : List ℕ} {at next : ℕ} → Put (length ds) l at ds left next → Put 20 l at (decimal n) left next
decimal_put n ds h e {l} {left} {at} {next} p =
    let d : ds ≡ decimal n = e ∙ spelt n h in
    let w : length ds ≤ 20 = rw e (twenty n h) in
    record {
      stored = p.stored ∙ ap (λ (x : List ℕ). sets l at x) d;
      behind = p.behind ∙ ap (λ (x : List ℕ). at + length x) d;
      few = let g = p.few in omega arith;
    }
