-- T3, over shift and width: the fields of a word "are cut from the word by position", high bits first, and "go in the same way". One pair of
-- laws for any list of widths; then the widths of document 01's table, for every class at once.
-- Assumes nothing.
use Prim.Native.Nat.{ℕ, ◌+◌, ◌-◌, ◌*◌, ◌/◌, ◌%◌, ◌^◌}
use mathlib.Core.Path.{◌≡◌, refl, sym, ap, ap₂, ◌∙◌}
use mathlib.Core.List.{List, [], ◌∷◌, Memᴰ}
use mathlib.Core.Bool.{true}
use native.Mathlib.Nat.{add_comm, div-one, mod-lt}
use lib.Pow.{pow_pos, split, high, low, shr-shr}
use borrow.Author.Tests.{eqb-true}
use Rattle.format.specs.Prefix.{Row, matches}
use Rattle.format.specs.Book.{Class, book}
use Rattle.format.specs.Fields.{total, cut, pack, Fit, widths}
use Rattle.format.proofs.book.BookLaws.{each}

-- what is cut fits
pub cut_fit : (ns : List ℕ) (w : ℕ) → Fit ns (cut ns w)
cut_fit [] w = tt
cut_fit (n ∷ ns) w = (mod-lt _ (pow_pos n), cut_fit ns w)

-- above the fields stands the head
pub packed_head : (ns : List ℕ) (h : ℕ) (xs : List ℕ) → Fit ns xs → pack ns h xs / 2 ^ total ns ≡ h
packed_head [] h xs f = div-one h
packed_head (n ∷ ns) h [] f = absurd f
packed_head (n ∷ ns) h (x ∷ xs) f =
    ap (λ (k : ℕ). pack ns (h * 2 ^ n + x) xs / 2 ^ k) (add_comm n (total ns))
    ∙ sym (shr-shr (pack ns (h * 2 ^ n + x) xs) (total ns) n)
    ∙ ap (λ (y : ℕ). y / 2 ^ n) (packed_head ns (h * 2 ^ n + x) xs f.1)
    ∙ high h n f.0

-- THE LAW, there: fields that fit, put in, are cut out again
pub cut_packed : (ns : List ℕ) (h : ℕ) (xs : List ℕ) → Fit ns xs → cut ns (pack ns h xs) ≡ xs
cut_packed [] h [] f = refl
cut_packed [] h (x ∷ xs) f = absurd f
cut_packed (n ∷ ns) h [] f = absurd f
cut_packed (n ∷ ns) h (x ∷ xs) f =
    ap₂ ◌∷◌
    (ap (λ (y : ℕ). y % 2 ^ n) (packed_head ns (h * 2 ^ n + x) xs f.1) ∙ low h n f.0)
    (cut_packed ns (h * 2 ^ n + x) xs f.1)

-- THE LAW, back: the fields of a word, put in below what stands above them, are the word
pub pack_cut : (ns : List ℕ) (w : ℕ) → pack ns (w / 2 ^ total ns) (cut ns w) ≡ w
pack_cut [] w = div-one w
pack_cut (n ∷ ns) w =
    ap (λ (h : ℕ). pack ns h (cut ns w))
    (ap (λ (y : ℕ). y * 2 ^ n + w / 2 ^ total ns % 2 ^ n)
    (ap (λ (k : ℕ). w / 2 ^ k) (add_comm n (total ns)) ∙ sym (shr-shr w (total ns) n))
    ∙ split (w / 2 ^ total ns) n)
    ∙ pack_cut ns w

-- in every row the prefix and the fields fill the word
abbrev Fills : Row Class → Type 0
Fills r = 16 - r.bits ≡ total (widths r.class)

pub fills : (r : Row Class) → Memᴰ r book → 16 - r.bits ≡ total (widths r.class)
fills = each Fills book (refl, (refl, (refl, (refl, (refl, (refl, (refl, (refl, (refl, (refl, (refl, (refl, (refl, (refl, (refl, tt)))))))))))))))

-- a word of a row is the row's prefix and its fields
pub word_of_fields : (r : Row Class) → Memᴰ r book → (w : ℕ) → matches r w ≡ true
    → pack (widths r.class) r.prefix (cut (widths r.class) w) ≡ w
word_of_fields r m w e =
    let ns = widths r.class in
    let h : w / 2 ^ total ns ≡ r.prefix = ap (λ (k : ℕ). w / 2 ^ k) (sym (fills r m)) ∙ eqb-true _ _ e in
    ap (λ (h : ℕ). pack ns h (cut ns w)) (sym h) ∙ pack_cut ns w

-- and the prefix with fields that fit is a word of the row
pub fields_of_word : (r : Row Class) → Memᴰ r book → (xs : List ℕ) → Fit (widths r.class) xs
    → pack (widths r.class) r.prefix xs / 2 ^ (16 - r.bits) ≡ r.prefix
fields_of_word r m xs f =
    ap (λ (k : ℕ). pack (widths r.class) r.prefix xs / 2 ^ k) (fills r m) ∙ packed_head (widths r.class) r.prefix xs f
