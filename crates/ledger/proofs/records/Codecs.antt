-- T24. Header and entries: what is written is read back, and what is read from bytes that pass the tests is written as those bytes.
-- Assumes nothing.
use Prim.Native.Nat.{ℕ, zero, suc, ◌+◌, ◌-◌, ◌*◌, ◌/◌, ◌%◌, ◌≤◌, ◌<◌}
use mathlib.Core.Path.{◌≡◌, refl, sym, ap, ap₂, ◌∙◌}
use mathlib.Core.Bool.{true}
use mathlib.Core.List.{List, [], ◌∷◌, ◌++◌, append_assoc}
use native.Mathlib.Nat.{mul-suc, mul-zero, mul-le-mul}
use native.Mathlib.Numerals.{add-one, add-two}
use native.Mathlib.Omega.{arith}
use lib.ListN.{length, get_or, take, drop, length-append, length-drop}
use lib.Seq.{drop_at, drop-drop, drop-cons, take-add}
use Rattle.format.specs.Words.{Bytes, bytes, word_at, long_words}
use Rattle.format.proofs.items.WordLaws.{word_below, below_drop, below_take, bytes_below}
use Rattle.ledger.specs.Formats.{Entry, Format, LawfulFormat, size}
use Rattle.ledger.specs.Records.{header, length_in, count_in, entry_bytes, entry_of, numbered, entries_to}

-- ---- lists of bytes
pub bytes_drop : (b : List ℕ) (n : ℕ) → Bytes b → Bytes (drop n b)
bytes_drop b n y = below_drop n b 256 y

pub bytes_part : (b : List ℕ) (at n : ℕ) → Bytes b → Bytes (take n (drop at b))
bytes_part b at n y = below_take n (drop at b) 256 (omega arith) (bytes_drop b at y)

pub bytes_join : (a b : List ℕ) → Bytes a → Bytes b → Bytes (a ++ b)
bytes_join [] b x y i = y i
bytes_join (h ∷ a) b x y zero = x 0
bytes_join (h ∷ a) b x y (suc i) = bytes_join a b (λ j. x (suc j)) y i

-- ---- words that a list begins with
low : (x y : ℕ) → x < 256 → (x + 256 * y) % 256 ≡ x
low x y h = omega arith

high : (x y : ℕ) → x < 256 → (x + 256 * y) / 256 ≡ y
high x y h = omega arith

-- two bytes are their word's
pub word_bytes : (b : List ℕ) (i : ℕ) → Bytes b → i + 2 ≤ length b → drop i b ≡ bytes ((get_or b i 0 + 256 * get_or b (i + 1) 0) ∷ []) ++ drop (i + 2) b
unfolding bytes
word_bytes b i y h =
    let a : i < length b = omega arith in
    let c : suc i < length b = omega arith in
    rw (low (get_or b i 0) (get_or b (i + 1) 0) (y i), high (get_or b i 0) (get_or b (i + 1) 0) (y i), add-one i, add-two i)
    (drop-cons b i 0 a ∙ ap (λ (r : List ℕ). get_or b i 0 ∷ r) (drop-cons b (suc i) 0 c))

-- the eight words that a list begins with
abbrev eight : List ℕ → List ℕ
eight s = word_at s 0 ∷ word_at s 1 ∷ word_at s 2 ∷ word_at s 3 ∷ word_at s 4 ∷ word_at s 5 ∷ word_at s 6 ∷ word_at s 7 ∷ []

abbrev word : ℕ → List ℕ → List ℕ
word w r = (w % 256) ∷ (w / 256) ∷ r

pub eight_words : (s : List ℕ) → Bytes s → 16 ≤ length s → s ≡ bytes (eight s) ++ drop 16 s
unfolding bytes
eight_words s y h =
    word_bytes s 0 y (omega arith)
    ∙ ap (word (word_at s 0)) (word_bytes s 2 y (omega arith)
    ∙ ap (word (word_at s 1)) (word_bytes s 4 y (omega arith)
    ∙ ap (word (word_at s 2)) (word_bytes s 6 y (omega arith)
    ∙ ap (word (word_at s 3)) (word_bytes s 8 y (omega arith)
    ∙ ap (word (word_at s 4)) (word_bytes s 10 y (omega arith)
    ∙ ap (word (word_at s 5)) (word_bytes s 12 y (omega arith)
    ∙ ap (word (word_at s 6)) (word_bytes s 14 y (omega arith))))))))

-- ---- the header
pub header_length : (F : Format) (len n : ℕ) → length (header F len n) ≡ 16
unfolding header bytes
header_length F len n = refl

there : (n : ℕ) → n % 256 + 256 * (n / 256) ≡ n
there n = omega arith

-- the words that are read from a header
pub record Reads (F : Format) (b : List ℕ) (len n : ℕ) : Type 0 where
  pub version : word_at b 0 ≡ F.version
  pub one : word_at b 1 ≡ 1
  pub sixteen : word_at b 2 ≡ 16
  pub length_is : length_in b ≡ len
  pub history : word_at b 4 ≡ 16 + len
  pub count_is : count_in b ≡ n
  pub total : word_at b 6 ≡ 16 + len + size F * n
  pub nought : word_at b 7 ≡ 0

pub header_reads : (F : Format) (len n : ℕ) (t : List ℕ) → Reads F (header F len n ++ t) len n
unfolding header bytes length_in count_in
header_reads F len n t = record {
  version = there F.version;
  one = refl;
  sixteen = refl;
  length_is = there len;
  history = there (16 + len);
  count_is = there n;
  total = there (16 + len + size F * n);
  nought = refl;
}

-- the totals fit a word
pub total_fits : (F : Format) (len n : ℕ) → F.extra ≤ 8 → len ≤ 8192 → n ≤ 512 → 16 + len + size F * n < 65536
total_fits F len n x l c =
    let s : 16 + F.extra ≤ 24 = omega arith in
    let m : (16 + F.extra) * n ≤ 24 * 512 = mul-le-mul s c in
    omega arith

-- every element of a list, by its place
pub eight_below : (a b c d e f g h : ℕ) → a < 65536 → b < 65536 → c < 65536 → d < 65536 → e < 65536 → f < 65536 → g < 65536 → h < 65536
    → (i : ℕ) → get_or (a ∷ b ∷ c ∷ d ∷ e ∷ f ∷ g ∷ h ∷ []) i 0 < 65536
eight_below a b c d e f g h pa pb pc pd pe pf pg ph zero = pa
eight_below a b c d e f g h pa pb pc pd pe pf pg ph (suc zero) = pb
eight_below a b c d e f g h pa pb pc pd pe pf pg ph (suc (suc zero)) = pc
eight_below a b c d e f g h pa pb pc pd pe pf pg ph (suc (suc (suc zero))) = pd
eight_below a b c d e f g h pa pb pc pd pe pf pg ph (suc (suc (suc (suc zero)))) = pe
eight_below a b c d e f g h pa pb pc pd pe pf pg ph (suc (suc (suc (suc (suc zero))))) = pf
eight_below a b c d e f g h pa pb pc pd pe pf pg ph (suc (suc (suc (suc (suc (suc zero)))))) = pg
eight_below a b c d e f g h pa pb pc pd pe pf pg ph (suc (suc (suc (suc (suc (suc (suc zero))))))) = ph
eight_below a b c d e f g h pa pb pc pd pe pf pg ph (suc (suc (suc (suc (suc (suc (suc (suc i)))))))) = omega arith

pub header_bytes : (F : Format) (len n : ℕ) → LawfulFormat F → len ≤ 8192 → n ≤ 512 → Bytes (header F len n)
unfolding header
header_bytes F len n L l c =
    let ws = F.version ∷ 1 ∷ 16 ∷ len ∷ (16 + len) ∷ n ∷ (16 + len + size F * n) ∷ 0 ∷ [] in
    let t = total_fits F len n L.extra_small l c in
    bytes_below ws
    (eight_below F.version 1 16 len (16 + len) n (16 + len + size F * n) 0 L.version_fits (omega arith) (omega arith) (omega arith) (omega arith) (omega arith) t (omega arith))

-- ---- one entry
long_there : (n : ℕ) → n % 65536 % 256 + 256 * (n % 65536 / 256) + 65536 * (n / 65536 % 256 + 256 * (n / 65536 / 256)) ≡ n
long_there n = omega arith

-- T24: an entry is read from its bytes, whatever follows
pub entry_there : (F : Format) → LawfulFormat F → (e : Entry) (t : List ℕ) → F.good e.extra ≡ true → entry_of F (entry_bytes F e ++ t) ≡ e
unfolding entry_of entry_bytes bytes
entry_there F L e t g = λ i. record {
  word = there e.word i;
  kind = there e.kind i;
  old = long_there e.old i;
  new = long_there e.new i;
  operator = there e.operator i;
  reason = there e.reason i;
  extra = L.read_written e.extra t g i;
}

long_low : (w x : ℕ) → w < 65536 → (w + 65536 * x) % 65536 ≡ w
long_low w x h = omega arith

long_high : (w x : ℕ) → w < 65536 → (w + 65536 * x) / 65536 ≡ x
long_high w x h = omega arith

first_eight : (s : List ℕ) → Bytes s → 16 ≤ length s → take 16 s ≡ bytes (eight s)
unfolding bytes
first_eight s y h = ap (take 16) (eight_words s y h)

-- T24: and its bytes are those it was read from
pub entry_back : (F : Format) → LawfulFormat F → (s : List ℕ) → Bytes s → size F ≤ length s → F.good (F.read (drop 16 s)) ≡ true
    → entry_bytes F (entry_of F s) ≡ take (size F) s
unfolding entry_bytes entry_of
entry_back F L s y h g =
    let l : F.extra ≤ length (drop 16 s) = rw (length-drop 16 s) (omega arith) in
    let w = L.written_read (drop 16 s) (bytes_drop s 16 y) l g in
    let e : take 16 s ≡ bytes (eight s) = first_eight s y (omega arith) in
    let w₂ = word_below s y 2 in
    let w₄ = word_below s y 4 in
    rw (long_low (word_at s 2) (word_at s 3) w₂, long_high (word_at s 2) (word_at s 3) w₂, long_low (word_at s 4) (word_at s 5) w₄, long_high (word_at s 4) (word_at s 5) w₄, w)
    (sym (take-add 16 F.extra s ∙ ap (λ (r : List ℕ). r ++ take F.extra (drop 16 s)) e))

pub entry_length : (F : Format) → LawfulFormat F → (e : Entry) → F.good e.extra ≡ true → length (entry_bytes F e) ≡ size F
unfolding entry_bytes bytes
entry_length F L e g = let w = L.written_length e.extra g in omega arith

-- the numbers of an entry fit their fields
pub record Small (F : Format) (e : Entry) : Type 0 where
  pub word : e.word < 65536
  pub kind : e.kind < 65536
  pub old : e.old < 4294967296
  pub new : e.new < 4294967296
  pub operator : e.operator < 65536
  pub reason : e.reason < 65536
  pub good : F.good e.extra ≡ true

low_half : (n : ℕ) → n % 65536 < 65536
low_half n = omega arith

high_half : (n : ℕ) → n < 4294967296 → n / 65536 < 65536
high_half n h = omega arith

pub entry_bytes_lem : (F : Format) → LawfulFormat F → (e : Entry) → Small F e → Bytes (entry_bytes F e)
unfolding entry_bytes
entry_bytes_lem F L e s =
    let ws = (e.word ∷ e.kind ∷ []) ++ long_words e.old ++ long_words e.new ++ (e.operator ∷ e.reason ∷ []) in
    let o = high_half e.old s.old in
    let n = high_half e.new s.new in
    bytes_join (bytes ws) (F.written e.extra)
    (bytes_below ws (eight_below _ _ _ _ _ _ _ _ s.word s.kind (low_half e.old) o (low_half e.new) n s.operator s.reason))
    (L.written_bytes e.extra s.good)

-- ---- entries, newest first; in a record they stand oldest first
unfoldable pub entries_bytes : Format → List Entry → List ℕ
entries_bytes F [] = []
entries_bytes F (e ∷ es) = entries_bytes F es ++ entry_bytes F e

-- the content of each may be kept
abbrev pub Good : Format → List Entry → Type 0
Good F [] = Unit {0}
Good F (e ∷ es) = (F.good e.extra ≡ true) × Good F es

pub entries_length : (F : Format) → LawfulFormat F → (es : List Entry) → Good F es → length (entries_bytes F es) ≡ size F * length es
unfolding entries_bytes
entries_length F L [] g = rw (mul-zero (size F))
entries_length F L (e ∷ es) g = length-append (entries_bytes F es) (entry_bytes F e) ∙ rw (entries_length F L es g.1, entry_length F L e g.0, mul-suc (size F) (length es))

pub numbered_suc : (F : Format) (b : List ℕ) (n : ℕ) → numbered F b (suc n) ≡ entry_of F (drop (16 + length_in b + size F * n) b)
unfolding numbered
numbered_suc F b n = let q : suc n - 1 ≡ n = omega arith in rw q

-- entries are read from where they stand
pub entries_there : (F : Format) → LawfulFormat F → (es : List Entry) (b p t : List ℕ) → length p ≡ 16 + length_in b → Good F es → b ≡ p ++ (entries_bytes F es ++ t)
    → entries_to F b (length es) ≡ es
unfolding entries_to entries_bytes
entries_there F L [] b p t l g q = refl
entries_there F L (e ∷ es) b p t l g q =
    let r = entries_bytes F es in
    let a : b ≡ p ++ (r ++ (entry_bytes F e ++ t)) = q ∙ rw (append_assoc r (entry_bytes F e) t) in
    let n : length (p ++ r) ≡ 16 + length_in b + size F * length es = length-append p r ∙ rw (l, entries_length F L es g.1) in
    let d : drop (16 + length_in b + size F * length es) b ≡ entry_bytes F e ++ t
    = ap (drop (16 + length_in b + size F * length es)) (a ∙ sym (append_assoc p r (entry_bytes F e ++ t))) ∙ drop_at (p ++ r) (entry_bytes F e ++ t) (16 + length_in b + size F * length es) n in
    let newest : numbered F b (suc (length es)) ≡ e = numbered_suc F b (length es) ∙ ap (entry_of F) d ∙ entry_there F L e t g.0 in
    ap₂ ◌∷◌ newest (entries_there F L es b p (entry_bytes F e ++ t) l g.1 a)

good_read : (F : Format) (s : List ℕ) → F.good (entry_of F s).extra ≡ true → F.good (F.read (drop 16 s)) ≡ true
unfolding entry_of
good_read F s e = e

-- and their bytes are those they were read from
pub entries_back : (F : Format) → LawfulFormat F → (b : List ℕ) (n : ℕ) → Bytes b → 16 + length_in b + size F * n ≤ length b → Good F (entries_to F b n)
    → entries_bytes F (entries_to F b n) ≡ take (size F * n) (drop (16 + length_in b) b)
unfolding entries_to entries_bytes
entries_back F L b zero y r g = rw (mul-zero (size F))
entries_back F L b (suc n) y r g =
    let h = 16 + length_in b in
    let m = mul-suc (size F) n in
    let r₂ : h + size F * n + size F ≤ length b = omega arith in
    let s = drop (h + size F * n) b in
    let l : size F ≤ length s = rw (length-drop (h + size F * n) b) (omega arith) in
    let g₀ : F.good (entry_of F s).extra ≡ true = rw (numbered_suc F b n) at g.0 in
    let older = entries_back F L b n y (omega arith) g.1 in
    let newest = entry_back F L s (bytes_drop b (h + size F * n) y) l (good_read F s g₀) in
    rw (numbered_suc F b n, older, newest, m, take-add (size F * n) (size F) (drop h b), drop-drop (size F * n) h b)
