-- Rows of literals, one behind the other: where each stands, and how long it is.
use Rattle.std.proofs.Common.{◌≡◌, ℕ, zero, suc, ◌+◌, ◌-◌, ◌*◌, ◌/◌, ◌<◌, ◌≤◌, true, false, List, [], ◌∷◌, ◌++◌, length, map, take, get_or, Some, None, slice_get, refl, sym, ap, ◌∙◌, arith, append_assoc, append-nil, length-append}
use Rattle.std.specs.List.{range_with_len}
use Rattle.std.proofs.lemmas.List.{get_or_append_left, get_or-append_right}
use Rattle.std.proofs.lemmas.List.FromFn.{length-map-range_with_len}
use Rattle.text_spec.specs.Packed.{content_words}
use Rattle.text_spec.specs.declared.encoding.Encoding.TheVariants.{Utf8}
use Rattle.word_units.specs.Packing.{byte_word}
use Rattle.literal_rows.specs.Rows.{literal_row, rows_of, row_start, row_starts, row_words, AllFit}

pub get_or-slice_get : (ls : List (List ℕ)) (k : ℕ) (t : List ℕ) → slice_get ls k ≡ Some t → get_or ls k [] ≡ t
get_or-slice_get [] k t e = absurd (let e' : None ≡ Some t = e in cc)
get_or-slice_get (x ∷ ls) zero t e = (let e' : Some x ≡ Some t = e in cc)
get_or-slice_get (x ∷ ls) (suc k) t e = get_or-slice_get ls k t e

pub below_listed : (ls : List (List ℕ)) (k : ℕ) (t : List ℕ) → slice_get ls k ≡ Some t → k < length ls
below_listed [] k t e = absurd (let e' : None ≡ Some t = e in cc)
below_listed (x ∷ ls) zero t e = omega arith
below_listed (x ∷ ls) (suc k) t e = let h = below_listed ls k t e in omega (arith, h)

pub rows_of-take : (ls : List (List ℕ)) (k : ℕ) (t : List ℕ) → slice_get ls k ≡ Some t → rows_of (take (suc k) ls) ≡ rows_of (take k ls) ++ literal_row t
rows_of-take [] k t e = absurd (let e' : None ≡ Some t = e in cc)
rows_of-take (x ∷ ls) zero t e = let e' : x ≡ t = (let e'' : Some x ≡ Some t = e in cc) in append-nil (literal_row x) ∙ ap literal_row e'
rows_of-take (x ∷ ls) (suc k) t e = ap (λ (r : List ℕ). literal_row x ++ r) (rows_of-take ls k t e) ∙ sym (append_assoc (literal_row x) (rows_of (take k ls)) (literal_row t))

-- word i of a row stands among all rows where its literal's row begins
pub row_at : (ls : List (List ℕ)) (n i : ℕ) → n < length ls → i < length (row_words ls n)
    → (row_start ls n + i < length (rows_of ls)) × (get_or (rows_of ls) (row_start ls n + i) 0 ≡ get_or (row_words ls n) i 0)
row_at [] n i there below = absurd (omega arith)
row_at (t ∷ ts) zero i there below =
    let sum = length-append (literal_row t) (rows_of ts) in
    let none : 0 + i ≡ i = omega arith in (
      omega (arith, sum, below),
      ap (λ (m : ℕ). get_or (literal_row t ++ rows_of ts) m 0) none ∙ get_or_append_left (literal_row t) (rows_of ts) 0 i below,
    )
row_at (t ∷ ts) (suc n) i there below =
    let sum = length-append (literal_row t) (rows_of ts) in
    let tail = row_at ts n i (omega arith) below in
    let within_rest = tail.0 in
    let own : ℕ = length (literal_row t) in
    let behind : own + row_start ts n + i - own ≡ row_start ts n + i = omega arith in (
      omega (arith, sum, within_rest),
      get_or-append_right (literal_row t) (rows_of ts) own (own + row_start ts n + i) 0 refl (omega arith)
          ∙ ap (λ (m : ℕ). get_or (rows_of ts) m 0) behind ∙ tail.1,
    )

-- the beginnings, by number
pub starts-at : (from : ℕ) (ls : List (List ℕ)) (n : ℕ) → n < length ls → get_or (row_starts from ls) n 0 ≡ from + row_start ls n
starts-at from [] n there = absurd (omega arith)
starts-at from (t ∷ ts) zero there = omega arith
starts-at from (t ∷ ts) (suc n) there = let e = starts-at (from + length (literal_row t)) ts n (omega arith) in omega (arith, e)

pub length-starts : (from : ℕ) (ls : List (List ℕ)) → length (row_starts from ls) ≡ length ls
length-starts from [] = refl
length-starts from (t ∷ ts) = ap (λ n. suc n) (length-starts (from + length (literal_row t)) ts)

-- one literal more
pub starts-take : (from : ℕ) (ls : List (List ℕ)) (n : ℕ) → n < length ls → row_starts from (take (suc n) ls) ≡ row_starts from (take n ls) ++ (from + length (rows_of (take n ls))) ∷ []
starts-take from [] n there = absurd (omega arith)
starts-take from (t ∷ ts) zero there = let e : from ≡ from + 0 = omega arith in ap (λ (m : ℕ). m ∷ []) e
starts-take from (t ∷ ts) (suc n) there =
    let tail = starts-take (from + length (literal_row t)) ts n (omega arith) in let sum = length-append (literal_row t) (rows_of (take n ts)) in
    let e : from + length (literal_row t) + length (rows_of (take n ts)) ≡ from + length (literal_row t ++ rows_of (take n ts)) = omega (arith, sum) in
    ap (λ l. from ∷ l) (tail ∙ ap (λ (m : ℕ). row_starts (from + length (literal_row t)) (take n ts) ++ m ∷ []) e)

-- how long a row is
pub length-literal_row : (bytes : List ℕ) → length (literal_row bytes) ≡ 1 + (length bytes + 7) / 8
length-literal_row bytes =
    let all = length-map-range_with_len (byte_word bytes) 0 (content_words Utf8 (length bytes)) in omega (arith, all)

-- literals that fit have few words
pub rows_few : (most : ℕ) (ls : List (List ℕ)) → AllFit (8 * most) ls → length (rows_of ls) ≤ length ls * (1 + most)
rows_few most [] fit = omega arith
rows_few most (t ∷ ts) fit =
    let sum = length-append (literal_row t) (rows_of ts) in
    let tail = rows_few most ts (λ m below. fit (suc m) (omega arith)) in
    let here : length t ≤ 8 * most = fit 0 (omega arith) in
    let own = length-literal_row t in
    omega (arith, sum, tail, here, own)
