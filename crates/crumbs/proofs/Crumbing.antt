-- Breadcrumbs one by one: what an index word of the list says, and how the words grow.
use Rattle.std.proofs.Common.{◌≡◌, refl, sym, ap, ◌∙◌, ℕ, zero, suc, ◌+◌, ◌-◌, ◌*◌, ◌/◌, ◌%◌, ◌^◌, ◌<◌, ◌≤◌, List, [], ◌∷◌, length, get_or, arith, ⊎_elim, true, false, is_le, nat_cmp, subst, Bool}
use Rattle.std.proofs.lemmas.Bool.{cases_lt, cases_eq, eq-eqb, ne_eqb}
use Rattle.std.proofs.lemmas.List.FromFn.{get_or-map-range_with_len, length-map-range_with_len}
use Rattle.std.proofs.lemmas.Nat.{div-add-mod', mul-le, le-div, pow_pos}
use Rattle.std.proofs.lemmas.Bool.Decides.{nat_tests}
use Rattle.std.proofs.lemmas.Map.Keys.{le_from_is_le}
use Rattle.std.proofs.Math.Nat.{pow-suc, mul-div_cancel, mod-lt}
use Rattle.std.proofs.lemmas.Str.{len_utf8_bounds}
use Rattle.std.specs.Char.{len_utf8}
use Rattle.text_spec.specs.declared.encoding.Encoding.{Encoding}
use Rattle.text_spec.specs.declared.encoding.Encoding.TheVariants.{Utf8, Utf16}
use Rattle.text_spec.specs.Offsets.{len_utf16, start, down}
use Rattle.index_words.specs.Crumbs.{size16, index_word8, index16, crumbs}
use Rattle.text_spec.specs.Views.{size_in}
use Rattle.text_spec.proofs.Downward.{start-down, down-length, down-greatest}
use Rattle.text_spec.proofs.Walk.{start-zero, start-suc, start-mono, down-next, down-start, down-end}
use Rattle.text_spec.proofs.Widths.{len16_cases, len16_some, len16_most, len8_some, len8_pair}
use Rattle.index_words.specs.Fields.{IsIndexWord, place_of, plain, word_of}
use Rattle.crumbs.specs.Searching.{IsLastCrumb}

-- ---- a text has no more UTF-16 units than code units of its storage
len16-le : (c : ℕ) → len_utf16 c ≤ len_utf8 c
len16-le c =
    let b = len_utf8_bounds c in
    ⊎_elim (λ h. omega arith) (λ h. omega (arith, len8_pair c h.1)) (len16_cases c)

pub start16-le : (t : List ℕ) (k : ℕ) → start len_utf16 t k ≤ start len_utf8 t k
start16-le [] k = omega arith
start16-le (c ∷ t) zero = omega arith
start16-le (c ∷ t) (suc k) = omega (arith, start16-le t k, len16-le c)

pub size16-le : (e : Encoding) (t : List ℕ) → size16 t ≤ size_in e t
size16-le Utf8 t = start16-le t (length t)
size16-le Utf16 t = omega arith

-- ---- an index word
pub record Word8 (p x word : ℕ) : Type 0 where
  pub position : word / 65536 ≡ p
  pub transcoded : word / 16384 % 4 ≡ x
  pub place : word / 16384 ≡ p * 4 + x
  pub is_index : IsIndexWord word

abbrev marked : ℕ → ℕ → Bool → ℕ
marked p x told = word_of (record (plain p x Utf8) { scalar_aligned = told })

pub word8 : (p x : ℕ) → x ≤ 1 → Word8 p x (index_word8 p x)
word8 p x h =
    ⊎_elim (λ e. let f : index_word8 p x ≡ p * 65536 + x * 16384 + 5 = ap (marked p x) (eq-eqb x 0 e) ∙ omega arith in parts 5 f (omega arith))
    (λ e. let f : index_word8 p x ≡ p * 65536 + x * 16384 + 4 = ap (marked p x) (ne_eqb x 0 e) ∙ omega arith in parts 4 f (omega arith))
    (cases_eq x 0)
  where
    parts : (low : ℕ) → index_word8 p x ≡ p * 65536 + x * 16384 + low → low < 16 → Word8 p x (index_word8 p x)
    parts low f small = record { position = omega arith; transcoded = omega arith; place = omega arith; is_index = omega arith }

pub index16-at : (t : List ℕ) (o k p x : ℕ) → down len_utf16 t o ≡ k → start len_utf8 t k ≡ p → o - start len_utf16 t k ≡ x → index_word8 p x ≡ index16 t o
index16-at t o k p x d s e = sym (ap (λ j. index_word8 (start len_utf8 t j) (o - start len_utf16 t j)) d ∙ rw (s, e) refl)

-- a UTF-16 offset lies at most one unit into its scalar
pub past_most : (t : List ℕ) (m : ℕ) → m ≤ size16 t → m - start len_utf16 t (down len_utf16 t m) ≤ 1
past_most t m h =
    let k = down len_utf16 t m in
    let low = start-down len_utf16 t m in
    ⊎_elim
    (λ before. let near = down-next len_utf16 t m before in omega (arith, low, near.1, start-suc len_utf16 t k near.0, len16_most (get_or t k 0)))
    (λ at. let all : start len_utf16 t k ≡ size16 t = ap (start len_utf16 t) (down-end len_utf16 t m at) in omega (arith, all))
    (cases_lt m (size16 t))

pub index16-word : (t : List ℕ) (m : ℕ) → m ≤ size16 t
    → Word8 (start len_utf8 t (down len_utf16 t m)) (m - start len_utf16 t (down len_utf16 t m)) (index16 t m)
index16-word t m h = word8 _ _ (past_most t m h)

-- ---- the list
pub length-crumbs : (t : List ℕ) (n : ℕ) → length (crumbs t n) ≡ size16 t / n + 2
length-crumbs t n = omega (arith, length-map-range_with_len (λ j. index16 t (j * n)) 0 (size16 t / n + 1))

pub crumbs-at : (t : List ℕ) (n j : ℕ) → j ≤ size16 t / n → get_or (crumbs t n) (j + 1) 0 ≡ index16 t (j * n)
crumbs-at t n j h =
    let e : j + 1 ≡ suc j = omega arith in
    ap (λ i. get_or (crumbs t n) i 0) e ∙ get_or-map-range_with_len (λ i. index16 t (i * n)) 0 (size16 t / n + 1) j j 0 (omega arith) (omega arith)

pub quotient_le : (n d : ℕ) → 1 ≤ d → n / d ≤ n
quotient_le n d h = omega (arith, div-add-mod' n d, mul-le (n / d) 1 (n / d) d (omega arith) h)

-- the multiple below a number
pub before_or_at : (o n : ℕ) → o / n * n ≤ o
before_or_at o n = omega (arith, div-add-mod' o n)

-- and the one behind it
pub next_multiple : (o n : ℕ) → 1 ≤ n → o < o / n * n + n
next_multiple o n h = omega (arith, div-add-mod' o n, mod-lt o h)

-- a breadcrumb's number is that of an offset within the text
pub multiple_in : (m n j : ℕ) → j ≤ m / n → j * n ≤ m
multiple_in m n j h = omega (arith, div-add-mod' m n, mul-le j n (m / n) n h (omega arith))

-- a later offset has a later place
pub index16-increases : (t : List ℕ) (m o : ℕ) → m < o → o ≤ size16 t → place_of (index16 t m) < place_of (index16 t o)
index16-increases t m o before inside =
    let j = down len_utf16 t m in
    let k = down len_utf16 t o in
    let w = index16-word t m (omega arith) in
    let v = index16-word t o inside in
    let near = down-next len_utf16 t m (omega arith) in
    ⊎_elim
    (λ less.
    let later = start-mono len_utf8 t (suc j) k less in
    omega (arith, w.place, v.place, later, start-suc len_utf8 t j near.0, len8_some (get_or t j 0), past_most t m (omega arith)))
    (λ not_less.
    let same : k ≡ j = omega (arith, not_less, down-greatest len_utf16 t o j (down-length len_utf16 t m) (omega (arith, start-down len_utf16 t m))) in
    omega (arith, w.place, v.place, ap (start len_utf8 t) same, ap (start len_utf16 t) same, start-down len_utf16 t m))
    (cases_lt j k)

pub index16-zero : (t : List ℕ) → index16 t 0 / 16384 ≡ 0
index16-zero t =
    let w = index16-word t 0 (omega arith) in
    let none : down len_utf16 t 0 ≡ 0 = ap (down len_utf16 t) (sym (start-zero len_utf16 t)) ∙ down-start len_utf16 len16_some t 0 (omega arith) in
    omega (arith, w.place, ap (start len_utf8 t) none, start-zero len_utf8 t)

-- ---- one halving takes one of the steps that are left
pub halved : (w less e s b : ℕ) → 2 ≤ w → w ≤ 2 ^ e → 2 * less ≤ w + 1 → s + e ≤ b → (f : ℕ) × (less ≤ 2 ^ f) × (s + 1 + f ≤ b)
halved w less zero s b two most half left = absurd (omega arith)
halved w less (suc e) s b two most half left = let p : 2 ^ suc e ≡ 2 ^ e * 2 = pow-suc 2 e in (e, omega arith, omega arith)

-- and of what can be halved so often, a half can be halved once less
pub kept_half : (w less left b s : ℕ) → 2 ≤ w → w ≤ 2 * less + 1 → 2 ^ left ≤ w → b ≤ s + left → (f : ℕ) × (2 ^ f ≤ less) × (b ≤ s + 1 + f)
kept_half w less zero b s two most half left = (0, omega (arith, two, most), omega (arith, left))
kept_half w less (suc e) b s two most half left = let p : 2 ^ suc e ≡ 2 ^ e * 2 = pow-suc 2 e in (e, omega (arith, p, half, most), omega (arith, left))

pub none_left : (left w : ℕ) → 2 ^ left ≤ w → w ≤ 1 → left ≡ 0
none_left zero w half one = refl
none_left (suc e) w half one = absurd (omega (arith, pow-suc 2 e, pow_pos e, half, one))

-- ---- what a comparison of places says
pub le_told : (a b : ℕ) → true ≡ is_le (nat_cmp a b) → a ≤ b
le_told a b e = le_from_is_le a b (sym e)

pub gt_told : (a b : ℕ) → false ≡ is_le (nat_cmp a b) → b < a
gt_told a b e = grind (arith, nat_tests)

-- the breadcrumb of the last number that isn't after an index is the last of all
pub last_crumb : (t : List ℕ) (n index number crumb : ℕ) → 1 ≤ n → number ≤ size16 t / n → crumb ≡ index16 t (number * n)
    → place_of (index16 t (number * n)) ≤ place_of index
    → (number < size16 t / n → place_of index < place_of (index16 t ((number + 1) * n)))
    → IsLastCrumb t n index (number * n) crumb
last_crumb t n index number crumb some within is before after =
    record {
      at_multiple = ap (λ q. q * n) (mul-div_cancel number some);
      inside = multiple_in (size16 t) n number within;
      crumb_is = is;
      not_after = subst (λ w. place_of w ≤ place_of index) (sym is) before;
      last = λ j later inside.
          let next : number + 1 ≤ j = ⊎_elim (λ (h : j < number + 1). absurd (omega (arith, later, mul-le j n number n (omega arith) (omega arith)))) (λ (h : number + 1 ≤ j). h) (cases_lt j (number + 1)) in
          let most : j ≤ size16 t / n = le-div j (size16 t) n some inside in
          let first = after (omega arith) in
          ⊎_elim
          (λ (h : number + 1 < j). omega (arith, first, index16-increases t ((number + 1) * n) (j * n) (omega (arith, some, mul-le (number + 1 + 1) n j n (omega arith) (omega arith))) inside))
          (λ (h : j ≤ number + 1). subst (λ k. place_of index < place_of (index16 t (k * n))) {x = number + 1} {y = j} (omega arith) first)
          (cases_lt (number + 1) j);
    }

-- a word of the list, where the list has it
pub crumb_read : (t : List ℕ) (n number word : ℕ) → number ≤ size16 t / n
    → (number + 1 < length (crumbs t n) → word ≡ get_or (crumbs t n) (number + 1) 0) → word ≡ index16 t (number * n)
crumb_read t n number word within read = read (omega (arith, length-crumbs t n)) ∙ crumbs-at t n number within
