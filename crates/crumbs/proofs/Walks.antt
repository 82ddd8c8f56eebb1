-- Walks from a breadcrumb.
use Rattle.std.proofs.Common.{◌≡◌, refl, sym, ap, subst, ◌∙◌, ℕ, zero, suc, ◌+◌, ◌-◌, ◌*◌, ◌/◌, ◌<◌, ◌≤◌, ◌==◌, ◌&&◌, ◌⊎◌, ⊎_elim, Bool, true, false, cond, nat_lt, List, length, get_or, arith}
use Rattle.std.proofs.lemmas.Bool.{cases_lt, cond-true, and_parts, eq-eqb, eqb-true, lt-ltb, ltb-true}
use Rattle.std.proofs.Math.Nat.{suc-mul}
use Rattle.std.specs.Char.{len_utf8}
use Rattle.text_spec.specs.declared.encoding.Encoding.TheVariants.{Utf8}
use Rattle.index_words.specs.Crumbs.{size16, index_word8, index16}
use Rattle.text_spec.specs.Offsets.{len_utf16, start, down}
use Rattle.text_spec.specs.Rounding.{kept_offset, other_floor, other_offset}
use Rattle.text_spec.specs.Views.{size_in}
use Rattle.text_spec.proofs.Downward.{start-down, down-length, down-greatest}
use Rattle.text_spec.proofs.Walk.{start-zero, start-suc, start-le, down-next, down-start, down-end}
use Rattle.text_spec.proofs.Widths.{len16_some, len16_most, len8_some}
use Rattle.index_words.specs.Fields.{position_of, transcoded_of, place_of}
use Rattle.word_units.specs.Walking.{Passes}
use Rattle.word_units.specs.Parts.{all_of}
use Rattle.rounding.specs.Resolving.{Reaches, index_place}
use Rattle.crumbs.specs.Searching.{IsLastCrumb}
use Rattle.crumbs.specs.Scanning.{Stands}
use Rattle.crumbs.proofs.Crumbing.{index16-word, past_most, before_or_at, next_multiple, index16-increases}

-- ---- one scalar on
module _ (t : List ℕ) (at units : ℕ) (here : Reaches (all_of Utf8 t) at units) where
  pub record Stepped8 (next more : ℕ) : Type 0 where
    pub reaches : Reaches (all_of Utf8 t) next (units + more)
    pub few : more ≤ 2
    pub some : 1 ≤ more
    pub within : units + more ≤ size16 t
    pub is_more : start len_utf16 t (suc (down len_utf8 t at)) ≡ units + more
    pub ends : start len_utf8 t (suc (down len_utf8 t at)) ≡ next
    pub number : down len_utf8 t next ≡ suc (down len_utf8 t at)
    pub inside : down len_utf8 t at < length t

  pub stepped8 : (next more : ℕ) → Passes (all_of Utf8 t) at next more → Stepped8 next more
  stepped8 next more p =
      let k = down len_utf8 t at in
      let number : down len_utf8 t next ≡ suc k = omega (arith, p.number) in
      let offset : start len_utf16 t (down len_utf8 t next) ≡ units + more = omega (arith, p.other, here.offset) in
      let after : start len_utf16 t (suc k) ≡ units + more = ap (start len_utf16 t) (sym number) ∙ offset in
      record {
        reaches = record { boundary = p.boundary; offset = offset };
        few = omega (arith, start-suc len_utf16 t k p.inside, after, here.offset, len16_most (get_or t k 0));
        some = p.some;
        within = omega (arith, after, start-le len_utf16 t (suc k));
        is_more = after;
        ends = ap (start len_utf8 t) (sym number) ∙ p.boundary;
        number = number;
        inside = p.inside;
      }

-- ---- from the breadcrumb before an index
reaches_at : (t : List ℕ) (k : ℕ) → k ≤ length t → Reaches (all_of Utf8 t) (start len_utf8 t k) (start len_utf16 t k)
reaches_at t k h =
    let same = down-start len_utf8 len8_some t k h in
    record { boundary = ap (start len_utf8 t) same; offset = ap (start len_utf16 t) same }

pub scalar_of_crumb : (t : List ℕ) (m word : ℕ) → m ≤ size16 t → word ≡ index16 t m → Reaches (all_of Utf8 t) (position_of word) (m - transcoded_of word)
scalar_of_crumb t m word inside is =
    let k = down len_utf16 t m in
    let w = index16-word t m inside in
    let p : start len_utf8 t k ≡ position_of word = sym (ap position_of is ∙ w.position) in
    let u : start len_utf16 t k ≡ m - transcoded_of word = omega (arith, ap transcoded_of is, w.transcoded, start-down len_utf16 t m) in
    rw (← p, ← u) (reaches_at t k (down-length len_utf16 t m))

pub number_of_crumb : (t : List ℕ) (m word : ℕ) → m ≤ size16 t → word ≡ index16 t m → down len_utf8 t (position_of word) ≡ down len_utf16 t m
number_of_crumb t m word inside is =
    let k = down len_utf16 t m in
    let position : position_of word ≡ start len_utf8 t k = ap position_of is ∙ (index16-word t m inside).position in
    ap (down len_utf8 t) position ∙ down-start len_utf8 len8_some t k (down-length len_utf16 t m)

-- scalars lie no closer than units
gap : (t : List ℕ) (j d : ℕ) → j + d ≤ length t → d + start len_utf16 t j ≤ start len_utf16 t (j + d)
gap t j zero h = ap_le (omega arith)
  where
    ap_le : j + 0 ≡ j → 0 + start len_utf16 t j ≤ start len_utf16 t (j + 0)
    ap_le e = omega (arith, ap (start len_utf16 t) e)
gap t j (suc d) h =
    let e : j + suc d ≡ suc (j + d) = omega arith in
    omega (arith, ap (start len_utf16 t) e, start-suc len_utf16 t (j + d) (omega (arith, h)), len16_some (get_or t (j + d) 0), gap t j d (omega (arith, h)))

-- the scalar over an index begins before the next breadcrumb
before_next : (t : List ℕ) (n i m crumb : ℕ) → IsLastCrumb t n i m crumb → 1 ≤ n → start len_utf16 t (down len_utf8 t (position_of i)) < m + n
before_next t n i m crumb last some =
    let k = down len_utf8 t (position_of i) in
    let u = start len_utf16 t k in
    let most : u ≤ size16 t = start-le len_utf16 t k in
    ⊎_elim (λ (h : size16 t < m + n). omega (arith, most, h))
    (λ (h : m + n ≤ size16 t).
    let next : (m / n + 1) * n ≡ m + n = omega (arith, suc-mul (m / n) n, last.at_multiple) in
    let after = last.last (m / n + 1) (omega (arith, next, some)) (omega (arith, next, h)) in
    let after' : place_of i < place_of (index16 t (m + n)) = subst (λ o. place_of i < place_of (index16 t o)) next after in
    let w = index16-word t u most in
    let d : down len_utf16 t u ≡ k = down-start len_utf16 len16_some t k (down-length len_utf8 t (position_of i)) in
    let here : place_of (index16 t u) ≡ start len_utf8 t k * 4 = omega (arith, w.place, ap (start len_utf8 t) d, ap (start len_utf16 t) d) in
    let low = start-down len_utf8 t (position_of i) in
    ⊎_elim (λ (l : u < m + n). l)
    (λ (l : m + n ≤ u).
    ⊎_elim (λ (e : m + n < u). absurd (omega (arith, after', here, low, index16-increases t (m + n) u e most)))
    (λ (e : u ≤ m + n). let same : m + n ≡ u = omega (arith, l, e) in absurd (omega (arith, after', here, low, ap (λ o. place_of (index16 t o)) same)))
    (cases_lt (m + n) u))
    (cases_lt u (m + n)))
    (cases_lt (size16 t) (m + n))

-- so few scalars lie from the one at a unit to one that begins less than n units on
few_on : (t : List ℕ) (n m k : ℕ) → k ≤ length t → start len_utf16 t k < m + n → 1 ≤ n → k + 1 ≤ down len_utf16 t m + n
few_on t n m k inside near some =
    let j = down len_utf16 t m in
    ⊎_elim
    (λ (h : j < k).
    let before : m < size16 t = ⊎_elim (λ l. l) (λ (l : size16 t ≤ m). absurd (omega (arith, down-end len_utf16 t m l, h, inside))) (cases_lt m (size16 t)) in
    let next = down-next len_utf16 t m before in
    let d : suc j + (k - suc j) ≡ k = omega (arith, h) in
    omega (arith, next.1, near, gap t (suc j) (k - suc j) (omega (arith, d, inside)), ap (start len_utf16 t) d, h))
    (λ (h : k ≤ j). omega (arith, h, some))
    (cases_lt j k)

-- from the breadcrumb before an index to the scalar over it, and from the one before an offset to the scalar over that
pub few_to_byte : (t : List ℕ) (n i m crumb : ℕ) → IsLastCrumb t n i m crumb → 1 ≤ n → down len_utf8 t (position_of i) + 1 ≤ down len_utf16 t m + n
few_to_byte t n i m crumb last some =
    few_on t n m (down len_utf8 t (position_of i)) (down-length len_utf8 t (position_of i)) (before_next t n i m crumb last some) some

pub few_to_unit : (t : List ℕ) (n m o : ℕ) → o < m + n → 1 ≤ n → down len_utf16 t o + 1 ≤ down len_utf16 t m + n
few_to_unit t n m o near some = few_on t n m (down len_utf16 t o) (down-length len_utf16 t o) (omega (arith, near, start-down len_utf16 t o)) some

-- only one breadcrumb is the last
pub last_unique : (t : List ℕ) (n i m crumb other crumb' : ℕ) → IsLastCrumb t n i m crumb → IsLastCrumb t n i other crumb' → m ≡ other
last_unique t n i m crumb other crumb' a b =
    ⊎_elim (λ (h : m < other). absurd (apart t n i m crumb other crumb' a b h))
    (λ (h : other ≤ m).
    ⊎_elim (λ (l : other < m). absurd (apart t n i other crumb' m crumb b a l)) (λ (l : m ≤ other). omega (arith, h, l)) (cases_lt other m))
    (cases_lt m other)
  where
    apart : (t : List ℕ) (n i m crumb other crumb' : ℕ) → IsLastCrumb t n i m crumb → IsLastCrumb t n i other crumb' → m < other → ⊥
    apart t n i m crumb other crumb' a b h =
        let after = a.last (other / n) (omega (arith, h, b.at_multiple)) (omega (arith, b.inside, b.at_multiple)) in
        let later : place_of i < place_of (index16 t other) = subst (λ o. place_of i < place_of (index16 t o)) b.at_multiple after in
        omega (arith, later, b.not_after, ap place_of b.crumb_is)

-- a later offset lies in no earlier scalar
pub down16-le : (t : List ℕ) (m o : ℕ) → m ≤ o → down len_utf16 t m ≤ down len_utf16 t o
down16-le t m o h = down-greatest len_utf16 t o (down len_utf16 t m) (down-length len_utf16 t m) (omega (arith, start-down len_utf16 t m, h))

-- nor a later index than the breadcrumb
pub crumb_number-le : (t : List ℕ) (n i m crumb : ℕ) → IsLastCrumb t n i m crumb → down len_utf16 t m ≤ down len_utf8 t (position_of i)
crumb_number-le t n i m crumb last =
    let k = down len_utf16 t m in
    let w = index16-word t m last.inside in
    down-greatest len_utf8 t (position_of i) k (down-length len_utf16 t m) (omega (arith, last.not_after, ap place_of last.crumb_is, w.place))

-- ---- where a walk from a breadcrumb begins, and how far it goes
pub record FromCrumb (t : List ℕ) (n m last word : ℕ) : Type 0 where
  pub reaches : Reaches (all_of Utf8 t) (position_of word) (m - transcoded_of word)
  pub within : position_of word ≤ size_in Utf8 t
  pub number : down len_utf8 t (position_of word) ≡ down len_utf16 t m
  pub order : down len_utf8 t (position_of word) ≤ last
  pub few : last + 1 ≤ down len_utf16 t m + n

pub to_unit : (t : List ℕ) (n o word : ℕ) → 1 ≤ n → o ≤ size16 t → word ≡ index16 t (o / n * n) → FromCrumb t n (o / n * n) (down len_utf16 t o) word
to_unit t n o word some inside is =
    let m = o / n * n in
    let low = before_or_at o n in
    let number = number_of_crumb t m word (omega (arith, low, inside)) is in
    let here = scalar_of_crumb t m word (omega (arith, low, inside)) is in
    record {
      reaches = here;
      within = omega (arith, here.boundary, start-le len_utf8 t (down len_utf8 t (position_of word)));
      number = number;
      order = omega (arith, number, down16-le t m o low);
      few = few_to_unit t n m o (next_multiple o n some) some;
    }

pub to_byte : (t : List ℕ) (n i m word : ℕ) → 1 ≤ n → IsLastCrumb t n i m word → FromCrumb t n m (down len_utf8 t (position_of i)) word
to_byte t n i m word some last =
    let number = number_of_crumb t m word last.inside last.crumb_is in
    let here = scalar_of_crumb t m word last.inside last.crumb_is in
    record {
      reaches = here;
      within = omega (arith, here.boundary, start-le len_utf8 t (down len_utf8 t (position_of word)));
      number = number;
      order = omega (arith, number, crumb_number-le t n i m word last);
      few = few_to_byte t n i m word last some;
    }

-- ---- the offset of the unit that an index is rounded down to
module _ (t : List ℕ) (i begins units takes : ℕ) (over : Stands t (down len_utf8 t (position_of i)) begins units takes) where
  floor_parts : (kept : ℕ) → kept_offset len_utf8 len_utf16 t (size_in Utf8 t) (index_place i) ≡ kept
      → units + kept ≡ other_offset len_utf8 len_utf16 t 0 (other_floor len_utf8 len_utf16 t (size_in Utf8 t) (index_place i))
  floor_parts kept is =
      let k = down len_utf8 t (position_of i) in
      let same : down len_utf8 t (start len_utf8 t k) ≡ k = down-start len_utf8 len8_some t k (down-length len_utf8 t (position_of i)) in
      omega (arith, over.units_are, ap (start len_utf16 t) same, start-zero len_utf16 t, is)

  takes_width : position_of i < size_in Utf8 t → takes ≡ len_utf16 (get_or t (down len_utf8 t (position_of i)) 0)
  takes_width h = let near = down-next len_utf8 t (position_of i) h in omega (arith, over.takes_are, start-suc len_utf16 t (down len_utf8 t (position_of i)) near.0)

  -- a place within the scalar keeps its transcoded offset
  pub offset_within : position_of i ≤ size_in Utf8 t → begins ≡ position_of i → transcoded_of i < takes
      → units + transcoded_of i ≡ other_offset len_utf8 len_utf16 t 0 (other_floor len_utf8 len_utf16 t (size_in Utf8 t) (index_place i))
  offset_within within at inside =
      let k = down len_utf8 t (position_of i) in
      let before : position_of i < size_in Utf8 t = ⊎_elim (λ h. h)
      (λ (h : size_in Utf8 t ≤ position_of i).
      let last : k ≡ length t = down-end len_utf8 t (position_of i) h in
      absurd (omega (arith, over.takes_are, inside, ap (start len_utf16 t) last, start-le len_utf16 t (suc k))))
      (cases_lt (position_of i) (size_in Utf8 t)) in
      floor_parts (transcoded_of i)
      (cond-true ((start len_utf8 t k == position_of i) && (nat_lt (position_of i) (size_in Utf8 t) && nat_lt (transcoded_of i) (len_utf16 (get_or t k 0)))) (transcoded_of i) 0 (rw (
        eq-eqb (start len_utf8 t k) (position_of i) (omega (arith, over.begins_at, at)),
        lt-ltb (position_of i) (size_in Utf8 t) before,
        lt-ltb (transcoded_of i) (len_utf16 (get_or t k 0)) (omega (arith, takes_width before, inside)),
      ) refl))

  -- another one loses it
  pub offset_else : ((begins ≡ position_of i → ⊥) ⊎ (takes ≤ transcoded_of i))
      → units ≡ other_offset len_utf8 len_utf16 t 0 (other_floor len_utf8 len_utf16 t (size_in Utf8 t) (index_place i))
  offset_else other =
      let k = down len_utf8 t (position_of i) in
      let first = start len_utf8 t k == position_of i in
      let second = nat_lt (position_of i) (size_in Utf8 t) in
      let third = nat_lt (transcoded_of i) (len_utf16 (get_or t k 0)) in
      let none : units + 0 ≡ units = omega arith in
      sym none ∙ floor_parts 0
      (none_kept (first && (second && third)) (transcoded_of i)
      (λ e.
      let parts = and_parts first (second && third) e in
      let inner = and_parts second third parts.1 in
      let at = eqb-true (start len_utf8 t k) (position_of i) parts.0 in
      let before = ltb-true (position_of i) (size_in Utf8 t) inner.0 in
      let inside = ltb-true (transcoded_of i) (len_utf16 (get_or t k 0)) inner.1 in
      ⊎_elim (λ no_begin. no_begin (over.begins_at ∙ at)) (λ past. absurd (omega (arith, past, inside, takes_width before))) other))
    where
      none_kept : (b : Bool) (x : ℕ) → (b ≡ true → ⊥) → cond b x 0 ≡ 0
      none_kept true x not = absurd (not refl)
      none_kept false x not = refl

-- ---- the index of a unit, by the scalar that covers it
pub record Over16 (t : List ℕ) (o begins units : ℕ) : Type 0 where
  pub order : units ≤ o
  pub few : o - units ≤ 1
  pub within : begins ≤ size_in Utf8 t

pub over16 : (t : List ℕ) (o begins units takes : ℕ) → o ≤ size16 t → Stands t (down len_utf16 t o) begins units takes → Over16 t o begins units
over16 t o begins units takes inside over = record {
  order = omega (arith, over.units_are, start-down len_utf16 t o);
  few = omega (arith, over.units_are, past_most t o inside);
  within = omega (arith, over.begins_at, start-le len_utf8 t (down len_utf16 t o));
}

pub index_over : (t : List ℕ) (o begins units takes : ℕ) → Stands t (down len_utf16 t o) begins units takes → index_word8 begins (o - units) ≡ index16 t o
index_over t o begins units takes over = ap (λ p. index_word8 p (o - units)) over.begins_at ∙ ap (λ u. index_word8 (start len_utf8 t (down len_utf16 t o)) (o - u)) over.units_are
