-- Boundaries of a text in its storage, and the places that offsets are rounded down to.
use Rattle.std.proofs.Common.{◌≡◌, refl, sym, ap, ◌∙◌, ℕ, suc, ◌+◌, ◌-◌, ◌^◌, ◌<◌, ◌≤◌, ⊎_elim, List, length, get_or, arith}
use Rattle.std.proofs.lemmas.Bool.{cases_lt}
use Rattle.std.proofs.lemmas.List.{take_all}
use Rattle.text_spec.specs.declared.encoding.Encoding.{Encoding}
use Rattle.text_spec.specs.declared.encoding.Encoding.TheVariants.{Utf8, Utf16}
use Rattle.text_spec.specs.Boundaries.{IsScalarBoundary}
use Rattle.text_spec.specs.Offsets.{len_utf16, start, down}
use Rattle.text_spec.specs.Rounding.{Place, across}
use Rattle.text_spec.specs.Text.{utf8, utf16}
use Rattle.text_spec.specs.Views.{width_in, size_in, part}
use Rattle.text_spec.proofs.Bytes.{length-utf8}
use Rattle.text_spec.proofs.Downward.{down-length, start-down, down-greatest}
use Rattle.text_spec.proofs.Lengths.{start-utf16}
use Rattle.text_spec.proofs.Walk.{start-zero, start-suc, start-le, start-mono, down-next, down-start, down-end}
use Rattle.text_spec.proofs.Widths.{width_some, width_most}
use Rattle.index_words.specs.Fields.{position_of, transcoded_of}
use Rattle.word_units.specs.Parts.{all_of}
use Rattle.unit_views.specs.declared.kind.ElementKind.TheVariants.{Units}
use Rattle.unit_views.specs.Elements.{element_count, element_index, element_place}
use Rattle.unit_views.specs.Spots.{Walked}
use Rattle.unit_views.proofs.Floors.{said}
use Rattle.unit_views.proofs.Walks.{walked_end}
use Rattle.batch_workers.specs.Ops.{units, floor}
use Rattle.batch_workers.specs.Boundaries.{IsBoundary}

-- how many units a text has, as its scalars' widths and as its elements
pub units-start : (e : Encoding) (t : List ℕ) → units e t ≡ start (width_in e) t (length t)
units-start Utf8 t = length-utf8 t
units-start Utf16 t = sym (start-utf16 t (length t) ∙ ap (λ front. length (utf16 front)) (take_all (length t) t (omega arith)))

pub units-count : (e : Encoding) (t : List ℕ) → (storage : Encoding) → element_count (Units e) (all_of storage t) ≡ units e t
units-count Utf8 t storage = ap (λ front. length (utf8 front)) (take_all (length t - 0) t (omega arith))
units-count Utf16 t storage = ap (λ front. length (utf16 front)) (take_all (length t - 0) t (omega arith))

-- a place where scalar k begins
pub number-there : (e : Encoding) (t : List ℕ) (k p : ℕ) → k ≤ length t → p ≡ start (width_in e) t k → down (width_in e) t p ≡ k
number-there e t k p h is = ap (down (width_in e) t) is ∙ down-start (width_in e) (width_some e) t k h

pub boundary-there : (e : Encoding) (t : List ℕ) (k p : ℕ) → k ≤ length t → p ≡ start (width_in e) t k → IsScalarBoundary (width_in e) t p
boundary-there e t k p h is = ap (start (width_in e) t) (number-there e t k p h is) ∙ sym is

pub inside-there : (e : Encoding) (t : List ℕ) (k p : ℕ) → p ≡ start (width_in e) t k → p ≤ size_in e t
inside-there e t k p is = omega (arith, is, start-le (width_in e) t k)

-- a later offset has no earlier floor
pub floor-mono : (e : Encoding) (t : List ℕ) (a b : ℕ) → a ≤ b → floor e t a ≤ floor e t b
floor-mono e t a b h = down-greatest (width_in e) t b (floor e t a) (down-length (width_in e) t a) (omega (arith, start-down (width_in e) t a, h))

pub places-in-order : (e unit : Encoding) (t : List ℕ) (a b low high : ℕ) → a ≤ b → low ≡ start (width_in e) t (floor unit t a)
    → high ≡ start (width_in e) t (floor unit t b) → low ≤ high
places-in-order e unit t a b low high h is js = omega (arith, is, js, start-mono (width_in e) t (floor unit t a) (floor unit t b) (floor-mono unit t a b h))

-- what lies before an offset in its scalar is fewer units than a scalar has
passed : (e : Encoding) (t : List ℕ) (q : ℕ) → q ≤ start (width_in e) t (length t) → q - start (width_in e) t (down (width_in e) t q) < 4
passed e t q h =
    let w = width_in e in
    ⊎_elim
    (λ l. let near = down-next w t q l in omega (arith, near.1, start-suc w t (down w t q) near.0, width_most e (get_or t (down w t q) 0)))
    (λ l. omega (arith, h, l, ap (start w t) (down-end w t q l))) (cases_lt q (start w t (length t)))

-- the index of an offset in a unit, as a place of the storage
pub record Found (unit storage : Encoding) (t : List ℕ) (offset position transcoded : ℕ) : Type 0 where
  pub inside : position ≤ size_in storage t
  pub place : down (width_in storage) t position ≡ floor unit t offset
  pub begins : offset - (position - start (width_in storage) t (down (width_in storage) t position)) - transcoded ≡ start (width_in unit) t (floor unit t offset)

-- in the storage's own units
found-own : (e : Encoding) (t : List ℕ) (offset position transcoded : ℕ) → ◌≡◌ {A = Place} (position, transcoded) (start (width_in e) t 0 + offset, 0)
    → offset ≤ start (width_in e) t (length t) → Found e e t offset position transcoded
found-own e t offset position transcoded is h =
    let at : position ≡ offset = omega (arith, ap (λ p. p.0) is, start-zero (width_in e) t) in
    let none : transcoded ≡ 0 = ap (λ p. p.1) is in
    let number : down (width_in e) t position ≡ down (width_in e) t offset = ap (down (width_in e) t) at in
    let here : start (width_in e) t (down (width_in e) t position) ≡ start (width_in e) t (down (width_in e) t offset) = ap (start (width_in e) t) number in
    record {
      inside = omega (arith, at, h);
      place = number;
      begins = omega (arith, at, none, here, start-down (width_in e) t offset);
    }

-- and in those of the other encoding
found-across : (unit e : Encoding) (t : List ℕ) (offset position transcoded : ℕ)
    → ◌≡◌ {A = Place} (position, transcoded) (across (width_in e) (width_in unit) t (start (width_in unit) t 0 + offset))
    → Found unit e t offset position transcoded
found-across unit e t offset position transcoded is =
    let q = start (width_in unit) t 0 + offset in
    let same : q ≡ offset = omega (arith, start-zero (width_in unit) t) in
    let k = down (width_in unit) t q in
    let at : position ≡ start (width_in e) t k = ap (λ p. p.0) is in
    let past : transcoded ≡ q - start (width_in unit) t k = ap (λ p. p.1) is in
    let number : down (width_in e) t position ≡ k = number-there e t k position (down-length (width_in unit) t q) at in
    let here : start (width_in e) t (down (width_in e) t position) ≡ start (width_in e) t k = ap (start (width_in e) t) number in
    let floored : k ≡ floor unit t offset = ap (down (width_in unit) t) same in
    let near : start (width_in unit) t k ≡ start (width_in unit) t (floor unit t offset) = ap (start (width_in unit) t) floored in
    record {
      inside = inside-there e t k position at;
      place = number ∙ floored;
      begins = omega (arith, past, same, at, here, near, start-down (width_in unit) t q);
    }

across-few : (unit e : Encoding) (t : List ℕ) (offset : ℕ) → offset ≤ start (width_in unit) t (length t)
    → (across (width_in e) (width_in unit) t (start (width_in unit) t 0 + offset)).1 < 4
across-few unit e t offset h = passed unit t (start (width_in unit) t 0 + offset) (omega (arith, h, start-zero (width_in unit) t))

pub found-at : (unit e : Encoding) (t : List ℕ) (offset index : ℕ) → index ≡ element_index (Units unit) (all_of e t) offset → offset ≤ units unit t
    → Found unit e t offset (position_of index) (transcoded_of index)
found-at Utf8 Utf8 t offset index is h =
    let within : offset ≤ start (width_in Utf8) t (length t) = omega (arith, h, units-start Utf8 t) in
    found-own Utf8 t offset _ _ (said Utf8 t (element_place (Units Utf8) (all_of Utf8 t) offset) index _ _ (omega arith) is refl refl) within
found-at Utf16 Utf16 t offset index is h =
    let within : offset ≤ start (width_in Utf16) t (length t) = omega (arith, h, units-start Utf16 t) in
    found-own Utf16 t offset _ _ (said Utf16 t (element_place (Units Utf16) (all_of Utf16 t) offset) index _ _ (omega arith) is refl refl) within
found-at Utf8 Utf16 t offset index is h =
    let within : offset ≤ start (width_in Utf8) t (length t) = omega (arith, h, units-start Utf8 t) in
    found-across Utf8 Utf16 t offset _ _ (said Utf16 t (element_place (Units Utf8) (all_of Utf16 t) offset) index _ _ (across-few Utf8 Utf16 t offset within) is refl refl)
found-at Utf16 Utf8 t offset index is h =
    let within : offset ≤ start (width_in Utf16) t (length t) = omega (arith, h, units-start Utf16 t) in
    found-across Utf16 Utf8 t offset _ _ (said Utf8 t (element_place (Units Utf16) (all_of Utf8 t) offset) index _ _ (across-few Utf16 Utf8 t offset within) is refl refl)

-- the units that a walk from the start to a boundary passes
pub walked-units : (unit e : Encoding) (t : List ℕ) (place at reached : ℕ) → Walked (width_in e) (width_in unit) t 0 place 18446744073709551615 at reached
    → place ≤ size_in e t → size_in e t < 2 ^ 48 → reached ≡ start (width_in unit) t (down (width_in e) t place)
walked-units unit e t place at reached walked inside small =
    let all : at ≡ place = walked_end (Units unit) e t 0 place 18446744073709551615 at reached walked inside small (omega arith) in
    let none : down (width_in e) t 0 ≡ 0 = number-there e t 0 0 (omega arith) (sym (start-zero (width_in e) t)) in
    omega (arith, walked.counted, ap (start (width_in unit) t) none, start-zero (width_in unit) t, ap (λ p. start (width_in unit) t (down (width_in e) t p)) all)

-- a boundary with its offsets in both encodings
pub boundary-at : (e : Encoding) (t : List ℕ) (place utf16 utf8 : ℕ) → let k = down (width_in e) t place in IsScalarBoundary (width_in e) t place
    → utf16 ≡ start (width_in Utf16) t k → utf8 ≡ start (width_in Utf8) t k → IsBoundary e t k (record { place = place; utf16 = utf16; utf8 = utf8 })
boundary-at e t place utf16 utf8 is units bytes = record { inside = down-length (width_in e) t place; place = sym is; utf16 = units; utf8 = bytes }

-- a walk from a boundary towards an offset in UTF-16
module _ (e : Encoding) (t : List ℕ) (place before room at reached : ℕ) (walked : Walked (width_in e) len_utf16 t place (start (width_in e) t (length t)) room at reached)
    (is : before ≡ start len_utf16 t (down (width_in e) t place)) where
  -- that comes to the end before it has gone so far
  pub walked-out : at ≡ start (width_in e) t (length t) → before + reached ≡ units Utf16 t
  walked-out ends =
      let last : down (width_in e) t at ≡ length t = number-there e t (length t) at (omega arith) ends in
      omega (arith, is, walked.counted, ap (start len_utf16 t) last, units-start Utf16 t)

  -- or ends at the boundary that the offset is rounded down to
  pub walked-to : (at ≡ start (width_in e) t (length t) → room ≤ reached) → (down (width_in e) t at ≡ floor Utf16 t (before + room)) × (before + room ≤ units Utf16 t)
  walked-to far =
      let w = width_in e in
      let offset = before + room in
      let k = down w t at in
      let long = down-length w t at in
      let f = floor Utf16 t offset in
      let begins : start len_utf16 t k ≡ before + reached = omega (arith, is, walked.counted) in
      let lower : k ≤ f = down-greatest len_utf16 t offset k long (omega (arith, begins, walked.fits)) in
      let below : start len_utf16 t f ≤ offset = start-down len_utf16 t offset in
      let total = units-start Utf16 t in
      ⊎_elim
      (λ ends.
      let last : k ≡ length t = number-there e t (length t) at (omega arith) ends in
      (omega (arith, lower, last, down-length len_utf16 t offset), omega (arith, begins, far ends, walked.fits, total, ap (start len_utf16 t) last)))
      (λ inner.
      let next : offset < start len_utf16 t (suc k) = omega (arith, is, inner.1) in (
        ⊎_elim (λ (more : k < f). absurd (omega (arith, next, below, start-mono len_utf16 t (suc k) f (omega (arith, more))))) (λ (h : f ≤ k). omega (arith, lower, h)) (cases_lt k f),
        omega (arith, next, total, start-le len_utf16 t (suc k)),
      )) walked.last

-- the part from the first scalar to the end is the text
pub whole-part : (t : List ℕ) → part t 0 (length t) ≡ t
whole-part t = take_all (length t - 0) t (omega arith)
