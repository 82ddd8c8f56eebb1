-- The elements of a text that is a part of another, read in the other.
use Rattle.std.proofs.Common.{◌≡◌, refl, sym, ap, ◌∙◌, ℕ, suc, ◌+◌, ◌-◌, ◌<◌, ◌≤◌, ◌^◌, true, false, List, ◌++◌, length, take, get_or, arith}
use Rattle.std.proofs.lemmas.Str.{encodes-append}
use Rattle.std.proofs.lemmas.Grind.{flat_map-append}
use Rattle.std.specs.Char.Escape.{encode_utf16}
use Rattle.text_spec.specs.declared.encoding.Encoding.{Encoding}
use Rattle.text_spec.specs.declared.encoding.Encoding.TheVariants.{Utf8, Utf16}
use Rattle.text_spec.specs.Offsets.{start, down}
use Rattle.text_spec.specs.Views.{width_in, part}
use Rattle.text_spec.proofs.Bytes.{byte-covers, length-utf8}
use Rattle.text_spec.proofs.Downward.{down-greatest}
use Rattle.text_spec.proofs.Lengths.{start-utf8, start-utf16}
use Rattle.text_spec.proofs.Units.{unit-covers, length-utf16}
use Rattle.text_spec.proofs.Walk.{start-le, start-mono, start-suc, down-unique}
use Rattle.word_units.specs.Parts.{part_of}
use Rattle.unit_views.specs.declared.kind.ElementKind.TheVariants.{Scalars, Units}
use Rattle.unit_views.specs.Elements.{is_own, view_width, elements, units_of_text, units_of_scalar}
use Rattle.unit_views.specs.Spots.{IsSpot, spot_offset}
use Rattle.unit_views.proofs.Between.{down-strict, number-start, boundary-start}
use Rattle.unit_views.proofs.Parts.{part-scalar, part-unit}
use Rattle.unit_views.proofs.Moves.{offset_across, offset_own_spot}
use Rattle.unit_views.proofs.Widths.{own_width, start-ones}

units-append : (encoding : Encoding) (xs ys : List ℕ) → units_of_text encoding (xs ++ ys) ≡ units_of_text encoding xs ++ units_of_text encoding ys
units-append Utf8 xs ys = encodes-append xs ys
units-append Utf16 xs ys = flat_map-append encode_utf16 xs ys

units-long : (encoding : Encoding) (t : List ℕ) (k : ℕ) → start (width_in encoding) t k ≡ length (units_of_text encoding (take k t))
units-long Utf8 t k = start-utf8 t k
units-long Utf16 t k = start-utf16 t k

-- unit p of a text is one of the scalar that covers p
units-cover : (encoding : Encoding) (t : List ℕ) (p : ℕ) → p < start (width_in encoding) t (length t)
    → get_or (units_of_text encoding t) p 0 ≡ get_or (units_of_scalar encoding (get_or t (down (width_in encoding) t p) 0)) (p - start (width_in encoding) t (down (width_in encoding) t p)) 0
units-cover Utf8 t p h = byte-covers t p (omega (arith, h, length-utf8 t))
units-cover Utf16 t p h = unit-covers t p (omega (arith, h, length-utf16 t))

module _ (encoding e : Encoding) (b : List ℕ) (first end at past : ℕ) (order : first ≤ end) (inside : end ≤ length b) (small : start (width_in e) b end < 2 ^ 48)
    (spot : IsSpot (Units encoding) (part_of e b first end) at past) (before : at < start (width_in e) b end) where
  -- how many units the scalar at the place has
  pub past_inside : is_own (Units encoding) e ≡ false → past < width_in encoding (get_or b (down (width_in e) b at) 0)
  past_inside other =
      let w = width_in e in
      let k = down w b at in
      let less : k < end = omega (arith, down-strict w b at (start w b end) (spot.boundary other) (boundary-start e b end inside) before, number-start e b end inside) in
      omega (arith, spot.within other before, start-suc (width_in encoding) b k (omega (arith, less, inside)))

  pub unit_across : is_own (Units encoding) e ≡ false
      → get_or (units_of_scalar encoding (get_or b (down (width_in e) b at) 0)) past 0
      ≡ get_or (elements (Units encoding) (part b first end)) (spot_offset (Units encoding) (part_of e b first end) at past) 0
  unit_across other =
      let w = width_in e in
      let v = width_in encoding in
      let k = down w b at in
      let p = start v b k + past in
      let less : k < end = omega (arith, down-strict w b at (start w b end) (spot.boundary other) (boundary-start e b end inside) before, number-start e b end inside) in
      let next = start-suc v b k (omega (arith, less, inside)) in
      let number : down v b p ≡ k = down-unique v b p k (omega (arith, less, inside)) (omega arith) (spot.within other before) in
      let offset = offset_across (Units encoding) e b first end order inside small at past other spot in
      let counted = spot.is_before before in
      let below : p < start v b end = omega (arith, spot.within other before, start-mono v b (suc k) end less) in
      let rest : p - start v b k ≡ past = omega arith in
      let o : p - start v b first ≡ spot_offset (Units encoding) (part_of e b first end) at past = omega (arith, offset) in
      sym (ap (λ n. get_or (units_of_text encoding (part b first end)) n 0) (sym o)
      ∙ part-unit (units_of_text encoding) (units-append encoding) v (units-long encoding) b first end p order (omega (arith, offset)) below
      ∙ units-cover encoding b p (omega (arith, below, start-le v b end))
      ∙ ap (λ n. get_or (units_of_scalar encoding (get_or b n 0)) (p - start v b n) 0) number
      ∙ ap (λ n. get_or (units_of_scalar encoding (get_or b k 0)) n 0) rest)

  pub unit_own : encoding ≡ e → is_own (Units encoding) e ≡ true
      → get_or (units_of_text encoding b) at 0 ≡ get_or (elements (Units encoding) (part b first end)) (spot_offset (Units encoding) (part_of e b first end) at past) 0
  unit_own same own =
      let v = width_in encoding in
      let widths : v ≡ width_in e = own_width (Units encoding) e own in
      let low : start v b first ≤ at = omega (arith, spot.low, ap (λ f. start f b first) widths) in
      let high : at < start v b end = omega (arith, before, ap (λ f. start f b end) widths) in
      let offset = offset_own_spot (Units encoding) e b first end order inside small at past own spot in
      let o : at - start v b first ≡ spot_offset (Units encoding) (part_of e b first end) at past = omega (arith, offset, ap (λ f. start f b first) widths) in
      sym (ap (λ n. get_or (units_of_text encoding (part b first end)) n 0) (sym o)
      ∙ part-unit (units_of_text encoding) (units-append encoding) v (units-long encoding) b first end at order low high)

-- the scalar at a place
pub scalar_here : (e : Encoding) (b : List ℕ) (first end at past : ℕ) → first ≤ end → end ≤ length b → start (width_in e) b end < 2 ^ 48
    → IsSpot Scalars (part_of e b first end) at past → at < start (width_in e) b end
    → get_or b (down (width_in e) b at) 0 ≡ get_or (elements Scalars (part b first end)) (spot_offset Scalars (part_of e b first end) at past) 0
scalar_here e b first end at past order inside small spot before =
    let w = width_in e in
    let k = down w b at in
    let less : k < end = omega (arith, down-strict w b at (start w b end) (spot.boundary refl) (boundary-start e b end inside) before, number-start e b end inside) in
    let after : first ≤ k = down-greatest w b at first (omega (arith, order, inside)) spot.low in
    let offset = offset_across Scalars e b first end order inside small at past refl spot in
    let inner : start (view_width Scalars) b k + past < start (view_width Scalars) b (suc k) = spot.within refl before in
    let o : spot_offset Scalars (part_of e b first end) at past ≡ k - first =
    omega (arith, offset, inner, start-ones b k (omega (arith, less, inside)), start-ones b (suc k) (omega (arith, less, inside)), start-ones b first (omega (arith, order, inside))) in
    sym (ap (λ n. get_or (part b first end) n 0) o ∙ part-scalar b first end k after less)
