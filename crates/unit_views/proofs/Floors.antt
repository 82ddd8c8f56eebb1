-- What an index is rounded down to is an element.
use Rattle.std.proofs.Common.{◌≡◌, refl, sym, ap, subst, Some, ◌∙◌, ℕ, suc, ◌+◌, ◌<◌, ◌≤◌, ◌^◌, ◌==◌, ◌&&◌, ◌⊎◌, inl, inr, ⊎_elim, Bool, true, false, cond, nat_lt, List, length, get_or, arith}
use Rattle.std.proofs.lemmas.Bool.{and_parts, ltb-true, eqb-true}
use Rattle.text_spec.specs.declared.encoding.Encoding.{Encoding}
use Rattle.text_spec.specs.declared.encoding.Encoding.TheVariants.{Utf8, Utf16}
use Rattle.text_spec.specs.Offsets.{start, down}
use Rattle.text_spec.specs.Rounding.{Place, kept_offset, other_floor}
use Rattle.text_spec.specs.Views.{width_in, other_width}
use Rattle.text_spec.proofs.Downward.{down-length, down-greatest, start-down}
use Rattle.text_spec.proofs.Walk.{start-mono, start-suc}
use Rattle.text_spec.proofs.Widths.{width_some}
use Rattle.index_words.specs.Fields.{position_of, transcoded_of}
use Rattle.std.specs.Option.{option_map}
use Rattle.word_units.specs.Parts.{part_of, all_of}
use Rattle.rounding.specs.Resolving.{Bounds, resolved, IsResolved, index_place, index_at, is_boundary}
use Rattle.rounding.proofs.Ascii.{start-ascii, down-ascii, width_one, other_one}
use Rattle.rounding.proofs.Places.{marked_place}
use Rattle.unit_views.specs.declared.kind.ElementKind.{ElementKind}
use Rattle.unit_views.specs.declared.kind.ElementKind.TheVariants.{Scalars, Units}
use Rattle.unit_views.specs.Elements.{is_own, view_width, floor_of, offset_of, element_offset}
use Rattle.unit_views.specs.Spots.{IsSpot, spot_offset}
use Rattle.unit_views.proofs.Between.{down-mono, down-strict, number-start, boundary-start}
use Rattle.unit_views.proofs.Spotted.{across_spot, own_spot}

cond_zero : (told : Bool) (x : ℕ) → (cond told x 0 ≡ 0) ⊎ ((told ≡ true) × (cond told x 0 ≡ x))
cond_zero true x = inr (refl, refl)
cond_zero false x = inl refl

-- a transcoded offset that is kept is one of the scalar at the place
kept_cases : (w o : ℕ → ℕ) (b : List ℕ) (high : ℕ) (i : Place)
    → (kept_offset w o b high i ≡ 0) ⊎ ((i.0 < high) × (start w b (down w b (i.0)) ≡ i.0) × (kept_offset w o b high i < o (get_or b (down w b (i.0)) 0)))
kept_cases w o b high i =
    let k = down w b (i.0) in
    ⊎_elim (λ e. inl e)
    (λ e.
    let parts = and_parts _ _ e.0 in
    let inner = and_parts _ _ parts.1 in
    inr (ltb-true _ _ inner.0, eqb-true _ _ parts.0, omega (arith, e.1, ltb-true _ _ inner.1)))
    (cond_zero ((start w b k == i.0) && (nat_lt (i.0) high && nat_lt (i.1) (o (get_or b k 0)))) (i.1))

module _ (e : Encoding) (b : List ℕ) (first end index : ℕ) (order : first ≤ end) (inside : end ≤ length b) (small : start (width_in e) b end < 2 ^ 48) (met : IsResolved (part_of e b first end) index) where
  boundary_spot : (view : ElementKind) (past : ℕ) → is_own view e ≡ false
      → (past ≡ 0) ⊎ ((position_of index < start (width_in e) b end) × (start (width_in e) b (down (width_in e) b (position_of index)) ≡ position_of index)
      × (past < view_width view (get_or b (down (width_in e) b (position_of index)) 0)))
      → IsSpot view (part_of e b first end) (start (width_in e) b (down (width_in e) b (position_of index))) past
  boundary_spot view past other kept =
      let w = width_in e in
      let v = view_width view in
      let p = position_of index in
      let k = down w b p in
      let at = start w b k in
      let long = down-length w b p in
      let low = start-down w b p in
      let same : down w b at ≡ k = number-start e b k long in
      let after : first ≤ k = down-greatest w b p first (omega (arith, order, inside)) met.not_below in
      across_spot view e b first end order inside small at past other (boundary-start e b k long) (start-mono w b first k after) (omega (arith, low, met.not_above))
      (⊎_elim (λ none. inl none)
      (λ h.
      let before : k < end = omega (arith, down-strict w b p (start w b end) h.1 (boundary-start e b end inside) h.0, number-start e b end inside) in
      let inner : start v b k + past < start v b (suc k) = omega (arith, h.2, start-suc v b k (omega (arith, before, inside))) in
      inr (omega (arith, h.0, low), omega (arith, inner, ap (start v b) same, ap (λ n. start v b (suc n)) same)))
      kept)

  other_spot : (encoding : Encoding) → other_width e ≡ width_in encoding → is_own (Units encoding) e ≡ false
      → IsSpot (Units encoding) (part_of e b first end) ((other_floor (width_in e) (other_width e) b (start (width_in e) b end) (index_place index)).0)
      ((other_floor (width_in e) (other_width e) b (start (width_in e) b end) (index_place index)).1)
  other_spot encoding same other =
      let w = width_in e in
      let i = index_place index in
      boundary_spot (Units encoding) (kept_offset w (other_width e) b (start w b end) i) other
      (⊎_elim (λ none. inl none) (λ h. inr (h.0, h.1, omega (arith, h.2, ap (λ f. f (get_or b (down w b (position_of index)) 0)) same)))
      (kept_cases w (other_width e) b (start w b end) i))

pub floor-spot : (view : ElementKind) (e : Encoding) (b : List ℕ) (first end index : ℕ) → first ≤ end → end ≤ length b → start (width_in e) b end < 2 ^ 48 → IsResolved (part_of e b first end) index
    → IsSpot view (part_of e b first end) ((floor_of view (part_of e b first end) (index_place index)).0) ((floor_of view (part_of e b first end) (index_place index)).1)
floor-spot Scalars e b first end index order inside small met = boundary_spot e b first end index order inside small met Scalars 0 refl (inl refl)
floor-spot (Units Utf8) Utf8 b first end index order inside small met = own_spot (Units Utf8) Utf8 b first end order inside small (position_of index) refl met.not_below met.not_above
floor-spot (Units Utf8) Utf16 b first end index order inside small met = other_spot Utf16 b first end index order inside small met Utf8 refl refl
floor-spot (Units Utf16) Utf8 b first end index order inside small met = other_spot Utf8 b first end index order inside small met Utf16 refl refl
floor-spot (Units Utf16) Utf16 b first end index order inside small met = own_spot (Units Utf16) Utf16 b first end order inside small (position_of index) refl met.not_below met.not_above

-- the element of a resolved index, once its place is known
pub record Floored (view : ElementKind) (e : Encoding) (b : List ℕ) (first end asked at past : ℕ) : Type 0 where
  pub offset : element_offset view (part_of e b first end) asked ≡ Some (spot_offset view (part_of e b first end) at past)
  pub spot : IsSpot view (part_of e b first end) at past

pub floored : (view : ElementKind) (e : Encoding) (b : List ℕ) (first end asked index at past low high : ℕ) → Bounds (part_of e b first end) low high → resolved (part_of e b first end) asked ≡ Some (index_place index)
    → IsResolved (part_of e b first end) index → ◌≡◌ {A = Place} (at, past) (floor_of view (part_of e b first end) (index_place index)) → Floored view e b first end asked at past
floored view e b first end asked index at past low high bounds found is_resolved place =
    let order : first ≤ end = omega (arith, bounds.first_is, bounds.end_is, down-mono (width_in e) b low high bounds.order) in
    let small : start (width_in e) b end < 2 ^ 48 = omega (arith, bounds.high_is, bounds.high_small) in
    let spot : IsSpot view (part_of e b first end) at past =
    subst (λ p. IsSpot view (part_of e b first end) (p.0) (p.1)) (sym place) (floor-spot view e b first end index order bounds.end_inside small is_resolved) in
    record {
      offset = ap (option_map (λ p. offset_of view (part_of e b first end) (floor_of view (part_of e b first end) p))) found ∙ ap Some (ap (offset_of view (part_of e b first end)) (sym place) ∙ spot.offset);
      spot = spot;
    }

-- an index of a place says that place
pub said : (e : Encoding) (b : List ℕ) (place : Place) (index position transcoded : ℕ) → place.1 < 4 → index ≡ index_at (all_of e b) place → position ≡ position_of index → transcoded ≡ transcoded_of index
    → ◌≡◌ {A = Place} (position, transcoded) place
said e b place index position transcoded few is one two =
    ap (λ p. (p, transcoded)) one ∙ ap (λ x. (position_of index, x)) two ∙ ap index_place is ∙ marked_place e (place.0) (place.1) (is_boundary (all_of e b) place) few

-- in a text of ASCII each place is a boundary
pub ascii_boundary : (e : Encoding) (b : List ℕ) → ((k : ℕ) → k < length b → get_or b k 0 < 0x80) → (end at : ℕ) → end ≤ length b → at ≤ start (width_in e) b end
    → start (width_in e) b (down (width_in e) b at) ≡ at
ascii_boundary e b below end at inside high =
    let in_text : at ≤ length b = omega (arith, high, start-ascii (width_in e) (width_some e) (width_one e) b below end inside, inside) in
    ap (start (width_in e) b) (down-ascii (width_in e) (width_some e) (width_one e) b below at in_text)
    ∙ start-ascii (width_in e) (width_some e) (width_one e) b below at in_text

-- an element's, and has no part of a scalar before it
module _ (e : Encoding) (b : List ℕ) (below : (k : ℕ) → k < length b → get_or b k 0 < 0x80) (index : ℕ) (end : ℕ) (inside : end ≤ length b) (high : position_of index ≤ start (width_in e) b end) where
  in_text : position_of index ≤ length b
  in_text = omega (arith, high, start-ascii (width_in e) (width_some e) (width_one e) b below end inside, inside)

  boundary-ascii : start (width_in e) b (down (width_in e) b (position_of index)) ≡ position_of index
  boundary-ascii = ascii_boundary e b below end (position_of index) inside high

  kept-ascii : kept_offset (width_in e) (other_width e) b (start (width_in e) b end) (index_place index) ≡ 0
  kept-ascii =
      ⊎_elim (λ none. none)
      (λ h.
      let number = down-ascii (width_in e) (width_some e) (width_one e) b below (position_of index) in_text in
      let k = down (width_in e) b (position_of index) in
      let ends = start-ascii (width_in e) (width_some e) (width_one e) b below end inside in
      let before : k < length b = omega (arith, number, h.0, ends, inside) in
      omega (arith, h.2, other_one e (get_or b k 0) (below k before)))
      (kept_cases (width_in e) (other_width e) b (start (width_in e) b end) (index_place index))

  other-ascii : ◌≡◌ {A = Place} (position_of index, 0) (other_floor (width_in e) (other_width e) b (start (width_in e) b end) (index_place index))
  other-ascii = ap (λ p. (p, 0)) (sym boundary-ascii) ∙ ap (λ x. (start (width_in e) b (down (width_in e) b (position_of index)), x)) (sym kept-ascii)

pub floor-ascii : (view : ElementKind) (e : Encoding) (b : List ℕ) → ((k : ℕ) → k < length b → get_or b k 0 < 0x80) → (first index end : ℕ) → end ≤ length b → position_of index ≤ start (width_in e) b end
    → ◌≡◌ {A = Place} (position_of index, 0) (floor_of view (part_of e b first end) (index_place index))
floor-ascii Scalars e b below first index end inside high = ap (λ p. (p, 0)) (sym (boundary-ascii e b below index end inside high))
floor-ascii (Units Utf8) Utf8 b below first index end inside high = refl
floor-ascii (Units Utf8) Utf16 b below first index end inside high = other-ascii Utf16 b below index end inside high
floor-ascii (Units Utf16) Utf8 b below first index end inside high = other-ascii Utf8 b below index end inside high
floor-ascii (Units Utf16) Utf16 b below first index end inside high = refl
