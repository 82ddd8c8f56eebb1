-- Places that are elements of a view, and their offsets.
use Rattle.std.proofs.Common.{◌≡◌, refl, sym, ap, ◌∙◌, ℕ, suc, ◌+◌, ◌-◌, ◌<◌, ◌≤◌, ◌^◌, ◌⊎◌, inl, inr, ⊎_elim, true, false, List, length, get_or, arith}
use Rattle.std.proofs.lemmas.Bool.{cases_lt, cond-true, cond-false}
use Rattle.text_spec.specs.declared.encoding.Encoding.{Encoding}
use Rattle.text_spec.specs.Offsets.{start, down}
use Rattle.text_spec.specs.Rounding.{Place, across, other_offset, other_index}
use Rattle.text_spec.specs.Views.{width_in}
use Rattle.text_spec.proofs.Downward.{down-length, down-greatest}
use Rattle.text_spec.proofs.Walk.{start-mono, start-suc, start-strict, down-start, down-unique}
use Rattle.word_units.specs.Parts.{part_of, all_of}
use Rattle.rounding.specs.Resolving.{index_at}
use Rattle.unit_views.specs.declared.kind.ElementKind.{ElementKind}
use Rattle.unit_views.specs.declared.kind.ElementKind.TheVariants.{Scalars, Units}
use Rattle.unit_views.specs.Elements.{is_own, view_width, element_count, offset_of, element_place}
use Rattle.unit_views.specs.Spots.{IsSpot, elements_before, spot_offset}
use Rattle.unit_views.proofs.Between.{down-mono, down-strict, number-start, boundary-start}
use Rattle.unit_views.proofs.Widths.{view_some, view_most, own_width, other_is, start-ones, count-is}

-- what the definitions say of a place
record Placed (view : ElementKind) (e : Encoding) (b : List ℕ) (first end at past offset : ℕ) : Type 0 where
  pub offset_is : offset_of view (part_of e b first end) (at, past) ≡ offset
  pub place_is : ◌≡◌ {A = Place} (element_place view (part_of e b first end) offset) (at, past)

across_placed : (view : ElementKind) (e : Encoding) (b : List ℕ) (first end at past : ℕ) → is_own view e ≡ false
    → start (width_in e) b (down (width_in e) b at) ≡ at → first ≤ down (width_in e) b at
    → down (view_width view) b (start (view_width view) b (down (width_in e) b at) + past) ≡ down (width_in e) b at
    → (past ≡ 0) ⊎ (past < view_width view (get_or b (down (width_in e) b at) 0))
    → Placed view e b first end at past (start (view_width view) b (down (width_in e) b at) + past - start (view_width view) b first)
across_placed Scalars e b first end at past other boundary after number few =
    let w = width_in e in
    let k = down w b at in
    let inside = down-length w b at in
    let none : past ≡ 0 = ⊎_elim (λ l. l) (λ l. let one : past < 1 = l in omega arith) few in
    let offset : start (view_width Scalars) b k + past - start (view_width Scalars) b first ≡ k - first =
    omega (arith, none, start-ones b k inside, start-ones b first (omega (arith, after, inside))) in
    let place : ◌≡◌ {A = Place} (element_place Scalars (part_of e b first end) (k - first)) (at, past) =
    ap (λ n. (start w b n, 0)) {x = first + (k - first)} {y = k} (omega (arith, after)) ∙ ap (λ p. (p, 0)) boundary ∙ ap (λ n. (at, n)) (sym none) in
    record { offset_is = sym offset; place_is = ap (element_place Scalars (part_of e b first end)) offset ∙ place }
across_placed (Units encoding) e b first end at past other boundary after number few =
    let w = width_in e in
    let v = width_in encoding in
    let k = down w b at in
    let same = other_is encoding e other in
    let u = start v b k + past in
    let before = start-mono v b first k after in
    let sum : start v b first + (u - start v b first) ≡ u = omega (arith, before) in
    let rest : u - start v b k ≡ past = omega arith in
    record {
      offset_is = cond-false _ _ _ other ∙ ap (λ f. other_offset w f b first (at, past)) same ∙ omega (arith, before);
      place_is = cond-false _ _ _ other ∙ ap (λ f. other_index w f b first (u - start v b first)) same ∙ ap (across w v b) sum
          ∙ ap (λ n. (start w b n, u - start v b n)) number ∙ ap (λ p. (p, u - start v b k)) boundary ∙ ap (λ n. (at, n)) rest;
    }

own_placed : (view : ElementKind) (e : Encoding) (b : List ℕ) (first end at : ℕ) → is_own view e ≡ true → start (width_in e) b first ≤ at
    → Placed view e b first end at 0 (at - start (width_in e) b first)
own_placed Scalars e b first end at own low = absurd cc
own_placed (Units encoding) e b first end at own low = record {
  offset_is = cond-true _ _ _ own;
  place_is = cond-true _ _ _ own ∙ ap (λ p. (p, 0)) {x = start (width_in e) b first + (at - start (width_in e) b first)} {y = at} (omega (arith, low));
}

no_both : {A : Type 0} (view : ElementKind) (e : Encoding) → is_own view e ≡ true → is_own view e ≡ false → A
no_both view e own other = absurd cc

module _ (view : ElementKind) (e : Encoding) (b : List ℕ) (first end : ℕ) (order : first ≤ end) (inside : end ≤ length b) (small : start (width_in e) b end < 2 ^ 48) where
  -- the place `past` elements into a scalar
  pub across_spot : (at past : ℕ) → is_own view e ≡ false → start (width_in e) b (down (width_in e) b at) ≡ at → start (width_in e) b first ≤ at → at ≤ start (width_in e) b end
      → (past ≡ 0) ⊎ ((at < start (width_in e) b end) × (start (view_width view) b (down (width_in e) b at) + past < start (view_width view) b (suc (down (width_in e) b at))))
      → IsSpot view (part_of e b first end) at past
  across_spot at past other boundary low high few =
      let w = width_in e in
      let v = view_width view in
      let k = down w b at in
      let after : first ≤ k = down-greatest w b at first (omega (arith, order, inside)) low in
      let not_after : k ≤ end = omega (arith, down-mono w b at (start w b end) high, number-start e b end inside) in
      let all : start v b first ≤ start v b k = start-mono v b first k after in
      let before : at < start w b end → k < end = λ l. omega (arith, number-start e b end inside, down-strict w b at (start w b end) boundary (boundary-start e b end inside) l) in
      let more : at < start w b end → start v b k + past < start v b (suc k) =
      λ l. ⊎_elim (λ none. omega (arith, none, start-strict v (view_some view) b k (suc k) (omega arith) (omega (arith, before l, inside)))) (λ h. h.1) few in
      let ends : at ≡ start w b end → past ≡ 0 = λ is. ⊎_elim (λ none. none) (λ h. absurd (omega (arith, is, h.0))) few in
      let is_end : at ≡ start w b end → k ≡ end = λ is. ap (down w b) is ∙ number-start e b end inside in
      let width : at < start w b end → past < v (get_or b k 0) = λ l. omega (arith, more l, start-suc v b k (omega (arith, before l, inside))) in
      let number : down v b (start v b k + past) ≡ k =
      ⊎_elim (λ l. down-unique v b (start v b k + past) k (omega (arith, before l, inside)) (omega arith) (more l))
      (λ g. ap (down v b) {x = start v b k + past} {y = start v b k} (omega (arith, ends (omega (arith, high, g)))) ∙ down-start v (view_some view) b k (down-length w b at))
      (cases_lt at (start w b end)) in
      let placed = across_placed view e b first end at past other boundary after number
      (⊎_elim (λ l. inr (width l)) (λ g. inl (ends (omega (arith, high, g)))) (cases_lt at (start w b end))) in
      let elements : elements_before view (all_of e b) at past ≡ start v b k + past = cond-false _ _ _ other in
      let offset : spot_offset view (part_of e b first end) at past ≡ start v b k + past - start v b first = ap (λ n. n - start v b first) elements in
      let place : ◌≡◌ {A = Place} (element_place view (part_of e b first end) (spot_offset view (part_of e b first end) at past)) (at, past) = ap (element_place view (part_of e b first end)) offset ∙ placed.place_is in
      let total = count-is view b first end order inside in
      let fewer : at < start w b end → spot_offset view (part_of e b first end) at past < element_count view (part_of e b first end) =
      λ l. omega (arith, offset, total, more l, all, start-mono v b (suc k) end (before l)) in
      let same : at ≡ start w b end → spot_offset view (part_of e b first end) at past ≡ element_count view (part_of e b first end) =
      λ is. omega (arith, offset, total, ends is, ap (start v b) (is_end is)) in
      record {
        low = low;
        high = high;
        small = omega (arith, high, small);
        few = ⊎_elim (λ l. omega (arith, width l, view_most view (get_or b k 0))) (λ g. omega (arith, ends (omega (arith, high, g)))) (cases_lt at (start w b end));
        own = λ is. no_both view e is other;
        boundary = λ _. boundary;
        within = λ _. more;
        last = ends;
        not_below = omega (arith, elements, all);
        counted = ⊎_elim (λ l. omega (arith, fewer l)) (λ g. omega (arith, same (omega (arith, high, g)))) (cases_lt at (start w b end));
        is_last = same;
        is_before = fewer;
        offset = placed.offset_is ∙ sym offset;
        position = ap (λ p. p.0) place;
        index = ap (index_at (all_of e b)) (sym place);
      }

  -- a code unit of the storage
  pub own_spot : (at : ℕ) → is_own view e ≡ true → start (width_in e) b first ≤ at → at ≤ start (width_in e) b end → IsSpot view (part_of e b first end) at 0
  own_spot at own low high =
      let w = width_in e in
      let same = own_width view e own in
      let firsts : start (view_width view) b first ≡ start w b first = ap (λ f. start f b first) same in
      let ends : start (view_width view) b end ≡ start w b end = ap (λ f. start f b end) same in
      let elements : elements_before view (all_of e b) at 0 ≡ at = cond-true _ _ _ own in
      let offset : spot_offset view (part_of e b first end) at 0 ≡ at - start w b first = omega (arith, elements, firsts) in
      let placed = own_placed view e b first end at own low in
      let place : ◌≡◌ {A = Place} (element_place view (part_of e b first end) (spot_offset view (part_of e b first end) at 0)) (at, 0) = ap (element_place view (part_of e b first end)) offset ∙ placed.place_is in
      let total = count-is view b first end order inside in
      record {
        low = low;
        high = high;
        small = omega (arith, high, small);
        few = omega arith;
        own = λ _. refl;
        boundary = λ is. no_both view e own is;
        within = λ is. no_both view e own is;
        last = λ _. refl;
        not_below = omega (arith, elements, firsts, low);
        counted = omega (arith, offset, total, firsts, ends, high);
        is_last = λ is. omega (arith, offset, total, firsts, ends, is, start-mono w b first end order);
        is_before = λ l. omega (arith, offset, total, firsts, ends, l, low);
        offset = placed.offset_is ∙ sym offset;
        position = ap (λ p. p.0) place;
        index = ap (index_at (all_of e b)) (sym place);
      }
