-- From one element to another.
use Rattle.std.proofs.Common.{◌≡◌, refl, ap, ◌∙◌, ℕ, ◌+◌, ◌-◌, ◌<◌, ◌≤◌, ◌^◌, inl, inr, ⊎_elim, true, false, List, length, arith}
use Rattle.std.proofs.lemmas.Bool.{cases_lt, cond-true, cond-false}
use Rattle.text_spec.specs.declared.encoding.Encoding.{Encoding}
use Rattle.text_spec.specs.Offsets.{start, down}
use Rattle.text_spec.specs.Views.{width_in}
use Rattle.text_spec.proofs.Downward.{down-greatest}
use Rattle.text_spec.proofs.Walk.{start-mono}
use Rattle.word_units.specs.Parts.{part_of, all_of}
use Rattle.unit_views.specs.declared.kind.ElementKind.{ElementKind}
use Rattle.rounding.specs.Resolving.{index_at}
use Rattle.unit_views.specs.Elements.{is_own, view_width, element_count, element_index}
use Rattle.unit_views.specs.Spots.{IsSpot, spot_offset, Walked, WalkedBack}
use Rattle.unit_views.proofs.Between.{down-mono, number-start, boundary-start}
use Rattle.unit_views.proofs.Spotted.{across_spot, own_spot}
use Rattle.unit_views.proofs.Widths.{own_width, count-is}

module _ (view : ElementKind) (e : Encoding) (b : List ℕ) (first end : ℕ) (order : first ≤ end) (inside : end ≤ length b) (small : start (width_in e) b end < 2 ^ 48) where
  -- ---- where the elements aren't the storage's code units
  pub offset_across : (at past : ℕ) → is_own view e ≡ false → IsSpot view (part_of e b first end) at past
      → start (view_width view) b first + spot_offset view (part_of e b first end) at past ≡ start (view_width view) b (down (width_in e) b at) + past
  offset_across at past other spot =
      let elements = cond-false (is_own view e) at (start (view_width view) b (down (width_in e) b at) + past) other in
      omega (arith, elements, spot.not_below)

  module _ (other : is_own view e ≡ false) (from past high room at reached n : ℕ) (spot : IsSpot view (part_of e b first end) from past) (is_high : high ≡ start (width_in e) b end)
      (walked : Walked (width_in e) (view_width view) b from high room at reached) (is_room : room ≡ past + n) where
    pub ahead_spot : (at ≡ high → room - reached ≡ 0)
        → IsSpot view (part_of e b first end) at (room - reached) × (spot_offset view (part_of e b first end) at (room - reached) ≡ spot_offset view (part_of e b first end) from past + n)
    ahead_spot ends =
        let v = view_width view in
        let here = across_spot view e b first end order inside small at (room - reached) other walked.boundary (omega (arith, spot.low, walked.after)) (omega (arith, walked.within, is_high))
        (⊎_elim (λ is. inl (ends is)) (λ h. inr (omega (arith, h.0, is_high), omega (arith, h.1, walked.counted, walked.fits))) walked.last) in
        (here, omega (arith, offset_across from past other spot, offset_across at (room - reached) other here, walked.counted, walked.fits, is_room))

    pub ahead_end : at ≡ high → 0 < room - reached
        → (past ≤ reached) × ((spot_offset view (part_of e b first end) from past + (reached - past) ≡ element_count view (part_of e b first end)) × (reached - past < n))
    ahead_end is more =
        let w = width_in e in
        let v = view_width view in
        let last : down w b at ≡ end = ap (down w b) (is ∙ is_high) ∙ number-start e b end inside in
        let before = offset_across from past other spot in
        let total = count-is view b first end order inside in
        let all : start v b (down w b at) ≡ start v b end = ap (start v b) last in
        let some : past ≤ reached = omega (arith, before, total, all, walked.counted, spot.counted) in
        (some, (omega (arith, before, total, all, walked.counted, some), omega (arith, is_room, more, some)))

  pub near_spot : (at past n : ℕ) → is_own view e ≡ false → IsSpot view (part_of e b first end) at past → n ≤ past
      → IsSpot view (part_of e b first end) at (past - n) × (spot_offset view (part_of e b first end) at (past - n) + n ≡ spot_offset view (part_of e b first end) at past)
  near_spot at past n other spot h =
      let here = across_spot view e b first end order inside small at (past - n) other (spot.boundary other) spot.low spot.high
      (⊎_elim (λ l. inr (l, omega (arith, spot.within other l))) (λ g. inl (omega (arith, spot.last (omega (arith, g, spot.high))))) (cases_lt at (start (width_in e) b end))) in
      (here, omega (arith, offset_across at past other spot, offset_across at (past - n) other here, h))

  module _ (other : is_own view e ≡ false) (from past low n : ℕ) (spot : IsSpot view (part_of e b first end) from past) (is_low : low ≡ start (width_in e) b first) (far : past < n) where
    pub back_spot : (at before : ℕ) → WalkedBack (width_in e) (view_width view) b from low (n - past) at before
        → IsSpot view (part_of e b first end) at before × (spot_offset view (part_of e b first end) at before + n ≡ spot_offset view (part_of e b first end) from past)
    back_spot at before walked =
        let here = across_spot view e b first end order inside small at before other walked.boundary (omega (arith, walked.within, is_low)) (omega (arith, walked.before, spot.high))
        (⊎_elim (λ none. inl none) (λ h. inr (omega (arith, h.0, spot.high), h.1)) walked.inside) in
        (here, omega (arith, offset_across from past other spot, offset_across at before other here, walked.counted, far))

    pub back_cause : let v = view_width view in let w = width_in e in
        (start v b (down w b from) < start v b (down w b low) + (n - past) → spot_offset view (part_of e b first end) from past < n)
        × (spot_offset view (part_of e b first end) from past < n → start v b (down w b from) < start v b (down w b low) + (n - past))
    back_cause =
        let w = width_in e in
        let v = view_width view in
        let lowest : start v b (down w b low) ≡ start v b first = ap (start v b) (ap (down w b) is_low ∙ number-start e b first (omega (arith, order, inside))) in
        let before = offset_across from past other spot in
        (λ h. omega (arith, h, before, lowest, far), λ h. omega (arith, h, before, lowest, far))

  -- its scalar is one of the text's, or its end
  pub spot_numbers : (at past : ℕ) → IsSpot view (part_of e b first end) at past → (first ≤ down (width_in e) b at) × (down (width_in e) b at ≤ end)
  spot_numbers at past spot =
      let w = width_in e in (
        down-greatest w b at first (omega (arith, order, inside)) spot.low,
        omega (arith, down-mono w b at (start w b end) spot.high, number-start e b end inside),
      )

  -- ---- where they are
  pub offset_own : (at : ℕ) → is_own view e ≡ true → start (width_in e) b first ≤ at → start (width_in e) b first + spot_offset view (part_of e b first end) at 0 ≡ at
  offset_own at own low =
      let elements = cond-true (is_own view e) at (start (view_width view) b (down (width_in e) b at) + 0) own in
      let firsts : start (view_width view) b first ≡ start (width_in e) b first = ap (λ f. start f b first) (own_width view e own) in
      omega (arith, elements, firsts, low)

  pub offset_own_spot : (at past : ℕ) → is_own view e ≡ true → IsSpot view (part_of e b first end) at past → start (width_in e) b first + spot_offset view (part_of e b first end) at past ≡ at
  offset_own_spot at past own spot = ap (λ x. start (width_in e) b first + spot_offset view (part_of e b first end) at x) (spot.own own) ∙ offset_own at own spot.low

  pub count_own : is_own view e ≡ true → start (width_in e) b first + element_count view (part_of e b first end) ≡ start (width_in e) b end
  count_own own =
      let same = own_width view e own in
      let firsts : start (view_width view) b first ≡ start (width_in e) b first = ap (λ f. start f b first) same in
      let ends : start (view_width view) b end ≡ start (width_in e) b end = ap (λ f. start f b end) same in
      omega (arith, firsts, ends, count-is view b first end order inside)

  pub own_moved : (at past to n : ℕ) → is_own view e ≡ true → IsSpot view (part_of e b first end) at past → start (width_in e) b first ≤ to → to ≤ start (width_in e) b end
      → IsSpot view (part_of e b first end) to 0 × ((at + n ≡ to → spot_offset view (part_of e b first end) to 0 ≡ spot_offset view (part_of e b first end) at past + n)
      × (to + n ≡ at → spot_offset view (part_of e b first end) to 0 + n ≡ spot_offset view (part_of e b first end) at past))
  own_moved at past to n own spot low high =
      let here = offset_own to own low in
      let there = offset_own_spot at past own spot in
      (own_spot view e b first end order inside small to own low high, (λ h. omega (arith, here, there, h), λ h. omega (arith, here, there, h)))

  -- ---- the boundaries of scalars
  pub edge_spot : (k : ℕ) → first ≤ k → k ≤ end
      → IsSpot view (part_of e b first end) (start (width_in e) b k) 0 × (start (view_width view) b first + spot_offset view (part_of e b first end) (start (width_in e) b k) 0 ≡ start (view_width view) b k)
  edge_spot k after before =
      let w = width_in e in
      let v = view_width view in
      let at = start w b k in
      let low = start-mono w b first k after in
      let high = start-mono w b k end before in
      let long : k ≤ length b = omega (arith, before, inside) in
      elim (is_own view e) as (λ own. is_own view e ≡ own → IsSpot view (part_of e b first end) at 0 × (start v b first + spot_offset view (part_of e b first end) at 0 ≡ start v b k)) [
        | true ↦ λ own.
            let firsts : start v b first ≡ start w b first = ap (λ f. start f b first) (own_width view e own) in
            let here : start v b k ≡ start w b k = ap (λ f. start f b k) (own_width view e own) in
            (own_spot view e b first end order inside small at own low high, omega (arith, offset_own at own low, firsts, here))
        | false ↦ λ other.
            let spot = across_spot view e b first end order inside small at 0 other (boundary-start e b k long) low high (inl refl) in
            (spot, omega (arith, offset_across at 0 other spot, ap (start v b) (number-start e b k long)))
      ] refl

  pub start_index : (index : ℕ) → index ≡ index_at (all_of e b) (start (width_in e) b first, 0) → index ≡ element_index view (part_of e b first end) 0
  start_index index is =
      let edge = edge_spot first (omega arith) order in
      is ∙ edge.0.index ∙ ap (element_index view (part_of e b first end)) {x = spot_offset view (part_of e b first end) (start (width_in e) b first) 0} {y = 0} (omega (arith, edge.1))

  pub end_index : (index : ℕ) → index ≡ index_at (all_of e b) (start (width_in e) b end, 0) → index ≡ element_index view (part_of e b first end) (element_count view (part_of e b first end))
  end_index index is =
      let edge = edge_spot end order (omega arith) in
      is ∙ edge.0.index ∙ ap (element_index view (part_of e b first end)) (edge.0.is_last refl)
