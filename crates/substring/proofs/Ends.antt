-- The ends of a slice, as the numbers of the scalars that begin there.
use Rattle.std.proofs.Common.{◌≡◌, refl, sym, ap, subst, ◌∙◌, ℕ, ◌≤◌, List, length, Option, Some, None}
use Rattle.std.specs.Option.{option_map, unwrap_or}
use Rattle.text_spec.specs.Offsets.{start, down}
use Rattle.text_spec.specs.Rounding.{Place}
use Rattle.text_spec.specs.Views.{width_in, part}
use Rattle.text_spec.proofs.Downward.{down-length}
use Rattle.text_spec.proofs.Walk.{down-start}
use Rattle.text_spec.proofs.Widths.{width_some}
use Rattle.rounding.specs.Resolving.{resolved}
use Rattle.word_units.specs.Parts.{IsBoundaryIn, all_of}
use Rattle.str_value.specs.Meaning.{Meaning, storage_of, own_part}
use Rattle.str_value.proofs.Between.{start-boundary}
use Rattle.substring.specs.Slice.{IsSlice, text_of}
use Rattle.rounding.specs.Refusals.{boundary_of, scalar_of}

-- the boundary of an index is where a scalar begins, or the text ends
pub record IsEnd (base : Meaning) (index place : ℕ) : Type 0 where
  pub number : ℕ
  pub inside : number ≤ length (base.text)
  pub is : place ≡ start (width_in (storage_of (base.row))) (base.text) number
  pub scalar : scalar_of (own_part base) index ≡ Some number

from-place : (w : ℕ → ℕ) (t : List ℕ) (r : Option Place) (place : ℕ) → option_map (λ p. start w t (down w t (p.0))) r ≡ Some place
    → (number : ℕ) × (number ≤ length t) × (place ≡ start w t number) × (option_map (λ p. down w t (p.0)) r ≡ Some number)
from-place w t None place found = absurd cc
from-place w t (Some p) place found = (down w t (p.0), down-length w t (p.0), ap (λ o. unwrap_or o 0) (sym found), refl)

pub end-of : (base : Meaning) (index place : ℕ) → boundary_of (own_part base) index ≡ Some place → IsEnd base index place
end-of base index place found =
    let told = from-place (width_in (storage_of (base.row))) (base.text) (resolved (own_part base) index) place found in
    record { number = told.0; inside = told.1; is = told.2; scalar = told.3 }

-- two boundaries in order are the ends of a slice, by any value with this text in the same storage
pub is-slice : (base copy : Meaning) (a b low high : ℕ) → copy.text ≡ base.text → storage_of (copy.row) ≡ storage_of (base.row)
    → boundary_of (own_part base) a ≡ Some low → boundary_of (own_part base) b ≡ Some high → low ≤ high → IsSlice (record { base = copy; low = low; high = high })
is-slice base copy a b low high text storage first second order =
    let from = end-of base a low first in
    let to = end-of base b high second in
    let at : (place : ℕ) → IsBoundaryIn (own_part base) place → IsBoundaryIn (own_part copy) place = λ place is.
    subst (λ e. IsBoundaryIn (all_of e (copy.text)) place) (sym storage) (subst (λ t. IsBoundaryIn (all_of (storage_of (base.row)) t) place) (sym text) is) in
    record {
      low = at low (start-boundary (storage_of (base.row)) (base.text) from.number low from.inside from.is);
      high = at high (start-boundary (storage_of (base.row)) (base.text) to.number high to.inside to.is);
      order = order;
    }

-- and its text is that of the scalars from the one number to the other
number-at : (base : Meaning) (index place k : ℕ) → boundary_of (own_part base) index ≡ Some place → scalar_of (own_part base) index ≡ Some k
    → down (width_in (storage_of (base.row))) (base.text) place ≡ k
number-at base index place k found scalar =
    let width = width_in (storage_of (base.row)) in
    let told = end-of base index place found in
    ap (down width (base.text)) told.is ∙ down-start width (width_some (storage_of (base.row))) (base.text) told.number told.inside
    ∙ ap (λ o. unwrap_or o 0) (sym told.scalar ∙ scalar)

pub slice-text : (base copy : Meaning) (a b low high i j : ℕ) → copy.text ≡ base.text → storage_of (copy.row) ≡ storage_of (base.row)
    → boundary_of (own_part base) a ≡ Some low → boundary_of (own_part base) b ≡ Some high → scalar_of (own_part base) a ≡ Some i → scalar_of (own_part base) b ≡ Some j
    → text_of (record { base = copy; low = low; high = high }) ≡ part (base.text) i j
slice-text base copy a b low high i j text storage first second from to =
    let width = width_in (storage_of (base.row)) in
    ap (λ e. part (copy.text) (down (width_in e) (copy.text) low) (down (width_in e) (copy.text) high)) storage
    ∙ ap (λ t. part t (down width t low) (down width t high)) text
    ∙ ap (λ n. part (base.text) n (down width (base.text) high)) (number-at base a low i first from)
    ∙ ap (λ n. part (base.text) i n) (number-at base b high j second to)
