-- Where a scalar begins is a scalar boundary.
use Rattle.std.proofs.Common.{◌≡◌, ◌≤◌, ◌∙◌, ℕ, List, length, ap, sym}
use Rattle.text_spec.specs.declared.encoding.Encoding.{Encoding}
use Rattle.text_spec.specs.Boundaries.{IsScalarBoundary}
use Rattle.text_spec.specs.Offsets.{start, down}
use Rattle.text_spec.specs.Views.{width_in}
use Rattle.text_spec.proofs.Downward.{down-length}
use Rattle.text_spec.proofs.Walk.{down-start}
use Rattle.text_spec.proofs.Widths.{width_some}

pub start-boundary : (e : Encoding) (t : List ℕ) (k p : ℕ) → k ≤ length t → p ≡ start (width_in e) t k → IsScalarBoundary (width_in e) t p
start-boundary e t k p h is =
    ap (start (width_in e) t) (ap (down (width_in e) t) is ∙ down-start (width_in e) (width_some e) t k h) ∙ sym is

-- the boundary at a place or before it
pub down-boundary : (e : Encoding) (t : List ℕ) (place p : ℕ) → p ≡ start (width_in e) t (down (width_in e) t place)
    → IsScalarBoundary (width_in e) t p
down-boundary e t place p = start-boundary e t (down (width_in e) t place) p (down-length (width_in e) t place)
