-- Scalar boundaries and the numbers of the scalars that begin there.
use Rattle.std.proofs.Common.{◌≡◌, sym, ap, ◌∙◌, ℕ, suc, ◌-◌, ◌<◌, ◌≤◌, ⊎_elim, List, length, arith}
use Rattle.std.proofs.lemmas.Bool.{cases_lt}
use Rattle.text_spec.specs.declared.encoding.Encoding.{Encoding}
use Rattle.text_spec.specs.Offsets.{start, down}
use Rattle.text_spec.specs.Views.{width_in}
use Rattle.text_spec.proofs.Downward.{down-length, start-down, down-greatest}
use Rattle.text_spec.proofs.Walk.{start-mono, start-strict, down-start}
use Rattle.text_spec.proofs.Widths.{width_some}
use Rattle.rounding.specs.Resolving.{Bounds}
use Rattle.word_units.specs.Walking.{Passes}
use Rattle.word_units.specs.Parts.{part_of}

pub down-mono : (w : ℕ → ℕ) (t : List ℕ) (p q : ℕ) → p ≤ q → down w t p ≤ down w t q
down-mono w t p q h = down-greatest w t q (down w t p) (down-length w t p) (omega (arith, start-down w t p))

-- a boundary before another one has a smaller number
pub down-strict : (w : ℕ → ℕ) (t : List ℕ) (p q : ℕ) → start w t (down w t p) ≡ p → start w t (down w t q) ≡ q → p < q → down w t p < down w t q
down-strict w t p q at_p at_q h =
    ⊎_elim (λ l. l) (λ g. absurd (omega (arith, at_p, at_q, h, start-mono w t (down w t q) (down w t p) g))) (cases_lt (down w t p) (down w t q))

-- the next boundary isn't past a later one
pub next_within : (e : Encoding) (b : List ℕ) (first end at next units to : ℕ) → Passes (part_of e b first end) at next units → start (width_in e) b (down (width_in e) b at) ≡ at
    → start (width_in e) b (down (width_in e) b to) ≡ to → at < to → next ≤ to
next_within e b first end at next units to p is at_to h =
    let w = width_in e in
    let below = down-strict w b at to is at_to h in
    omega (arith, p.boundary, at_to, start-mono w b (down w b next) (down w b to) (omega (arith, p.number, below)))

-- the number of the scalar that begins where scalar k does is k, and the place is a boundary
pub number-start : (e : Encoding) (b : List ℕ) (k : ℕ) → k ≤ length b → down (width_in e) b (start (width_in e) b k) ≡ k
number-start e b k h = down-start (width_in e) (width_some e) b k h

pub boundary-start : (e : Encoding) (b : List ℕ) (k : ℕ) → k ≤ length b
    → start (width_in e) b (down (width_in e) b (start (width_in e) b k)) ≡ start (width_in e) b k
boundary-start e b k h = ap (start (width_in e) b) (number-start e b k h)

-- the boundary before another one
pub record Previous (e : Encoding) (b : List ℕ) (at q : ℕ) : Type 0 where
  pub number : suc (down (width_in e) b q) ≡ down (width_in e) b at
  pub boundary : start (width_in e) b (down (width_in e) b q) ≡ q
  pub before : q < at

pub previous : (e : Encoding) (b : List ℕ) (at q : ℕ) → start (width_in e) b (down (width_in e) b at) ≡ at → 0 < at
    → q ≡ start (width_in e) b (down (width_in e) b (at - 1)) → Previous e b at q
previous e b at q is some here =
    let w = width_in e in
    let j = down w b (at - 1) in
    let k = down w b at in
    let inside = down-length w b at in
    let low = start-down w b (at - 1) in
    let same : down w b q ≡ j = ap (down w b) here ∙ down-start w (width_some e) b j (down-length w b (at - 1)) in
    let below : j < k = ⊎_elim (λ l. l) (λ g. absurd (omega (arith, is, low, some, start-mono w b k j g))) (cases_lt j k) in
    let next : k ≤ suc j = ⊎_elim
    (λ far. absurd (let early = start-strict w (width_some e) b (suc j) k far inside in
    let most : suc j ≤ j = down-greatest w b (at - 1) (suc j) (omega (arith, far, inside)) (omega (arith, early, is)) in omega (arith, most)))
    (λ h. h) (cases_lt (suc j) k) in
    record {
      number = omega (arith, same, below, next);
      boundary = ap (start w b) same ∙ sym here;
      before = omega (arith, here, low, some);
    }

-- isn't before an earlier one
pub previous_within : (e : Encoding) (b : List ℕ) (at q to : ℕ) → Previous e b at q → start (width_in e) b (down (width_in e) b at) ≡ at
    → start (width_in e) b (down (width_in e) b to) ≡ to → to < at → to ≤ q
previous_within e b at q to p is at_to h =
    let w = width_in e in
    let below = down-strict w b to at at_to is h in
    omega (arith, p.boundary, at_to, start-mono w b (down w b to) (down w b q) (omega (arith, p.number, below)))

-- the bounds of a text are in order, by their numbers too
pub order_of : (e : Encoding) (b : List ℕ) (first end low high : ℕ) → Bounds (part_of e b first end) low high → first ≤ end
order_of e b first end low high is = omega (arith, is.first_is, is.end_is, down-mono (width_in e) b low high is.order)
