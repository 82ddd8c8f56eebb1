-- What one scalar more, or a word of ASCII, does to a walk.
use Rattle.std.proofs.Common.{◌≡◌, ℕ, zero, suc, ◌+◌, ◌*◌, ◌<◌, ◌≤◌, ⊎_elim, List, [], ◌∷◌, arith}
use Rattle.std.proofs.lemmas.Bool.{cases_lt}
use Rattle.text_spec.specs.declared.encoding.Encoding.{Encoding}
use Rattle.text_spec.specs.Offsets.{start, down}
use Rattle.text_spec.specs.Views.{width_in, other_width}
use Rattle.text_spec.proofs.Walk.{start-mono}
use Rattle.text_spec.proofs.Widths.{width_some, other_most}
use Rattle.word_units.specs.Running.{PassesRun}
use Rattle.word_units.specs.Parts.{part_of}
use Rattle.rounding.specs.Resolving.{Reaches}

-- a scalar has at most four units of one encoding for each of the other
pub other_bound : (e : Encoding) (b : List ℕ) (k : ℕ) → start (other_width e) b k ≤ 4 * start (width_in e) b k
other_bound e [] k = omega arith
other_bound e (c ∷ b) zero = omega arith
other_bound e (c ∷ b) (suc k) = omega (arith, other_bound e b k, width_some e c, other_most e c)

-- a boundary before another is that of an earlier scalar
pub earlier : (w : ℕ → ℕ) (b : List ℕ) (at to : ℕ) → start w b (down w b at) ≡ at → start w b (down w b to) ≡ to → at < to → down w b at < down w b to
earlier w b at to here there before =
    ⊎_elim (λ h. h) (λ (h : down w b to ≤ down w b at). absurd (omega (arith, here, there, before, start-mono w b (down w b to) (down w b at) h)))
    (cases_lt (down w b at) (down w b to))

-- the boundary behind what is passed, which isn't after the end of the walk
pub record Stepped (e : Encoding) (b : List ℕ) (first end at to next units scalars : ℕ) : Type 0 where
  pub reaches : Reaches (part_of e b first end) next units
  pub within : next ≤ to
  pub before : down (width_in e) b at + 1 ≤ down (width_in e) b to
  pub number : down (width_in e) b next ≡ down (width_in e) b at + scalars
  pub some : 1 ≤ scalars
  pub few : units ≤ 4 * next

pub stepped : (e : Encoding) (b : List ℕ) (first end at units to most next more scalars : ℕ) → Reaches (part_of e b first end) at units → PassesRun (part_of e b first end) at most next more scalars
    → at + most ≤ to → at < to → start (width_in e) b (down (width_in e) b to) ≡ to → Stepped e b first end at to next (units + more) scalars
stepped e b first end at units to most next more scalars reached passes fits before there =
    let w = width_in e in
    let first = earlier w b at to reached.boundary there before in
    let offset : start (other_width e) b (down w b next) ≡ units + more = omega (arith, passes.other, reached.offset) in
    record {
      reaches = record { boundary = passes.boundary; offset = offset };
      within = ⊎_elim (λ one. omega (arith, passes.boundary, there, start-mono w b (down w b next) (down w b to) (omega (arith, passes.number, one, first)))) (λ run. omega (arith, run.3, fits)) passes.size;
      before = omega (arith, first);
      number = passes.number;
      some = ⊎_elim (λ one. omega (arith, one)) (λ run. omega (arith, run.0)) passes.size;
      few = omega (arith, offset, passes.boundary, other_bound e b (down w b next));
    }
