-- the floor begins a scalar, and a boundary before the place begins no later one
use Rattle.std.proofs.Common.{ap, ◌≤◌, arith}
use Rattle.text_spec.specs.Offsets.{start, down}
use Rattle.text_spec.proofs.Downward.{down-length, start-down, down-greatest}
use Rattle.text_spec.proofs.Walk.{down-start, start-mono}
use Rattle.text_spec.proofs.laws.floor_is_greatest_boundary.Goals as goal

pub returns : goal.returns
returns c =
    record {
      boundary = λ w some t i. ap (start w t) (down-start w some t (down w t (i.0)) (down-length w t (i.0)));
      before = λ w t i. start-down w t (i.0);
      greatest = λ w t i p at before.
          let number : down w t p ≤ down w t (i.0) = down-greatest w t (i.0) (down w t p) (down-length w t p) (omega (arith, at, before)) in
          omega (arith, at, start-mono w t (down w t p) (down w t (i.0)) number);
    }
