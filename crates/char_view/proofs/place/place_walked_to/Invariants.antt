use Rattle.std.proofs.Common.{◌≡◌, ◌-◌, ◌≤◌}
use Rattle.char_view.specs.Places.{IsPlace}
use Rattle.char_view.proofs.place.place_walked_to.Given as goal

abbrev pub invariant-scalars : goal.invariant-scalars
invariant-scalars g l = record {
  same : l.t ≡ l.fn.t;
  place : IsPlace (g.T.Text.part l.fn.t) l.at.offset l.at.position;
  order : l.at.offset ≤ l.offset;
}

abbrev pub decreases-scalars : goal.decreases-scalars
decreases-scalars g l = l.offset - l.at.offset
