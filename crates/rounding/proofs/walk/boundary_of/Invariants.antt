use Rattle.std.proofs.Common.{◌≡◌, ◌+◌, ◌-◌, ◌*◌, ◌≤◌}
use Rattle.text_spec.specs.Offsets.{down}
use Rattle.text_spec.specs.Views.{width_in}
use Rattle.rounding.specs.Resolving.{Reaches}
use Rattle.rounding.proofs.walk.boundary_of.Given as goal

-- the scalars so far are passed
abbrev pub invariant-scalars : goal.invariant-scalars
invariant-scalars g l = record {
  reaches : Reaches (g.T.Text.part l.fn.t) l.at l.reached;
  ahead : l.from ≤ l.at;
  not_after : l.at ≤ l.to;
  same : l.t ≡ l.fn.t;
  before : l.reached ≤ l.offset;
  cost : l.steps + 2 * down (width_in (g.T.Text.part l.fn.t).storage) (g.T.Text.part l.fn.t).whole l.from ≤ l.fn.steps + 2 * down (width_in (g.T.Text.part l.fn.t).storage) (g.T.Text.part l.fn.t).whole l.at;
}

abbrev pub decreases-scalars : goal.decreases-scalars
decreases-scalars g l = l.to - l.at
