use Rattle.std.proofs.Common.{◌≡◌, ◌-◌, ◌≤◌}
use Rattle.char_view.specs.Walks.{IsWalk}
use Rattle.char_view.proofs.span.pass_until.Given as goal

abbrev pub invariant-characters : goal.invariant-characters
invariant-characters g l = record {
  same : l.t ≡ l.fn.t;
  walk : IsWalk (g.T.Text.part l.fn.t) l.walk;
  before : l.walk.number ≤ l.number;
}

abbrev pub decreases-characters : goal.decreases-characters
decreases-characters g l = l.number - l.walk.number
