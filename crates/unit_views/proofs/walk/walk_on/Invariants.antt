use Rattle.std.proofs.Common.{◌≡◌, ◌+◌, ◌-◌, ◌*◌, ◌≤◌}
use Rattle.text_spec.specs.Offsets.{start, down}
use Rattle.text_spec.specs.Views.{width_in}
use Rattle.unit_views.specs.Elements.{view_width}
use Rattle.unit_views.proofs.walk.walk_on.Given as goal

-- the elements so far are counted, at two words at most for each scalar, and for each element
abbrev pub invariant-elements : goal.invariant-elements
invariant-elements g l =
    let w = width_in (g.T.Text.part l.fn.t).storage in
    let v = view_width l.view in
    let b = (g.T.Text.part l.fn.t).whole in
    record {
      same : l.t ≡ l.fn.t;
      after : l.from ≤ l.at;
      within : l.at ≤ l.to;
      boundary : start w b (down w b l.at) ≡ l.at;
      counted : start v b (down w b l.from) + l.reached ≡ start v b (down w b l.at);
      fits : l.reached ≤ l.room;
      pass : l.steps + 2 * down w b l.from ≤ l.fn.steps + 2 * down w b l.at;
      near : l.steps ≤ l.fn.steps + 2 * l.reached;
    }

abbrev pub decreases-elements : goal.decreases-elements
decreases-elements g l = l.to - l.at
