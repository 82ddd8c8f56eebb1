use Rattle.std.proofs.Common.{◌≡◌, suc, ◌+◌, ◌-◌, ◌*◌, ◌<◌, ◌≤◌}
use Rattle.text_spec.specs.Offsets.{start, down}
use Rattle.text_spec.specs.Views.{width_in}
use Rattle.unit_views.specs.declared.kind.ElementKind.TheVariants.{Scalars}
use Rattle.unit_views.specs.Elements.{view_width}
use Rattle.unit_views.proofs.back.walk_back.Given as goal

-- the elements so far are counted, at four words at most for each, and two where they are scalars;
-- where there are too many, the place lies within the last scalar that was passed
abbrev pub invariant-elements : goal.invariant-elements
invariant-elements g l =
    let w = width_in (g.T.Text.part l.fn.t).storage in
    let v = view_width l.view in
    let b = (g.T.Text.part l.fn.t).whole in
    record {
      same : l.t ≡ l.fn.t;
      before : l.at ≤ l.from;
      within : l.to ≤ l.at;
      boundary : start w b (down w b l.at) ≡ l.at;
      counted : start v b (down w b l.at) + l.reached ≡ start v b (down w b l.from);
      inside : l.room < l.reached → (l.at < l.from) × (start v b (down w b l.at) + (l.reached - l.room) < start v b (suc (down w b l.at)));
      pass : l.steps + 4 * down w b l.at ≤ l.fn.steps + 4 * down w b l.from;
      cost : l.steps ≤ l.fn.steps + 4 * l.reached;
      capped : l.steps ≤ l.fn.steps + 4 * l.room;
      scalars : l.view ≡ Scalars → l.steps ≤ l.fn.steps + 2 * l.reached;
      scalars_capped : l.view ≡ Scalars → l.steps ≤ l.fn.steps + 2 * l.room;
    }

abbrev pub decreases-elements : goal.decreases-elements
decreases-elements g l = l.room - l.reached
