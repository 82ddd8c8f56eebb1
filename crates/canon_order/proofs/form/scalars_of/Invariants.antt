use Rattle.std.proofs.Common.{◌≡◌, ◌+◌, ◌-◌, ◌*◌, ◌≤◌}
use Rattle.text_spec.specs.Offsets.{start, down}
use Rattle.text_spec.specs.Views.{width_in, part}
use Rattle.canon_order.proofs.form.scalars_of.Given as goal

-- the scalars so far are collected, at two words each
abbrev pub invariant-scalars : goal.invariant-scalars
invariant-scalars g l =
    let w = width_in (g.T.Text.part l.fn.t).storage in
    let b = (g.T.Text.part l.fn.t).whole in
    let first = (g.T.Text.part l.fn.t).first in
    record {
      same : l.t ≡ l.fn.t;
      items : l.scalars.items ≡ part b first (down w b l.at);
      boundary : start w b (down w b l.at) ≡ l.at;
      order : first ≤ down w b l.at;
      within : l.at ≤ l.high;
      cost : l.steps + 2 * first ≤ l.fn.steps + 2 * down w b l.at;
    }

abbrev pub decreases-scalars : goal.decreases-scalars
decreases-scalars g l = l.high - l.at
