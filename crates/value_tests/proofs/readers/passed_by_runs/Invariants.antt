use Rattle.std.proofs.Common.{◌≡◌, ◌-◌, ◌≤◌}
use Rattle.text_spec.specs.Offsets.{start, down}
use Rattle.text_spec.specs.Views.{width_in, size_in}
use Rattle.value_tests.proofs.readers.passed_by_runs.Given as goal

abbrev pub invariant-scalars : goal.invariant-scalars
invariant-scalars g l =
    let e = (g.T.Text.part l.fn.t).storage in
    let b = (g.T.Text.part l.fn.t).whole in
    record {
      same : l.t ≡ l.fn.t;
      end : l.end ≡ size_in e b;
      within : l.at ≤ l.end;
      boundary : start (width_in e) b (down (width_in e) b l.at) ≡ l.at;
    }

abbrev pub decreases-scalars : goal.decreases-scalars
decreases-scalars g l = l.end - l.at
