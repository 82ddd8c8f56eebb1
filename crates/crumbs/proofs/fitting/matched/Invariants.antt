use Rattle.std.proofs.Common.{ℕ, ◌+◌, ◌-◌, ◌*◌, ◌<◌, ◌≤◌}
use Rattle.crumbs.specs.Fitting.{IsCrumbAt}
use Rattle.crumbs.proofs.fitting.matched.Given as goal

-- the side has the breadcrumbs below `next`, of which at most two are new
abbrev pub invariant-due : goal.invariant-due
invariant-due l =
    record {
      onward : l.number ≤ l.next;
      few : l.next ≤ l.number + 2;
      last : 0 < l.next → (l.next - 1) * l.stride < l.stop;
      ahead : l.reached + (l.next - l.number) ≤ l.next * l.stride;
      each : (j : ℕ) → l.number ≤ j → j < l.next → IsCrumbAt l.side l.stride l.at l.reached j;
    }

abbrev pub decreases-due : goal.decreases-due
decreases-due l = l.stop - l.next * l.stride
