use Rattle.std.proofs.Common.{◌≡◌, ℕ, List, ◌+◌, ◌-◌, ◌*◌, ◌<◌, ◌≤◌, ◌++◌, length}
use Rattle.crumbs.specs.Counting.{crumbs_below}
use Rattle.crumbs.proofs.listing.write_due.Given as goal

-- the breadcrumbs below `next` are written, of which at most two are new
abbrev pub invariant-due : goal.invariant-due
invariant-due g l =
    let b = (g.T.Text.part l.fn.t).whole in
    let n = g.T.Text.STRIDE in
    record {
      written : (front : List ℕ) → l.fn.draft.written ≡ front ++ crumbs_below b n l.number → l.draft ≡ record l.fn.draft { written = front ++ crumbs_below b n l.next };
      heap : l.draft.heap ≡ l.fn.draft.heap;
      longer : length l.draft.written + l.number ≡ length l.fn.draft.written + l.next;
      onward : l.number ≤ l.next;
      few : l.next ≤ l.number + 2;
      last : 0 < l.next → (l.next - 1) * n < l.stop;
      ahead : l.reached + (l.next - l.number) ≤ l.next * n;
    }

abbrev pub decreases-due : goal.decreases-due
decreases-due g l = l.stop - l.next * g.T.Text.STRIDE
