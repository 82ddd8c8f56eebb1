use Rattle.std.proofs.Common.{◌≡◌, ℕ, List, ◌+◌, ◌-◌, ◌*◌, ◌<◌, ◌≤◌, ◌++◌, length}
use Rattle.word_units.specs.Counting.{units_within}
use Rattle.crumbs.specs.Counting.{Seen, crumbs_below}
use Rattle.crumbs.proofs.listing.write_word.Given as goal

-- the breadcrumbs of the units before byte j of the word are written
abbrev pub invariant-bytes : goal.invariant-bytes
invariant-bytes g l =
    let b = (g.T.Text.part l.t).whole in
    let n = g.T.Text.STRIDE in
    record {
      seen : Seen b (8 * l.k + l.j) l.passed;
      passed : l.passed ≡ l.reached + units_within l.j l.word;
      written : (front : List ℕ) → l.fn.draft.written ≡ front ++ crumbs_below b n l.number → l.draft ≡ record l.fn.draft { written = front ++ crumbs_below b n l.next };
      heap : l.draft.heap ≡ l.fn.draft.heap;
      longer : length l.draft.written + l.number ≡ length l.fn.draft.written + l.next;
      due : l.passed ≤ l.next * n;
      last : 0 < l.next → (l.next - 1) * n < l.passed;
    }
