use Rattle.std.proofs.Common.{◌≡◌, ◌+◌, ◌-◌, ◌*◌, ◌^◌, ◌<◌, ◌≤◌, ℕ}
use Rattle.index_words.specs.Crumbs.{index16}
use Rattle.index_words.specs.Fields.{place_of}
use Rattle.crumbs.proofs.asking.last_before.Given as goal

-- the breadcrumb at `low` isn't after the index, that at `high` is, and what lies between is halved for each word read
abbrev pub invariant-halves : goal.invariant-halves
invariant-halves g l =
    let b = (g.T.Text.part l.fn.t).whole in
    let n = g.T.Text.STRIDE in
    record {
      same : l.t ≡ l.fn.t;
      apart : l.low < l.high;
      within : l.high ≤ l.last + 1;
      before : place_of (index16 b (l.low * n)) ≤ place_of l.i;
      after : l.high ≤ l.last → place_of l.i < place_of (index16 b (l.high * n));
      counted : (digits : ℕ) → 2 ^ digits ≤ l.last + 1 → (left : ℕ) × (2 ^ left ≤ l.high - l.low) × (l.fn.steps + digits ≤ l.steps + left);
      cost : (digits : ℕ) → l.last < 2 ^ digits → (left : ℕ) × (l.high - l.low ≤ 2 ^ left) × (l.steps + left ≤ l.fn.steps + digits);
    }

abbrev pub decreases-halves : goal.decreases-halves
decreases-halves g l = l.high - l.low
