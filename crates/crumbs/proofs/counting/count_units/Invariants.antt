use Rattle.std.proofs.Common.{◌≡◌, ◌+◌, ◌*◌, ◌≤◌}
use Rattle.crumbs.specs.Counting.{Seen}
use Rattle.crumbs.proofs.Seeing.{place_of_word}
use Rattle.crumbs.proofs.counting.count_units.Given as goal

-- the units before word k are counted, and each word before it is read
abbrev pub invariant-words : goal.invariant-words
invariant-words g l =
    record {
      same : l.t ≡ l.fn.t;
      seen : Seen (g.T.Text.part l.fn.t).whole (place_of_word l.count l.k) l.reached;
      few : l.reached ≤ 16 * l.k;
      cost : l.steps ≡ l.fn.steps + l.k;
    }
