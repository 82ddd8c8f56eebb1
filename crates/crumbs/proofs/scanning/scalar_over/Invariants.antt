use Rattle.std.proofs.Common.{◌≡◌, ◌+◌, ◌-◌}
use Rattle.std.specs.Char.{len_utf8}
use Rattle.text_spec.specs.Offsets.{down}
use Rattle.crumbs.specs.Searching.{words_begun}
use Rattle.crumbs.proofs.Scans.{Walked}
use Rattle.crumbs.proofs.scanning.scalar_over.Given as goal

-- the scalars so far end before the limit or at it, and each word that one of them begins in is read once
abbrev pub invariant-words : goal.invariant-words
invariant-words g l =
    let b = (g.T.Text.part l.fn.t).whole in
    let first = down len_utf8 b l.from in
    record {
      same : l.t ≡ l.fn.t;
      walked : Walked b l.limit first l.at l.reached;
      cost : l.steps ≡ l.fn.steps + words_begun b first (down len_utf8 b l.at);
    }

abbrev pub decreases-words : goal.decreases-words
decreases-words g l = l.count - l.at
