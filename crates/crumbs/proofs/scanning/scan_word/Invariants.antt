use Rattle.std.proofs.Common.{◌-◌}
use Rattle.crumbs.proofs.Scans.{Scanning}
use Rattle.crumbs.proofs.scanning.scan_word.Given as goal

abbrev pub invariant-scalars : goal.invariant-scalars
invariant-scalars g l = Scanning (g.T.Text.part l.t).whole l.limit l.at l.begins l.reached

abbrev pub decreases-scalars : goal.decreases-scalars
decreases-scalars g l = l.stop - l.begins
