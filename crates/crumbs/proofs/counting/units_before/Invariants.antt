use Rattle.std.proofs.Common.{◌≡◌, ◌*◌, ◌≤◌}
use Rattle.word_units.specs.Counting.{units_within}
use Rattle.crumbs.proofs.counting.units_before.Given as goal

abbrev pub invariant-bytes : goal.invariant-bytes
invariant-bytes l = record { units : l.units ≡ units_within l.p l.word; few : l.units ≤ 2 * l.p }
