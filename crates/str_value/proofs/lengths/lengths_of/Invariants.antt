use Rattle.std.proofs.Common.{◌≡◌, ◌≤◌, ◌-◌, length, take, count_by}
use Rattle.str_value.specs.Leading.{starts_scalar, starts_pair}
use Rattle.str_value.proofs.lengths.lengths_of.Given as goal

-- the blocks before `at` are counted
abbrev pub invariant-pieces : goal.invariant-pieces
invariant-pieces l =
    record {
      inside : l.at ≤ length l.bytes;
      scalars : l.scalars ≡ count_by starts_scalar (take l.at l.bytes);
      pairs : l.pairs ≡ count_by starts_pair (take l.at l.bytes);
      few : l.scalars ≤ l.at;
      fewer : l.pairs ≤ l.at;
    }

abbrev pub decreases-pieces : goal.decreases-pieces
decreases-pieces l = length l.bytes - l.at
