use Rattle.std.proofs.Common.{◌≡◌, ◌≤◌, take, count_by}
use Rattle.str_value.specs.Leading.{starts_scalar, starts_pair}
use Rattle.str_value.proofs.lengths.begun.Given as goal

-- the front is counted
abbrev pub invariant-loop-byte : goal.invariant-loop-byte
invariant-loop-byte l =
    (l.scalars ≡ count_by starts_scalar (take l.byte-index l.bytes)) × (l.pairs ≡ count_by starts_pair (take l.byte-index l.bytes))
    × (l.scalars ≤ l.byte-index) × (l.pairs ≤ l.byte-index)
