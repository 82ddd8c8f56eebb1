use Rattle.std.proofs.Common.{◌≡◌, ◌≤◌, ◌<◌, ◌+◌, ◌-◌, ◌++◌}
use Rattle.text_spec.specs.Boundaries.{IsScalarBoundary}
use Rattle.text_spec.specs.Views.{width_in}
use Rattle.str_value.specs.Meaning.{storage_of, byte_place}
use Rattle.str_value.specs.Drafting.{utf8_from}
use Rattle.str_value.proofs.drafting.push_pieces.Given as goal

abbrev pub invariant-pieces : goal.invariant-pieces
invariant-pieces g l = record {
  kept : l.value ≡ l.fn.value;
  some : l.left ≤ l.count;
  boundary : IsScalarBoundary (width_in (storage_of l.fn.value.row)) l.fn.value.text l.at;
  here : 0 < l.left → byte_place l.fn.value l.at ≡ byte_place l.fn.value l.from + (l.count - l.left);
  bytes : l.writer ≡ record l.fn.writer { bytes = l.fn.writer.bytes ++ utf8_from l.fn.value l.from (l.count - l.left) };
}

abbrev pub decreases-pieces : goal.decreases-pieces
decreases-pieces g l = l.left
