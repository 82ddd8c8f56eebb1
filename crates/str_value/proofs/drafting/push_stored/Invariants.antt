use Rattle.std.proofs.Common.{◌≡◌, ◌≤◌, ◌+◌, ◌-◌, ◌++◌, take, drop}
use Rattle.text_spec.specs.Text.{utf8}
use Rattle.str_value.proofs.drafting.push_stored.Given as goal

abbrev pub invariant-words : goal.invariant-words
invariant-words l = record {
  kept : l.value ≡ l.fn.value;
  some : l.left ≤ l.count;
  here : l.at ≡ l.from + (l.count - l.left);
  bytes : l.writer ≡ record l.fn.writer { bytes = l.fn.writer.bytes ++ take (l.count - l.left) (drop l.from (utf8 l.fn.value.text)) };
}

abbrev pub decreases-words : goal.decreases-words
decreases-words l = l.left
