use Rattle.std.proofs.Common.{◌≡◌, ◌≤◌, ◌+◌, ◌-◌, true, take, drop}
use Rattle.object_words.specs.Rows.{is_ascii}
use Rattle.text_spec.specs.Text.{utf8}
use Rattle.str_value.proofs.drafting.is_ascii_stored.Given as goal

abbrev pub invariant-words : goal.invariant-words
invariant-words l = record {
  kept : l.value ≡ l.fn.value;
  some : l.left ≤ l.count;
  here : l.at ≡ l.from + (l.count - l.left);
  ascii : is_ascii (take (l.count - l.left) (drop l.from (utf8 l.fn.value.text))) ≡ true;
}

abbrev pub decreases-words : goal.decreases-words
decreases-words l = l.left
