use Rattle.std.proofs.Common.{◌≡◌, ◌++◌, drop, option_map}
use Rattle.serde_json.specs.View.{items_view}
use Rattle.query_lines.specs.Objects.{each_item, number_below}
use Rattle.query_lines.proofs.lists.each_byte.Given as goal

-- what was read, then what is left to read, is the whole list as it is read
abbrev pub invariant-loop-item : goal.invariant-loop-item
invariant-loop-item l = option_map (λ rest. l.bytes.items ++ rest) (each_item (number_below 256) (items_view (drop l.item-index l.items))) ≡ each_item (number_below 256) (items_view l.items)
