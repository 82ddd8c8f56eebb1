-- How much a JSON value holds: one for each value in it, and one for each byte of its strings. Keys count nothing.
use Rattle.std.specs.Prelude.{ℕ, ◌+◌, suc, length}
use Rattle.serde_json.specs.Data.{Data, null, boolean, number, string, array, object, Items, no_items, item, Members, no_members, member}

abbrev mutual
  pub weight : Data → ℕ
  weight null = 1
  weight (boolean b) = 1
  weight (number n) = 1
  weight (string s) = suc (length s)
  weight (array items) = suc (items_weight items)
  weight (object members) = suc (members_weight members)

  pub items_weight : Items → ℕ
  items_weight no_items = 0
  items_weight (item value items) = weight value + items_weight items

  pub members_weight : Members → ℕ
  members_weight no_members = 0
  members_weight (member key value members) = weight value + members_weight members
