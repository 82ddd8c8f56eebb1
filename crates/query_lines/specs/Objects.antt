-- What stands under the keys of a JSON object, and the items of a JSON list.
use Rattle.std.specs.Prelude.{ℕ, ◌+◌, List, [], ◌∷◌, ◌&&◌, nat_lt, nat_le, length, Bool, is_some, if◌then◌else◌, Option, Some, None, option_and_then, option_map}
use Rattle.std.specs.Str.{is_utf8}
use Rattle.serde_json.specs.Data.{Data, Members, no_members, member, Items, no_items, item}
use Rattle.serde_json.specs.Find.{get_member, as_str, as_number, as_u64, as_array}
use Rattle.serde_json.specs.Read.{read}

-- the JSON value of a line, where the line is UTF-8 and JSON
abbrev pub value_of_line : List ℕ → Option Data
value_of_line line = if is_utf8 line then read line else None

-- how many keys an object has: each stands once
abbrev pub key_count : Members → ℕ
key_count no_members = 0
key_count (member key value members) = key_count members + 1

-- how many items a list has
abbrev pub item_count : Items → ℕ
item_count no_items = 0
item_count (item value items) = item_count items + 1

-- a string of 1 to 64 bytes
abbrev pub name_in : Data → Option (List ℕ)
name_in value = option_and_then (λ s. if nat_lt 0 (length s) && nat_le (length s) 64 then Some s else None) (as_str value)

-- a whole number below 2^64, written without point, exponent or sign
abbrev pub number_in : Data → Option ℕ
number_in value = option_and_then as_u64 (as_number value)

-- a number below the bound
abbrev pub number_below : ℕ → Data → Option ℕ
number_below bound value = option_and_then (λ n. if nat_lt n bound then Some n else None) (number_in value)

-- a and b under f, where both are there
abbrev pub both : {A B C : Type 0} → (A → B → C) → Option A → Option B → Option C
both f a b = option_and_then (λ x. option_map (f x) b) a

-- the list with each item read by f, where f reads them all
abbrev pub each_item : {A : Type 0} → (Data → Option A) → Items → Option (List A)
each_item f no_items = Some []
each_item f (item value items) = both (λ x xs. x ∷ xs) (f value) (each_item f items)

-- a list, each item read by f
abbrev pub list_in : {A : Type 0} → (Data → Option A) → Data → Option (List A)
list_in f value = option_and_then (each_item f) (as_array value)

-- the two items of a list of two
abbrev pub two_items : Items → Option (Data × Data)
two_items no_items = None
two_items (item a no_items) = None
two_items (item a (item b no_items)) = Some (a, b)
two_items (item a (item b (item c items))) = None

-- a list of two items, each read by f
abbrev pub pair_in : {A : Type 0} → (Data → Option A) → Data → Option (A × A)
pair_in f value = option_and_then (λ (items : Data × Data). both (λ x y. (x, y)) (f items.0) (f items.1)) (option_and_then two_items (as_array value))

-- the value under the key, read by f
abbrev pub under : {A : Type 0} → (Data → Option A) → List ℕ → Members → Option A
under f key members = option_and_then f (get_member key members)

-- the object has the key
abbrev pub has_key : List ℕ → Members → Bool
has_key key members = is_some (get_member key members)
