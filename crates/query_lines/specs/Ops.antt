-- The rows of ops: which JSON objects are an op.
use Rattle.std.specs.Prelude.{ℕ, ◌==◌, List, if◌then◌else◌, codes, Option, Some, None, option_and_then, option_map}
use Rattle.std.specs.Str.{bytes_eq}
use Rattle.serde_json.specs.Data.{Data, Members}
use Rattle.serde_json.specs.Find.{as_str, as_bool, as_object}
use Rattle.query_lines.specs.Objects.{key_count, has_key, number_in, both, pair_in, under}
use Rattle.query_lines.specs.declared.op.Op.{Op}
use Rattle.query_lines.specs.declared.op.Op.TheVariants as op
use Rattle.query_lines.specs.declared.op.View.{View}
use Rattle.query_lines.specs.declared.op.View.TheVariants as view

-- the view of a name
abbrev pub view_named : List ℕ → Option View
view_named name = if bytes_eq name (codes "scalars") then Some view.Scalars
    else if bytes_eq name (codes "utf8") then Some view.Utf8
    else if bytes_eq name (codes "utf16") then Some view.Utf16
    else if bytes_eq name (codes "characters") then Some view.Characters
    else None

-- the object's one key is "utf8", over a number
abbrev pub utf8_in : Data → Option ℕ
utf8_in value = option_and_then (λ members. if key_count members == 1 then under number_in (codes "utf8") members else None) (as_object value)

-- a view, by its name
abbrev pub view_in : Data → Option View
view_in value = option_and_then view_named (as_str value)

-- the whole text is asked for by `true` alone
abbrev pub whole_in : Data → Option Op
whole_in value = option_and_then (λ b. if b then Some op.All else None) (as_bool value)

abbrev pub slice_in : Data → Option Op
slice_in value = option_map (λ (range : ℕ × ℕ). op.Slice range.0 range.1) (pair_in number_in value)

-- an op with one key
abbrev pub one_key_op : Members → Option Op
one_key_op members =
    if has_key (codes "at") members then option_map op.At (under number_in (codes "at") members)
    else if has_key (codes "place") members then option_map op.Place (under utf8_in (codes "place") members)
    else if has_key (codes "slice") members then under slice_in (codes "slice") members
    else if has_key (codes "count") members then option_map op.Count (under view_in (codes "count") members)
    else under whole_in (codes "text") members

-- an op with two keys: the range that goes, and the text that comes
abbrev pub edit_in : Members → Option Op
edit_in members = both (λ (range : ℕ × ℕ) with. op.Edit range.0 range.1 with) (under (pair_in number_in) (codes "edit") members) (under as_str (codes "with") members)

-- the op of a JSON value
abbrev pub op_in : Data → Option Op
op_in value = option_and_then (λ members.
    if key_count members == 1 then one_key_op members
    else if key_count members == 2 then edit_in members
    else None) (as_object value)
