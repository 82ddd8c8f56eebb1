-- The values that a map under texts holds.
use Rattle.std.specs.Prelude.{ℕ, List, map, String, string_bytes}
use Rattle.std.specs.declared.alloc.Global.{Global}
use Rattle.std.specs.FinMap as finite
use Rattle.str_value.specs.Meaning.{Meaning}
use Rattle.query_session.specs.Values.{Values}

-- an entry as the bytes of its name and its value
abbrev pub value_entry : String Global × Meaning → List ℕ × Meaning
value_entry e = (string_bytes e.0, e.1)

abbrev pub held : List (String Global × Meaning) → Values
held entries = finite.from_entries (map value_entry entries)
