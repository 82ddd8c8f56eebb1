-- What is needed to name the code of what contracts see of a value: it is the same for each lifetime.
use denote.Ref.{NamedLft}
use mir.Syntax.{named}
use Rattle.std.specs.Prelude.{[]}

abbrev pub no_lifetime : NamedLft
no_lifetime = record { mir = named 1; lft = [] }
