-- What an edit makes of a text. Places are numbers of scalars.
use Rattle.std.specs.Prelude.{ℕ, List, ◌++◌, take, drop}

-- the first i scalars, then `with`, then the scalars from number j on
abbrev pub replaced : List ℕ → ℕ → ℕ → List ℕ → List ℕ
replaced text i j with = take i text ++ (with ++ drop j text)
