-- What names stand for: a finite map from names, as UTF-8 bytes, to texts, as lists of scalars. Each name has a text of its own.
use Rattle.std.specs.Prelude.{ℕ, List, Bool, ◌||◌, Option, nat_lt}
use Rattle.std.specs.Ordering.{nat_cmp}
use Rattle.std.specs.Cmp.Lexicographic.{slice_cmp}
use Rattle.std.specs.FinMap as finite

abbrev pub State : Type 0
State = finite.FinMap (slice_cmp nat_cmp) (List ℕ)

-- the text of a name, if it is in use
abbrev pub text_of : State → List ℕ → Option (List ℕ)
text_of state name = finite.get state name

-- whether a name is in use
abbrev pub is_in_use : State → List ℕ → Bool
is_in_use state name = finite.contains_key state name

-- how many names may be in use
abbrev pub name_limit : ℕ
name_limit = 256

-- whether a text may be stored under the name: it is in use, or one name more may be
abbrev pub has_room : State → List ℕ → Bool
has_room state name = is_in_use state name || nat_lt (finite.len state) name_limit

-- the state in which the name has the text, and every other name what it had
abbrev pub store : State → List ℕ → List ℕ → State
store state name text = finite.insert state name text

-- the state in which the name isn't in use, and every other name has the text that it had
abbrev pub forget : State → List ℕ → State
forget state name = finite.remove state name
