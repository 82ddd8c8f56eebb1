-- Values kept under names, in order: a later one wins, and one without a name is left out. V is what a name stands for.
use Rattle.std.specs.Prelude.{ℕ, List, map, fold, Bool, false, not, Option, Some, None}
use Rattle.std.specs.Ordering.{nat_cmp, eq_by_cmp}
use Rattle.std.specs.Cmp.Lexicographic.{slice_cmp}
use Rattle.std.specs.FinMap as finite

-- what names stand for
abbrev pub Named : Type 0 → Type 0
Named V = finite.FinMap (slice_cmp nat_cmp) V

-- a value under its name, if it has one
abbrev pub under : {V : Type 0} → Named V → Option (List ℕ) → V → Named V
under m None v = m
under m (Some name) v = finite.insert m name v

abbrev pub keep_one : {V : Type 0} → Named V → Option (List ℕ) × V → Named V
keep_one m p = under m p.0 p.1

-- each value under its name, in order
abbrev pub kept : {V : Type 0} → Named V → List (Option (List ℕ) × V) → Named V
kept m pairs = fold keep_one m pairs

-- the names of values, where they have one
abbrev pub names_of : {V : Type 0} → List (Option (List ℕ) × V) → List (Option (List ℕ))
names_of pairs = map (λ p. p.0) pairs

-- whether a value is under the name
abbrev pub names_one : List ℕ → Option (List ℕ) → Bool
names_one q None = false
names_one q (Some name) = eq_by_cmp (slice_cmp nat_cmp) q name

-- whether a name is one that isn't in use
abbrev pub is_new : {V : Type 0} → Named V → Option (List ℕ) → Bool
is_new m None = false
is_new m (Some name) = not (finite.contains_key m name)

-- a name with the value that it had before, or not in use again
abbrev pub given_back : {V : Type 0} → Named V → List ℕ → Option V → Named V
given_back m name None = finite.remove m name
given_back m name (Some v) = finite.insert m name v
