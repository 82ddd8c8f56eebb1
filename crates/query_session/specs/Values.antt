-- The values that names stand for, the texts that these show, and what holds of them and a pass between two commands.
use Rattle.std.specs.Prelude.{ℕ, ◌+◌, ◌*◌, ◌≤◌, List, map, Option, Some, None}
use Rattle.std.specs.Option.{IfSome}
use Rattle.std.specs.Ordering.{nat_cmp}
use Rattle.std.specs.Cmp.Lexicographic.{slice_cmp}
use Rattle.std.specs.FinMap as finite
use Rattle.slot_table.specs.Owners.{PassSeen}
use Rattle.slot_accounts.specs.Account.{sum_of}
use Rattle.str_value.specs.Meaning.{Meaning, OfHeap, credit_of}
use Rattle.query_session.specs.State.{State, name_limit}

-- the value of each name in use
abbrev pub Values : Type 0
Values = finite.FinMap (slice_cmp nat_cmp) Meaning

-- the texts of the values: the state
abbrev pub text_entry : List ℕ × Meaning → List ℕ × List ℕ
text_entry e = (e.0, e.1.text)

abbrev pub texts_of : Values → State
texts_of m = finite.from_sorted (map text_entry (finite.entries m))

-- the credits that a value holds, and that all of them hold
abbrev pub credit_in : Meaning → ℕ
credit_in s = credit_of s.place

abbrev pub credits_in : Values → ℕ
credits_in m = sum_of credit_in (finite.values m)

-- the credits of a value, if there is one
abbrev pub weight : Option Meaning → ℕ
weight None = 0
weight (Some s) = credit_in s

-- each value belongs to the heap of the pass
abbrev pub AllOfHeap : PassSeen → Values → Type 0
AllOfHeap p m = (name : List ℕ) → IfSome (finite.get m name) (λ (s : Meaning). OfHeap p s.place)

-- the values belong to the heap of the pass, and no more names are in use than may be
pub record IsSound (m : Values) (p : PassSeen) : Type 0 where
  pub heap : AllOfHeap p m
  pub few : finite.len m ≤ name_limit

-- how many jobs a batch has at most
abbrev pub job_limit : ℕ
job_limit = 64

-- The credits that a session needs: one for each value, for each job one for its copy and one as the stake of its share, and one as the
-- stake of the pass
abbrev pub credits_needed : ℕ
credits_needed = name_limit + 2 * job_limit + 1

-- the pass and the values have them together, so there are enough for any batch
abbrev pub HasEnough : Values → PassSeen → Type 0
HasEnough m p = credits_needed ≤ p.credits + credits_in m
