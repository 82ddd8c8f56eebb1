-- The values that jobs left, kept under the names that their lines give. m and p are the values and the pass before, n and q after.
use Rattle.std.specs.Prelude.{◌≡◌, ℕ, ◌+◌, All, List, [], map, fold, Option, string_bytes}
use Rattle.std.specs.Option.{option_map}
use Rattle.slot_model.specs.declared.event.Event.{Event}
use Rattle.slot_table.specs.Owners.{PassSeen}
use Rattle.slot_accounts.specs.Account.{Did, Keeps, sum_of}
use Rattle.slot_accounts.specs.Counts.{publishes, retains}
use Rattle.str_value.specs.Meaning.{Meaning, OfHeap}
use Rattle.query_lines.specs.declared.command.JobLine.{JobLine}
use Rattle.query_session.specs.declared.kept.Kept.{Kept}
use Rattle.query_session.specs.Keeping.{kept, under}
use Rattle.query_session.specs.State.{State}
use Rattle.query_session.specs.Values.{Values, IsSound, credits_in, credit_in}

-- a value with the bytes of its name
abbrev pub pair_of : Kept → Option (List ℕ) × Meaning
pair_of k = (option_map string_bytes k.name, k.value)

abbrev pub pairs_of : List Kept → List (Option (List ℕ) × Meaning)
pairs_of ks = map pair_of ks

-- the credits that they hold
abbrev pub credits_of : List Kept → ℕ
credits_of ks = sum_of (λ (k : Kept). credit_in k.value) ks

-- each value belongs to the heap of the pass
abbrev pub EachOfHeap : PassSeen → List Kept → Type 0
EachOfHeap p ks = All (λ (k : Kept). OfHeap p k.value.place) ks

-- All were kept, and what was replaced or has no name was given up: no event publishes, and none takes a reference
pub record AreKept (ks : List Kept) (m : Values) (p : PassSeen) (n : Values) (q : PassSeen) : Type 0 where
  pub now : n ≡ kept m (pairs_of ks)
  pub events : List Event
  pub published : sum_of publishes events ≡ 0
  pub retained : sum_of retains events ≡ 0
  pub did : Did events p q
  pub credits : Keeps p (credits_in m + credits_of ks) q (credits_in n)
  pub sound : IsSound n q

-- the names under which jobs are kept
abbrev pub keeps_of : List JobLine → List (Option (List ℕ))
keeps_of jobs = map (λ (j : JobLine). j.keep) jobs

-- what is in use once the keeps of jobs are, whatever the texts are: here the empty one
abbrev pub keep_job : State → JobLine → State
keep_job s j = under s j.keep []

abbrev pub with_keeps : State → List JobLine → State
with_keeps s jobs = fold keep_job s jobs
