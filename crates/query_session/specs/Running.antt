-- What holds of a session between two commands.
use Rattle.std.specs.Prelude.{◌≡◌, ℕ, ◌≤◌, Bool, false}
use Rattle.slot_table.specs.Owners.{PassSeen}
use Rattle.query_session.specs.Literals.{default_literals}
use Rattle.query_session.specs.Values.{Values, IsSound, HasEnough}

-- how many workers may do the jobs of a batch
abbrev pub worker_limit : ℕ
worker_limit = 8

-- There are workers, and the heap has the literals that a load may name. Where no step found no memory, values and pass go on together
-- and have enough credits
pub record IsRunning (workers : ℕ) (failed : Bool) (m : Values) (p : PassSeen) : Type 0 where
  pub some : 1 ≤ workers
  pub few : workers ≤ worker_limit
  pub literals : p.heap.literals ≡ default_literals
  pub sound : failed ≡ false → IsSound m p
  pub enough : failed ≡ false → HasEnough m p
