-- What holds of the session of a run between two lines.
use Rattle.std.specs.Prelude.{◌≡◌, ◌+◌, false}
use Rattle.query_session.specs.Session.{Shown}
use Rattle.query_session.specs.Values.{credits_in}

-- memory was never wanting, and no credit of the heap is lost: the pass has those that the values don't hold
pub record IsWhole (s : Shown) : Type 0 where
  pub failed : s.failed ≡ false
  pub credits : s.pass.credits + credits_in s.values ≡ s.pass.heap.layout.credits
