use Rattle.std.proofs.Common.{◌≡◌, take}
use Rattle.query_session.specs.State.{is_in_use}
use Rattle.query_session.specs.Kept.{with_keeps}
use Rattle.query_session.specs.Values.{texts_of}
use Rattle.query_session.proofs.kept.is_in_use_after.Given as goal

-- whether the name is in use after the first of the jobs
abbrev pub invariant-loop-job : goal.invariant-loop-job
invariant-loop-job l = l.found ≡ is_in_use (with_keeps (texts_of l.names) (take l.job-index l.jobs)) l.name
