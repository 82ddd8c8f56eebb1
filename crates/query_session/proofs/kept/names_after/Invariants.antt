use Rattle.std.proofs.Common.{◌≡◌, ◌+◌, ◌≤◌, take}
use Rattle.std.specs.FinMap as finite
use Rattle.query_session.specs.Kept.{with_keeps}
use Rattle.query_session.specs.Values.{texts_of}
use Rattle.query_session.proofs.kept.names_after.Given as goal

-- the names after the first of the jobs are counted, at most one for each
abbrev pub invariant-loop-index : goal.invariant-loop-index
invariant-loop-index l = (l.count ≡ finite.len (with_keeps (texts_of l.names) (take l.index l.jobs))) × (l.count ≤ 256 + l.index)
