use Rattle.std.proofs.Common.{vec_len}
use Rattle.query_session.proofs.kept.+keep_rest.Given as goal

abbrev pub decreases-keep_rest : goal.decreases-keep_rest
decreases-keep_rest l = vec_len l.left.now
