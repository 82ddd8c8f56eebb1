use Rattle.std.proofs.Common.{◌≡◌, ◌++◌, drop, codes, false}
use Rattle.query_lines.specs.Replies.{op_replies_text, separated}
use Rattle.query_lines.proofs.write.put_jobs.Given as goal

-- what was written, then what is left to write, is the whole list's text
abbrev pub invariant-loop-replies : goal.invariant-loop-replies
invariant-loop-replies l = l.out.items ++ (separated op_replies_text l.later (drop l.replies-index l.jobs) ++ codes "]}") ≡ l.fn.out.items ++ (codes "{\"jobs\":[" ++ (separated op_replies_text false l.jobs ++ codes "]}"))
