use Rattle.std.proofs.Common.{◌≡◌, ◌++◌, drop, codes}
use Rattle.query_lines.specs.Replies.{op_replies_text, op_reply_text, separated}
use Rattle.query_lines.proofs.write.put_op_replies.Given as goal

-- what was written, then what is left to write, is the whole list's text
abbrev pub invariant-loop-reply : goal.invariant-loop-reply
invariant-loop-reply l = l.out.items ++ (separated op_reply_text l.later (drop l.reply-index l.replies) ++ codes "]") ≡ l.fn.out.items ++ op_replies_text l.replies
