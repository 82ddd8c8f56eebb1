use Rattle.std.proofs.Common.{sym, ◌∙◌}
use Rattle.query_lines.proofs.Objects.{key_count-members_view}
use Rattle.query_lines.proofs.values.keys.Goals as goal

pub returns : goal.returns
returns c = c.len.ensures.len ∙ sym (key_count-members_view c.args.members.now.entries)
