use Rattle.query_lines.proofs.Objects.{two_items-items_view}
use Rattle.query_lines.proofs.lists.two_of.Goals as goal

pub returns-then-items-ne2 : goal.returns-then-items-ne2
returns-then-items-ne2 c = two_items-items_view _ c.if-items-ne2.true
