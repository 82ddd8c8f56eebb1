use Rattle.std.proofs.Common.{arith}
use Rattle.utf16_view.proofs.Starting.{offset_found}
use Rattle.utf16_view.proofs.from_crumbs.offset_from_crumb.Goals as goal

pub returns-clause-offset : goal.returns-clause-offset
returns-clause-offset g c =
    let all = c.crumbs_known-known.ensures.all c.requires.known in
    offset_found (g.T.Text.part c.args.t.now).storage (g.T.Text.part c.args.t.now).whole (g.T.Text.part c.args.t.now).first (g.T.Text.part c.args.t.now).end _ _ c.args.i c.offset_of_index.result
    c.bounds-low.ensures (c.crumbs_known-known.ensures.storage c.requires.known) all.0 all.1 c.requires.own (omega arith) c.offset_of_index.ensures.offset
