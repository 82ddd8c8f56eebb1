use Rattle.std.proofs.Common.{arith}
use Rattle.slot_edits.proofs.Writes.{wrote-then}
use Rattle.slot_edits.proofs.Words.{down-then}
use Rattle.slot_edits.proofs.rewriting.rewrite_downward.Goals as goal

pub returns-clause-rewrites : goal.returns-clause-rewrites
returns-clause-rewrites g c =
    let m = c.first_moved-middle.ensures.within in
    down-then c.args.reference.now.known c.move_downward.new.reference.known c.mixed_downward-2.new.reference.known c.args.with.now c.args.part c.args.from c.first_moved-middle.result c.args.to
    c.requires.part.order c.requires.part.inside m.0 m.1 c.requires.behind c.move_downward.ensures.rewrites c.mixed_downward-2.ensures.rewrites

pub returns-clause-wrote : goal.returns-clause-wrote
returns-clause-wrote g c =
    let m = c.first_moved-middle.ensures.within in
    wrote-then _ _ _ _ _ _ (omega (arith, m.0, m.1)) c.move_downward.ensures.wrote c.mixed_downward-2.ensures.wrote
