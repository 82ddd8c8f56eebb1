use Rattle.std.proofs.Common.{arith}
use Rattle.slot_edits.proofs.Writes.{wrote-then}
use Rattle.slot_edits.proofs.Words.{up-then}
use Rattle.slot_edits.proofs.rewriting.rewrite_upward.Goals as goal

pub returns-then-middle-to-clause-rewrites : goal.returns-then-middle-to-clause-rewrites
returns-then-middle-to-clause-rewrites g c =
    let m = c.first_moved-middle.ensures.within in
    up-then c.args.reference.now.known c.mixed_upward.new.reference.known c.move_upward.new.reference.known c.args.with.now c.args.part c.args.from c.first_moved-middle.result c.args.to
    c.requires.part.order c.requires.part.inside m.0 m.1 c.requires.ahead c.mixed_upward.ensures.rewrites c.move_upward.ensures.rewrites

pub returns-then-middle-to-clause-wrote : goal.returns-then-middle-to-clause-wrote
returns-then-middle-to-clause-wrote g c =
    let m = c.first_moved-middle.ensures.within in
    wrote-then _ _ _ _ _ _ (omega (arith, m.0, m.1)) c.mixed_upward.ensures.wrote c.move_upward.ensures.wrote
