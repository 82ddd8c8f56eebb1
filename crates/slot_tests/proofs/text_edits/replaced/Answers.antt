use Rattle.slot_tests.proofs.Holding.{written-held, copied-held}
use Rattle.slot_tests.proofs.text_edits.replaced.Goals as goal

pub returns-in-InPlace-clause-held : goal.returns-in-InPlace-clause-held
returns-in-InPlace-clause-held c =
    let told = c.replace-reference.ensures.in_place c.in-InPlace.object c.in-InPlace.is in
    written-held c.args.pass.now.heap c.args.text.reference c.replace-reference.result.0 (record { low = c.args.low; high = c.args.high; count = c.args.text.count })
    c.args.with.now c.args.text.reference.slot c.in-InPlace.object c.count-count.result c.ascii-ascii.result c.requires.held.same_heap told.1
    c.count-count.ensures c.ascii-ascii.ensures told.0

pub returns-in-Copied-clause-held : goal.returns-in-Copied-clause-held
returns-in-Copied-clause-held c =
    let told = c.replace-reference.ensures.copied c.in-Copied.object c.in-Copied.is in
    copied-held c.args.pass.now.heap c.args.text.reference c.replace-reference.result.0 (record { low = c.args.low; high = c.args.high; count = c.args.text.count })
    c.args.with.now c.replace-reference.result.0.slot c.in-Copied.object c.count-count-in-Copied.result c.ascii-ascii-in-Copied.result c.requires.held.same_heap told.2
    c.count-count-in-Copied.ensures c.ascii-ascii-in-Copied.ensures told.1
