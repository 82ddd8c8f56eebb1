use Rattle.std.proofs.Common.{[]}
use Rattle.slot_edits.specs.Parts.{nothing_of}
use Rattle.slot_tests.proofs.Holding.{copied-held}
use Rattle.slot_tests.proofs.text_edits.readied.Goals as goal

pub returns-in-Copied-clause-held : goal.returns-in-Copied-clause-held
returns-in-Copied-clause-held c =
    let told = c.reserve-reference.ensures.copied c.in-Copied.object c.in-Copied.is in
    copied-held c.args.pass.now.heap c.args.text.reference c.reserve-reference.result.0 (nothing_of c.args.text.count) [] c.reserve-reference.result.0.slot
    c.in-Copied.object c.count-count.result c.ascii-ascii.result c.requires.held.same_heap told.2 c.count-count.ensures c.ascii-ascii.ensures told.1
