use Rattle.std.proofs.Common.{sym, ◌∙◌}
use Rattle.object_words.proofs.Reading.{ascii-told}
use Rattle.slot_edits.specs.Words.{content_bytes}
use Rattle.slot_edits.proofs.Marks.{ascii-marked, ascii-added}
use Rattle.slot_edits.proofs.splicing.ascii_after.Goals as goal
use Rattle.slot_edits.proofs.splicing.ascii_after.Goals.{then-marked-via-then-marked, then-marked-via-else-marked+then-not-added}

-- all is ASCII before, or something is added that isn't
pub returns-then-marked-clause-ascii : goal.returns-then-marked-clause-ascii
returns-then-marked-clause-ascii g c =
    let b = content_bytes c.args.reference.now.known c.args.part.count in
    let w = c.args.with.now in
    let told = ascii-told _ _ c.is_ascii-added.ensures.cases in
    elim c.then-marked.branch [
      | then-marked-via-then-marked e ↦ told ∙ ascii-marked b w c.args.part.low c.args.part.high (sym c.requires.marked ∙ e.if-marked.true)
      | then-marked-via-else-marked+then-not-added e ↦ told ∙ ascii-added b w c.args.part.low c.args.part.high (sym told ∙ e.if-not-added.true)
    ]
