use Rattle.std.proofs.Common.{ℕ, [], Option, IfSome, subst}
use Rattle.slot_edits.specs.declared.part.Part.{Part}
use Rattle.slot_edits.specs.Edits.{WritesCopy}
use Rattle.slot_edits.specs.Parts.{spliced}
use Rattle.slot_edits.specs.Texts.{IsObjectOf}
use Rattle.slot_tests.proofs.Holding.{copied-held}
use Rattle.slot_tests.proofs.text_edits.copied.Goals as goal

pub returns-in-Some-clause-held : goal.returns-in-Some-clause-held
returns-in-Some-clause-held c =
    let made = c.replace_copied-reference in
    let r = c.args.text.reference in
    let part : Part = record { low = c.args.low; high = c.args.high; count = c.args.text.count } in
    let words = subst (λ (a : Option (ℕ × ℕ)). IfSome a (IsObjectOf (spliced r.known part c.args.with.now) made.result.0.slot)) c.in-Some.is made.ensures.object in
    let told = subst (λ (a : Option (ℕ × ℕ)). IfSome a (λ _. WritesCopy [] c.args.pass.now r part c.args.with.now made.new.pass made.result.0)) c.in-Some.is made.ensures.copied in
    copied-held c.args.pass.now.heap r made.result.0 part c.args.with.now made.result.0.slot c.in-Some.object c.count-count.result c.ascii-ascii.result
    c.requires.held.same_heap words c.count-count.ensures c.ascii-ascii.ensures told
