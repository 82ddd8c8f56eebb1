use Rattle.std.proofs.Common.{Bool, true, ap, subst, ◌∙◌}
use Rattle.slot_table.specs.Owners.{RefSeen}
use Rattle.slot_accounts.specs.Account.{Did}
use Rattle.slot_accounts.proofs.Doing.{Did-then}
use Rattle.slot_edits.specs.Edits.{asking, detaching, readied}
use Rattle.slot_edits.proofs.in_place.ready.Goals as goal

pub returns-clause-readied : goal.returns-clause-readied
returns-clause-readied g c = λ _.
    let p = c.args.pass.now in
    let r = c.args.reference in
    let asked = c.is_alone-reference in
    let bared = c.strip-reference in
    let one : Did (asking r.slot r.sole true) p asked.new.pass =
    subst (λ (b : Bool). Did (asking r.slot r.sole b) p asked.new.pass) c.if-not-alone.false asked.ensures.did in
    let two : Did (detaching r.slot r.bare bared.result.1) asked.new.pass bared.new.pass =
    subst (λ (z : RefSeen). Did (detaching z.slot z.bare bared.result.1) asked.new.pass bared.new.pass) asked.ensures.kept bared.ensures.did in
    record {
      found = bared.result.1;
      did = Did-then one two;
      reference = bared.ensures.reference ∙ ap (λ (z : RefSeen). readied z bared.result.0 z.known) asked.ensures.kept;
    }
