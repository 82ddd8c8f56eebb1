use Rattle.std.proofs.Common.{◌≡◌, ℕ, List, length, ap, subst, arith}
use Rattle.slot_model.specs.declared.event.Event.{Event}
use Rattle.slot_table.specs.Owners.{RefSeen}
use Rattle.slot_accounts.proofs.Runs.{Did-strung}
use Rattle.slot_edits.specs.Parts.{spliced}
use Rattle.slot_edits.specs.Writes.{AllWrites}
use Rattle.slot_edits.proofs.Writes.{writes-free}
use Rattle.slot_edits.proofs.in_place.write_spliced.Goals as goal

pub returns-clause-did : goal.returns-clause-did
returns-clause-did g c =
    let met = c.meet-reference.ensures.met in
    let r = c.args.reference in
    let s = c.meet-reference.result in
    let w = c.splice-object.ensures.wrote in
    let events : List Event = w.2.events in
    let slot : s.slot ≡ r.slot = ap (λ (z : RefSeen). z.slot) met.reference_is in
    let known : s.known ≡ r.known = ap (λ (z : RefSeen). z.known) met.reference_is in
    let long : length (spliced s.known c.args.part c.args.with.now) ≡ length (spliced r.known c.args.part c.args.with.now) =
    ap (λ (l : List ℕ). length (spliced l c.args.part c.args.with.now)) known in
    let free = writes-free s.slot events w.2.writes in (
      events,
      subst (λ x. AllWrites x events) slot w.2.writes,
      omega (arith, w.2.number),
      omega (arith, w.1, w.2.number, long),
      Did-strung events c.args.pass.now r c.meet-reference.new.self s c.splice-object.new.reference c.meet.new.self c.meet.result c.requires.clean met w.2.strung
          free.0 free.1 c.meet.ensures.met,
    )
