use Rattle.std.proofs.Common.{◌≡◌, ℕ, ◌≤◌, true, None, List, [], length, sym, ap, subst, ◌∙◌, arith, append_assoc}
use Rattle.slot_model.specs.declared.event.Event.{Event}
use Rattle.slot_table.specs.Owners.{HeapId, RefSeen}
use Rattle.slot_accounts.specs.Account.{Did}
use Rattle.slot_accounts.proofs.Doing.{Did-then}
use Rattle.slot_edits.specs.Edits.{IsReadied, asking, detaching}
use Rattle.slot_edits.specs.Parts.{spliced}
use Rattle.slot_edits.specs.Texts.{Edited}
use Rattle.slot_edits.specs.Writes.{AllWrites}
use Rattle.slot_edits.proofs.in_place.replace_in_place.Goals as goal

pub returns-clause-written : goal.returns-clause-written
returns-clause-written g c =
    let p = c.args.pass.now in
    let r = c.args.reference in
    let part = c.args.part in
    let with = c.args.with.now in
    let s = c.ready-reference.result.0 in
    let is : IsReadied p r c.ready-reference.new.pass s = c.ready-reference.ensures.readied c.if-not-alone.false in
    let wrote = c.write_spliced-reference in
    let new = wrote.result.0 in
    let told = wrote.ensures.did in
    let slot : s.slot ≡ r.slot = ap (λ (z : RefSeen). z.slot) is.reference in
    let known : s.known ≡ r.known = ap (λ (z : RefSeen). z.known) is.reference in
    let long : length (spliced s.known part with) ≡ length (spliced r.known part with) = ap (λ (l : List ℕ). length (spliced l part with)) known in
    let sides : s.side_words ≡ new.side_words = sym (ap (λ (z : RefSeen). z.side_words) wrote.ensures.reference) in
    record {
      found = is.found;
      writes = told.0;
      are_writes = subst (λ x. AllWrites x told.0) slot told.1;
      some = told.2;
      few = omega (arith, told.3, long);
      did = subst (λ (es : List Event). Did es p wrote.new.pass) (append_assoc (asking r.slot r.sole true) (detaching r.slot r.bare is.found) told.0)
          (Did-then is.did told.4);
      edited = subst (λ (l : List ℕ). Edited l part with new.known) known wrote.ensures.edited;
      most = subst (λ (z : HeapId). length new.known ≤ z.layout.capacity_words) (is.did.one_heap ∙ sym c.requires.heap) wrote.ensures.most;
      reference = wrote.ensures.reference ∙ ap (λ (z : RefSeen). record z { front = new.front; places = []; known = new.known }) is.reference
          ∙ ap (λ (ws : List ℕ). record r { front = new.front; places = []; known = new.known; sole = true; bare = true; side = None; side_words = ws }) sides;
    }
