use Rattle.std.proofs.Common.{◌≡◌, ℕ, List, length, sym, ap, subst, ◌∙◌, arith}
use Rattle.slot_table.specs.Owners.{HeapId, RefSeen}
use Rattle.slot_accounts.specs.Account.{Did, new_reference, giving_up}
use Rattle.slot_accounts.proofs.Doing.{Did-then}
use Rattle.slot_edits.specs.Parts.{spliced}
use Rattle.slot_edits.specs.Texts.{native_words}
use Rattle.slot_edits.proofs.Packed.{native-edited, length-native}
use Rattle.slot_edits.proofs.Endings.{length-spliced}
use Rattle.slot_edits.proofs.copying.replace_copied.Goals as goal

pub returns-in-Some-clause-copied : goal.returns-in-Some-clause-copied
returns-in-Some-clause-copied g c =
    let r = c.args.reference in
    let part = c.args.part in
    let with = c.args.with.now in
    let p = c.requires.part in
    let new = c.in-Some.new in
    let words : List ℕ = native_words (spliced r.known part with) in
    let between = c.publish_spliced.new.pass in
    let made = c.in-Some.ensures in
    let same = c.publish_spliced.ensures.kept in
    let gone = c.let_go-last.ensures.did in
    let slot : c.publish_spliced.new.reference.slot ≡ r.slot = ap (λ (z : RefSeen). z.slot) same in
    let released : Did (giving_up r.slot c.let_go-last.result gone.0) between c.let_go-last.new.pass =
    subst (λ (x : ℕ). Did (giving_up x c.let_go-last.result gone.0) between c.let_go-last.new.pass) slot gone.1 in
    let known : new.known ≡ words = ap (λ (z : RefSeen). z.known) made.fresh in
    let room : r.heap.layout.capacity_words ≡ c.args.pass.now.heap.layout.capacity_words = ap (λ (z : HeapId). z.layout.capacity_words) c.requires.heap in
    record {
      last = c.let_go-last.result;
      found = gone.0;
      shows = made.shows;
      did = Did-then made.did released;
      known_last = λ e. c.let_go-last.ensures.known (ap (λ (z : RefSeen). z.sole) same ∙ e);
      edited = native-edited r.known part with new.known p.order p.inside (λ i. (c.type_inv.with i).fits) known;
      most = omega (arith, ap length known, length-native (spliced r.known part with), length-spliced r.known part with p.order p.inside, c.requires.fits, room);
      reference = made.fresh ∙ ap (λ (z : HeapId). new_reference z new.front new.slot words) (sym c.requires.heap);
    }
