-- A copy behind a question that was answered false.
use Rattle.std.proofs.Common.{◌≡◌, ℕ, ◌≤◌, Bool, true, false, List, [], ◌∷◌, length, Option, Some, None, IfSome, IfNone, refl, sym, ap, subst, ◌∙◌, arith}
use Rattle.slot_model.specs.declared.event.Event.TheVariants.{Publish, Sole}
use Rattle.slot_table.specs.Owners.{PassSeen, RefSeen}
use Rattle.slot_accounts.specs.Account.{Did, new_reference, giving_up}
use Rattle.slot_accounts.proofs.Doing.{Did-then}
use Rattle.slot_edits.specs.declared.part.Part.{Part}
use Rattle.slot_edits.specs.Parts.{spliced}
use Rattle.slot_edits.specs.Texts.{native_words, Edited, IsObjectOf}
use Rattle.slot_edits.specs.Edits.{WritesCopy, IsShared, asking}

pub copied-after : (p q end : PassSeen) (r s new : RefSeen) (part : Part) (with : List ℕ) → IsShared p r q s → q.credits ≡ p.credits
    → WritesCopy [] q s part with end new → WritesCopy (Sole r.slot false ∷ []) p r part with end new
copied-after p q end r s new part with asked same w = record {
  last = w.last;
  found = w.found;
  shows = record { a_slot = omega (arith, w.shows.a_slot, asked.did.slots_are); a_credit = omega (arith, w.shows.a_credit, same) };
  did = Did-then asked.did
      (subst (λ (z : RefSeen). Did (Publish new.slot (native_words (spliced z.known part with)) ∷ giving_up z.slot w.last w.found) q end) asked.kept w.did);
  known_last = λ e. w.known_last (ap (λ (z : RefSeen). z.sole) asked.kept ∙ e);
  edited = subst (λ (z : RefSeen). Edited z.known part with new.known) asked.kept w.edited;
  most = subst (λ (z : RefSeen). length new.known ≤ z.heap.layout.capacity_words) asked.kept w.most;
  reference = w.reference ∙ ap (λ (z : RefSeen). new_reference z.heap new.front new.slot (native_words (spliced z.known part with))) asked.kept;
}

-- a question was answered false only where nothing was known
pub shared : (p q : PassSeen) (r s : RefSeen) (answer : Bool) → (r.sole ≡ true → answer ≡ true) → answer ≡ false → Did (asking r.slot r.sole answer) p q
    → s ≡ record r { front = s.front; sole = answer } → IsShared p r q s
shared p q r s answer known none did kept = by_mark r.sole refl
  where
    by_mark : (b : Bool) → r.sole ≡ b → IsShared p r q s
    by_mark true e = absurd (let n : true ≡ false = sym (known e) ∙ none in cc)
    by_mark false e = record {
      unknown = e;
      did = subst (λ (b : Bool). Did (asking r.slot b false) p q) e (subst (λ (b : Bool). Did (asking r.slot r.sole b) p q) none did);
      kept = kept ∙ ap (λ (b : Bool). record r { front = s.front; sole = b }) (none ∙ sym e);
    }

-- the same with the two words of the value
pub object-after : (p q end : PassSeen) (r s new : RefSeen) (part : Part) (with : List ℕ) (copied : Option (ℕ × ℕ)) (object : ℕ × ℕ)
    → copied ≡ Some object → IsShared p r q s → q.credits ≡ p.credits
    → IfSome copied (λ _. WritesCopy [] q s part with end new) → IfSome copied (IsObjectOf (spliced s.known part with) new.slot)
    → (r.sole ≡ false) × WritesCopy (Sole r.slot false ∷ []) p r part with end new × IsObjectOf (spliced r.known part with) new.slot object
object-after p q end r s new part with copied object some told same w o =
    let made = subst (λ (a : Option (ℕ × ℕ)). IfSome a (λ _. WritesCopy [] q s part with end new)) some w in
    let words = subst (λ (a : Option (ℕ × ℕ)). IfSome a (IsObjectOf (spliced s.known part with) new.slot)) some o in
    (told.unknown, copied-after p q end r s new part with told same made, subst (λ (z : RefSeen). IsObjectOf (spliced z.known part with) new.slot object) told.kept words)

-- what is said where an answer is none, said
pub where-none : {X : Type 0} {Q : Type 0} (answer : Option X) → answer ≡ None → IfNone answer Q → Q
where-none {X} {Q} answer none q = subst (λ (a : Option X). IfNone a Q) none q
