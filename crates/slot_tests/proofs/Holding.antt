-- A reference holds the text that an edit made.
use Rattle.std.proofs.Common.{◌≡◌, ℕ, ◌≤◌, Bool, List, length, sym, ap, subst, ◌∙◌}
use Rattle.slot_model.specs.declared.event.Event.{Event}
use Rattle.slot_table.specs.Owners.{HeapId, PassSeen, RefSeen}
use Rattle.object_words.specs.Rows.{Row, native, Describes, count_of, ascii_of, is_ascii}
use Rattle.slot_edits.specs.declared.part.Part.{Part}
use Rattle.slot_edits.specs.Edits.{WritesInPlace, WritesCopy}
use Rattle.slot_edits.specs.Parts.{spliced}
use Rattle.slot_edits.specs.Texts.{IsText, IsObjectOf, Edited}
use Rattle.slot_tests.specs.Texts.{IsHeld}

module _ (z : HeapId) (r s : RefSeen) (part : Part) (with : List ℕ) (slot : ℕ) (object : ℕ × ℕ) (count : ℕ) (ascii : Bool) (one_heap : r.heap ≡ z)
    (is : IsObjectOf (spliced r.known part with) slot object) (counts : (row : Row) → Describes row object → count ≡ count_of row)
    (marks : (row : Row) → Describes row object → ascii ≡ ascii_of row) where
  text-held : Edited r.known part with s.known → IsText s.known count ascii
  text-held e =
      let new : List ℕ = spliced r.known part with in
      let n : count ≡ length new = counts (native (is_ascii new) (is_ascii new) (length new) slot) is in
      let a : ascii ≡ is_ascii new = marks (native (is_ascii new) (is_ascii new) (length new) slot) is in
      subst (λ (k : ℕ). IsText s.known k ascii) (sym n) (subst (λ (b : Bool). IsText s.known (length new) b) (sym a) e.text)

  pub written-held : {p q : PassSeen} → WritesInPlace p r part with q s → IsHeld z s count ascii
  written-held w = record {
    same_heap = ap (λ (x : RefSeen). x.heap) w.reference ∙ one_heap;
    clean = ap (λ (x : RefSeen). x.places) w.reference;
    text = text-held w.edited;
    most = subst (λ (h : HeapId). length s.known ≤ h.layout.capacity_words) one_heap w.most;
  }

  pub copied-held : {before : List Event} {p q : PassSeen} → WritesCopy before p r part with q s → IsHeld z s count ascii
  copied-held w = record {
    same_heap = ap (λ (x : RefSeen). x.heap) w.reference ∙ one_heap;
    clean = ap (λ (x : RefSeen). x.places) w.reference;
    text = text-held w.edited;
    most = subst (λ (h : HeapId). length s.known ≤ h.layout.capacity_words) one_heap w.most;
  }
