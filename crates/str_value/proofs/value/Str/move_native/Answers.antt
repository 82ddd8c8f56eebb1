use Rattle.std.proofs.Common.{◌≡◌, refl, [], sym, ap, subst, ◌∙◌, ◌<◌, ◌^◌, length, chars, rules, arith}
use Rattle.object_words.specs.Rows.{native, is_ascii}
use Rattle.text_spec.specs.Text.{utf8}
use Rattle.text_spec.specs.declared.encoding.Encoding.TheVariants.{Utf8}
use Rattle.slot_table.specs.Owners.{RefSeen}
use Rattle.slot_edits.specs.Parts.{spliced}
use Rattle.slot_edits.specs.Edits.{WritesCopy}
use Rattle.slot_edits.specs.Texts.{IsText, IsObjectOf}
use Rattle.slot_edits.specs.Words.{content_bytes}
use Rattle.str_value.specs.Editing.{new_bytes}
use Rattle.str_value.specs.Making.{HasRoom}
use Rattle.str_value.proofs.Overwritten.{heap-is, clean-is, text-is, part-is, spliced-is, moved, native-after, held-after, some-of}
use Rattle.str_value.proofs.Spliced.{length-splice}
use Rattle.str_value.proofs.value.Str.move_native.Goals as goal

pub replace_copied-reference-requires-clause-heap : goal.replace_copied-reference-requires-clause-heap
replace_copied-reference-requires-clause-heap c =
    heap-is _ _ c.args.self.now c.in-Native.reference c.in-Native.crumbs c.self.invariant c.self.view_is (sym c.replace.ensures.value ∙ c.in-Native.is) c.args.pass.now c.requires.heap

pub replace_copied-reference-requires-clause-clean : goal.replace_copied-reference-requires-clause-clean
replace_copied-reference-requires-clause-clean c =
    clean-is _ _ c.args.self.now c.in-Native.reference c.in-Native.crumbs c.self.invariant c.self.view_is (sym c.replace.ensures.value ∙ c.in-Native.is)

pub replace_copied-reference-requires-clause-part : goal.replace_copied-reference-requires-clause-part
replace_copied-reference-requires-clause-part c =
    let same = sym c.replace.ensures.value ∙ c.in-Native.is in
    let small : c.capacity_words.result < 2 ^ 32 = search rules in
    part-is _ _ c.args.self.now c.in-Native.reference c.in-Native.crumbs c.self.invariant c.self.view_is same c.args.part c.args.with.now
    c.requires.order c.requires.inside c.requires.count c.requires.limit
    (omega (arith, small, c.capacity_words.ensures, ap (λ z. z.layout.capacity_words) (heap-is _ _ c.args.self.now c.in-Native.reference c.in-Native.crumbs c.self.invariant c.self.view_is same c.args.pass.now c.requires.heap)))

pub replace_copied-reference-requires-clause-text : goal.replace_copied-reference-requires-clause-text
replace_copied-reference-requires-clause-text c =
    text-is _ _ c.args.self.now c.in-Native.reference c.in-Native.crumbs c.self.invariant c.self.view_is (sym c.replace.ensures.value ∙ c.in-Native.is)
    c.args.part.count c.ascii-marked.result c.requires.count c.ascii-marked.ensures

pub replace_copied-reference-requires-clause-fits : goal.replace_copied-reference-requires-clause-fits
replace_copied-reference-requires-clause-fits c =
    omega (arith, c.requires.room, c.requires.count, length-splice (utf8 c.args.self.now.text) c.args.with.now c.args.part.low c.args.part.high c.requires.order (omega (arith, c.requires.inside, c.requires.count)))

wrote : (c : goal.Joined-self) → WritesCopy [] c.args.pass.now c.in-Native.reference c.args.part c.args.with.now c.replace_copied-reference.new.pass c.replace_copied-reference.result.0
wrote c = some-of (λ _. WritesCopy [] c.args.pass.now c.in-Native.reference c.args.part c.args.with.now c.replace_copied-reference.new.pass c.replace_copied-reference.result.0) _ _ c.in-Some.is c.replace_copied-reference.ensures.copied

are : (c : goal.Joined-self) → spliced c.in-Native.reference.known c.args.part c.args.with.now ≡ new_bytes c.args.self.now c.args.part c.args.with.now
are c = spliced-is _ _ c.args.self.now c.in-Native.reference c.in-Native.crumbs c.self.invariant c.self.view_is (sym c.replace.ensures.value ∙ c.in-Native.is) c.args.part c.args.with.now c.requires.count

edited : (c : goal.Joined-self) → IsText c.replace_copied-reference.result.0.known (length (new_bytes c.args.self.now c.args.part c.args.with.now)) (is_ascii (new_bytes c.args.self.now c.args.part c.args.with.now))
edited c = subst (λ bs. IsText c.replace_copied-reference.result.0.known (length bs) (is_ascii bs)) (are c) (wrote c).edited.text

held : (c : goal.Joined-self) → content_bytes c.replace_copied-reference.result.0.known (length (new_bytes c.args.self.now c.args.part c.args.with.now)) ≡ new_bytes c.args.self.now c.args.part c.args.with.now
held c = subst (λ bs. content_bytes c.replace_copied-reference.result.0.known (length bs) ≡ bs) (are c) (wrote c).edited.bytes

object : (c : goal.Joined-self) → IsObjectOf (new_bytes c.args.self.now c.args.part c.args.with.now) c.replace_copied-reference.result.0.slot c.in-Some.object
object c = subst (λ bs. IsObjectOf bs c.replace_copied-reference.result.0.slot c.in-Some.object) (are c) (some-of (IsObjectOf (spliced c.in-Native.reference.known c.args.part c.args.with.now) c.replace_copied-reference.result.0.slot) _ _ c.in-Some.is c.replace_copied-reference.ensures.object)

fits : (c : goal.Joined-self) → c.in-Some.object.1 < 2 ^ 64
fits c = search rules

room : (c : goal.Joined-self) → HasRoom c.args.pass.now Utf8 (length (new_bytes c.args.self.now c.args.part c.args.with.now))
room c = record { fits = omega (arith, c.requires.room); shows = (wrote c).shows }

pub invariant_of-self : goal.invariant_of-self
invariant_of-self c =
    let s = (wrote c).reference in
    native-after c.in-Some.object _ c.replace_copied-reference.result.0.slot (object c) (fits c) c.replace_copied-reference.result.0 (edited c) (held c)
    refl c.requires.utf8 c.requires.limit
    (omega (arith, (wrote c).most, ap (λ (r : RefSeen). r.heap.layout.capacity_words) s))
    (ap (λ (r : RefSeen). r.places) s) (ap (λ (r : RefSeen). r.side) s)

pub returns-in-Some-clause-text : goal.returns-in-Some-clause-text
returns-in-Some-clause-text c _ = ap chars (held-after c.in-Some.object _ c.replace_copied-reference.result.0.slot (object c) (fits c) c.replace_copied-reference.result.0 (edited c) (held c))

pub returns-in-Some-clause-remade : goal.returns-in-Some-clause-remade
returns-in-Some-clause-remade c _ =
    let same = sym c.replace.ensures.value ∙ c.in-Native.is in
    let after = held-after c.in-Some.object _ c.replace_copied-reference.result.0.slot (object c) (fits c) c.replace_copied-reference.result.0 (edited c) (held c) in
    moved _ _ c.args.self.now c.in-Native.reference c.in-Native.crumbs c.self.invariant c.self.view_is same c.args.pass.now c.replace_copied-reference.new.pass
    c.args.part c.args.with.now (new_bytes c.args.self.now c.args.part c.args.with.now) c.replace_copied-reference.result.0 _ c.requires.heap (are c) c.requires.long (room c) (wrote c)
    c.replace_copied-reference.ensures.credits refl
    (ap (λ bs. native (is_ascii bs) (is_ascii bs) (length bs) c.replace_copied-reference.result.0.slot) after)

pub returns-in-Some-clause-shown : goal.returns-in-Some-clause-shown
returns-in-Some-clause-shown c _ = room c
