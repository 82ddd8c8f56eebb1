use Rattle.std.proofs.Common.{◌≡◌, refl, sym, ap, subst, ◌∙◌, ◌<◌, ◌^◌, length, chars, rules, arith}
use Rattle.object_words.specs.Rows.{native, is_ascii}
use Rattle.text_spec.specs.Text.{utf8}
use Rattle.slot_table.specs.Owners.{RefSeen}
use Rattle.slot_edits.specs.Parts.{spliced}
use Rattle.slot_edits.specs.Edits.{WritesInPlace}
use Rattle.slot_edits.specs.Texts.{IsText, IsObjectOf}
use Rattle.slot_edits.specs.Words.{content_bytes}
use Rattle.str_value.specs.Editing.{new_bytes}
use Rattle.str_value.proofs.Overwritten.{heap-is, clean-is, most-is, text-is, part-is, spliced-is, may-be-written, overwritten, asked-in-vain, native-after, held-after, some-of, none-of}
use Rattle.str_value.proofs.Spliced.{length-splice}
use Rattle.str_value.proofs.value.Str.overwrite.Goals as goal

pub replace_in_place-reference-requires-clause-heap : goal.replace_in_place-reference-requires-clause-heap
replace_in_place-reference-requires-clause-heap c =
    heap-is _ _ c.args.self.now c.in-Native.reference c.in-Native.crumbs c.self.invariant c.self.view_is (sym c.replace.ensures.value ∙ c.in-Native.is) c.args.pass.now c.requires.heap

pub replace_in_place-reference-requires-clause-clean : goal.replace_in_place-reference-requires-clause-clean
replace_in_place-reference-requires-clause-clean c =
    clean-is _ _ c.args.self.now c.in-Native.reference c.in-Native.crumbs c.self.invariant c.self.view_is (sym c.replace.ensures.value ∙ c.in-Native.is)

pub replace_in_place-reference-requires-clause-part : goal.replace_in_place-reference-requires-clause-part
replace_in_place-reference-requires-clause-part c =
    let same = sym c.replace.ensures.value ∙ c.in-Native.is in
    let small : c.capacity_words.result < 2 ^ 32 = search rules in
    part-is _ _ c.args.self.now c.in-Native.reference c.in-Native.crumbs c.self.invariant c.self.view_is same c.args.part c.args.with.now
    c.requires.order c.requires.inside c.requires.count c.requires.limit
    (omega (arith, small, c.capacity_words.ensures, ap (λ z. z.layout.capacity_words) (heap-is _ _ c.args.self.now c.in-Native.reference c.in-Native.crumbs c.self.invariant c.self.view_is same c.args.pass.now c.requires.heap)))

pub replace_in_place-reference-requires-clause-text : goal.replace_in_place-reference-requires-clause-text
replace_in_place-reference-requires-clause-text c =
    text-is _ _ c.args.self.now c.in-Native.reference c.in-Native.crumbs c.self.invariant c.self.view_is (sym c.replace.ensures.value ∙ c.in-Native.is)
    c.args.part.count c.ascii-marked.result c.requires.count c.ascii-marked.ensures

pub replace_in_place-reference-requires-clause-fits : goal.replace_in_place-reference-requires-clause-fits
replace_in_place-reference-requires-clause-fits c = omega (arith, c.if-length-capacity_words.false, c.capacity_words.ensures)

pub replace_in_place-reference-requires-clause-most : goal.replace_in_place-reference-requires-clause-most
replace_in_place-reference-requires-clause-most c =
    most-is _ _ c.args.self.now c.in-Native.reference c.in-Native.crumbs c.self.invariant c.self.view_is (sym c.replace.ensures.value ∙ c.in-Native.is) c.args.pass.now c.requires.heap

-- the words that were written
wrote : (c : goal.Joined-self) → WritesInPlace c.args.pass.now c.in-Native.reference c.args.part c.args.with.now c.replace_in_place-reference.new.pass c.replace_in_place-reference.result.0
wrote c = some-of (λ _. WritesInPlace c.args.pass.now c.in-Native.reference c.args.part c.args.with.now c.replace_in_place-reference.new.pass c.replace_in_place-reference.result.0) _ _ c.in-Some.is c.replace_in_place-reference.ensures.written

are : (c : goal.Joined-self) → spliced c.in-Native.reference.known c.args.part c.args.with.now ≡ new_bytes c.args.self.now c.args.part c.args.with.now
are c = spliced-is _ _ c.args.self.now c.in-Native.reference c.in-Native.crumbs c.self.invariant c.self.view_is (sym c.replace.ensures.value ∙ c.in-Native.is) c.args.part c.args.with.now c.requires.count

edited : (c : goal.Joined-self) → IsText c.replace_in_place-reference.result.0.known (length (new_bytes c.args.self.now c.args.part c.args.with.now)) (is_ascii (new_bytes c.args.self.now c.args.part c.args.with.now))
edited c = subst (λ bs. IsText c.replace_in_place-reference.result.0.known (length bs) (is_ascii bs)) (are c) (wrote c).edited.text

held : (c : goal.Joined-self) → content_bytes c.replace_in_place-reference.result.0.known (length (new_bytes c.args.self.now c.args.part c.args.with.now)) ≡ new_bytes c.args.self.now c.args.part c.args.with.now
held c = subst (λ bs. content_bytes c.replace_in_place-reference.result.0.known (length bs) ≡ bs) (are c) (wrote c).edited.bytes

object : (c : goal.Joined-self) → IsObjectOf (new_bytes c.args.self.now c.args.part c.args.with.now) c.in-Native.reference.slot c.in-Some.object
object c = subst (λ bs. IsObjectOf bs c.in-Native.reference.slot c.in-Some.object) (are c) (some-of (IsObjectOf (spliced c.in-Native.reference.known c.args.part c.args.with.now) c.in-Native.reference.slot) _ _ c.in-Some.is c.replace_in_place-reference.ensures.object)

fits : (c : goal.Joined-self) → c.in-Some.object.1 < 2 ^ 64
fits c = search rules

pub invariant_of-self : goal.invariant_of-self
invariant_of-self c =
    let s = (wrote c).reference in
    native-after c.in-Some.object _ c.in-Native.reference.slot (object c) (fits c) c.replace_in_place-reference.result.0 (edited c) (held c)
    (ap (λ (r : RefSeen). r.slot) s) c.requires.utf8 c.requires.limit
    (omega (arith, (wrote c).most, ap (λ (r : RefSeen). r.heap.layout.capacity_words) s))
    (ap (λ (r : RefSeen). r.places) s) (ap (λ (r : RefSeen). r.side) s)

pub returns-in-Some-clause-text : goal.returns-in-Some-clause-text
returns-in-Some-clause-text c _ = ap chars (held-after c.in-Some.object _ c.in-Native.reference.slot (object c) (fits c) c.replace_in_place-reference.result.0 (edited c) (held c))

pub returns-in-Some-clause-written : goal.returns-in-Some-clause-written
returns-in-Some-clause-written c _ =
    let same = sym c.replace.ensures.value ∙ c.in-Native.is in
    let long = length-splice (utf8 c.args.self.now.text) c.args.with.now c.args.part.low c.args.part.high c.requires.order (omega (arith, c.requires.inside, c.requires.count)) in
    let after = held-after c.in-Some.object _ c.in-Native.reference.slot (object c) (fits c) c.replace_in_place-reference.result.0 (edited c) (held c) in
    let slot = ap (λ (r : RefSeen). r.slot) (wrote c).reference in (
      c.in-Native.reference,
      may-be-written _ _ c.args.self.now c.in-Native.reference c.in-Native.crumbs c.self.invariant c.self.view_is same c.args.pass.now _
          (omega (arith, c.if-length-capacity_words.false, c.capacity_words.ensures, long, c.requires.count)),
      overwritten _ _ c.args.self.now c.in-Native.reference c.in-Native.crumbs c.self.invariant c.self.view_is same c.args.pass.now c.replace_in_place-reference.new.pass
          c.args.part c.args.with.now (new_bytes c.args.self.now c.args.part c.args.with.now) c.replace_in_place-reference.result.0 _ (are c) (wrote c) c.replace_in_place-reference.ensures.credits refl
          (ap (λ bs. native (is_ascii bs) (is_ascii bs) (length bs) c.replace_in_place-reference.result.0.slot) after
          ∙ ap (native (is_ascii (new_bytes c.args.self.now c.args.part c.args.with.now)) (is_ascii (new_bytes c.args.self.now c.args.part c.args.with.now)) (length (new_bytes c.args.self.now c.args.part c.args.with.now))) slot),
    )

pub returns-in-None-clause-unwritten : goal.returns-in-None-clause-unwritten
returns-in-None-clause-unwritten c _ =
    let same = sym c.replace.ensures.value ∙ c.in-Native.is in
    let long = length-splice (utf8 c.args.self.now.text) c.args.with.now c.args.part.low c.args.part.high c.requires.order (omega (arith, c.requires.inside, c.requires.count)) in
    asked-in-vain _ _ c.args.self.now c.in-Native.reference c.in-Native.crumbs c.self.invariant c.self.view_is same c.args.pass.now c.replace_in_place-reference.new.pass
    (length (new_bytes c.args.self.now c.args.part c.args.with.now)) c.replace_in_place-reference.result.0 _
    (omega (arith, c.if-length-capacity_words.false, c.capacity_words.ensures, long, c.requires.count))
    (none-of _ _ c.in-None.is c.replace_in_place-reference.ensures.shared) c.replace_in_place-reference.ensures.credits refl
