use Rattle.std.proofs.Common.{◌≡◌, sym, ap, subst, ◌∙◌, ◌∷◌, ◌<◌, ◌^◌, ℕ, length, chars, rules, arith}
use Rattle.object_words.specs.Rows.{native, is_ascii, Describes}
use Rattle.word_units.specs.Packing.{byte_words}
use Rattle.slot_accounts.specs.Account.{new_reference, IsDrawn}
use Rattle.slot_accounts.proofs.Drawn.{Drawn-written}
use Rattle.slot_table.specs.Owners.{HeapId, DraftSeen, RefSeen}
use Rattle.str_value.proofs.Made.{native-held, native-words, native-stored}
use Rattle.str_value.proofs.making_utf8.publish_utf8.Goals as goal

-- the reference that the pass learned of
is : (c : goal.After-publish-reference) → c.publish-reference.result ≡ new_reference c.args.pass.now.heap c.publish-reference.new.pass.front c.in_ok-draft.draft.slot (c.native-object.result.0 ∷ byte_words c.args.bytes.now)
is c =
    c.publish-reference.ensures.reference
    ∙ ap (λ (d : DraftSeen). new_reference c.draw.new.pass.heap c.publish-reference.new.pass.front d.slot d.written) c.write_utf8.ensures
    ∙ ap (λ (z : HeapId). new_reference z c.publish-reference.new.pass.front c.in_ok-draft.draft.slot (c.w0.result ∷ byte_words c.args.bytes.now)) c.draw.ensures.heap
    ∙ ap (λ (w : ℕ). new_reference c.args.pass.now.heap c.publish-reference.new.pass.front c.in_ok-draft.draft.slot (w ∷ byte_words c.args.bytes.now)) c.w0.ensures

-- its two words, with the number of its slot
says : (c : goal.After-publish-reference) → Describes (native c.is_ascii-ascii.result c.is_ascii-ascii.result (length c.args.bytes.now) c.in_ok-draft.draft.slot) c.native-object.result
says c = subst (λ x. Describes (native c.is_ascii-ascii.result c.is_ascii-ascii.result (length c.args.bytes.now) x) c.native-object.result) c.slot.ensures c.native-object.ensures

fits : (c : goal.After-publish-reference) → c.native-object.result.1 < 2 ^ 64
fits c = search rules

held_is : (c : goal.After-publish-reference) → Rattle.text_spec.specs.Packed.bytes_of (Rattle.str_value.specs.Stored.content c.publish-reference.result.known) (Rattle.str_value.specs.Stored.counted c.publish-reference.result.known) ≡ c.args.bytes.now
held_is c =
    native-held c.native-object.result c.args.bytes.now c.is_ascii-ascii.result c.in_ok-draft.draft.slot (says c) (fits c) (λ i. search (rules, c.type_inv.bytes i)) c.publish-reference.result.known
    (ap (λ (r : RefSeen). r.known) (is c))

slot_is : (c : goal.After-publish-reference) → c.in_ok-draft.draft.slot ≡ c.publish-reference.result.slot
slot_is c = sym (ap (λ (r : RefSeen). r.slot) (is c))

pub invariant_of-result : goal.invariant_of-result
invariant_of-result c =
    native-stored c.native-object.result c.args.bytes.now c.is_ascii-ascii.result c.in_ok-draft.draft.slot (says c) (fits c) (λ i. search (rules, c.type_inv.bytes i))
    c.args.pass.now.heap c.publish-reference.new.pass.front c.publish-reference.result (is c) c.is_ascii-ascii.ensures c.requires.utf8 c.requires.limit
    (omega (arith, c.capacity_words.ensures, c.if-bytes-capacity_words.false))

pub returns-clause-text : goal.returns-clause-text
returns-clause-text c = ap chars (held_is c)

pub returns-clause-made : goal.returns-clause-made
returns-clause-made c = (
  c.requires.long,
  (
    record {
      fits = omega (arith, c.capacity_words.ensures, c.if-bytes-capacity_words.false);
      shows = c.in_ok-draft.ensures.shows;
    },
    ap (λ bs. native (is_ascii bs) (is_ascii bs) (length bs) c.publish-reference.result.slot) (held_is c),
    is c ∙ ap (λ x. new_reference c.args.pass.now.heap c.publish-reference.new.pass.front x (c.native-object.result.0 ∷ byte_words c.args.bytes.now)) (slot_is c)
        ∙ ap (new_reference c.args.pass.now.heap c.publish-reference.new.pass.front c.publish-reference.result.slot)
        (native-words c.native-object.result c.args.bytes.now c.is_ascii-ascii.result c.in_ok-draft.draft.slot (says c) (fits c) (λ i. search (rules, c.type_inv.bytes i)) c.is_ascii-ascii.ensures),
  ),
)

drawn : (c : goal.After-publish-reference) → IsDrawn c.args.pass.now c.draw.new.pass c.write_utf8.new.draft
drawn c = Drawn-written _ _ c.in_ok-draft.draft c.in_ok-draft.ensures.drawn c.write_utf8.new.draft _ c.write_utf8.ensures

pub returns-clause-credits : goal.returns-clause-credits
returns-clause-credits c = c.publish-reference.ensures.credits c.args.pass.now (drawn c)
