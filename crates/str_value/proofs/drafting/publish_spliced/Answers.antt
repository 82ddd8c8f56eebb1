use Rattle.std.proofs.Common.{◌≡◌, sym, ap, ◌∙◌, List, ◌∷◌, ◌≤◌, ◌+◌, ◌-◌, ◌/◌, ℕ, length, chars, refl, arith}
use Rattle.std.specs.List.{splice}
use Rattle.text_spec.specs.Packed.{bytes_of}
use Rattle.text_spec.specs.Text.{utf8}
use Rattle.text_spec.proofs.Listed.{utf8-bytes}
use Rattle.object_words.specs.Rows.{native, is_ascii}
use Rattle.word_units.specs.Packing.{byte_words}
use Rattle.slot_accounts.specs.Account.{new_reference, IsDrawn}
use Rattle.slot_accounts.proofs.Drawn.{Drawn-written}
use Rattle.slot_table.specs.Owners.{HeapId, DraftSeen, RefSeen}
use Rattle.str_value.specs.Stored.{content, counted}
use Rattle.str_value.proofs.Made.{native-held, native-words, native-stored}
use Rattle.str_value.proofs.Spliced.{length-splice}
use Rattle.str_value.proofs.drafting.publish_spliced.Goals as goal

abbrev new : goal.After-publish-reference → List ℕ
new c = splice (utf8 c.args.value.now.text) c.args.part.low c.args.part.high c.args.with.now

-- the reference that the pass learned of
is : (c : goal.After-publish-reference)
    → c.publish-reference.result ≡ new_reference c.args.pass.now.heap c.publish-reference.new.pass.front c.in_ok-draft.draft.slot (c.draft_spliced-object.result.0.0 ∷ byte_words (new c))
is c =
    let words : List ℕ = c.draft_spliced-object.result.0.0 ∷ byte_words (new c) in
    c.publish-reference.ensures.reference
    ∙ ap (λ (d : DraftSeen). new_reference c.draw.new.pass.heap c.publish-reference.new.pass.front d.slot d.written) c.draft_spliced-object.ensures.words
    ∙ ap (λ (z : HeapId). new_reference z c.publish-reference.new.pass.front c.in_ok-draft.draft.slot words) c.draw.ensures.heap

held_is : (c : goal.After-publish-reference) → bytes_of (content c.publish-reference.result.known) (counted c.publish-reference.result.known) ≡ new c
held_is c =
    native-held c.draft_spliced-object.result.0 (new c) (is_ascii (new c)) c.in_ok-draft.draft.slot c.draft_spliced-object.ensures.object
    c.draft_spliced-object.ensures.fits (utf8-bytes (new c) c.requires.utf8) c.publish-reference.result.known (ap (λ (r : RefSeen). r.known) (is c))

slot_is : (c : goal.After-publish-reference) → c.in_ok-draft.draft.slot ≡ c.publish-reference.result.slot
slot_is c = sym (ap (λ (r : RefSeen). r.slot) (is c))

long : (c : goal.After-publish-reference)
    → length (new c) ≡ length (utf8 c.args.value.now.text) - (c.args.part.high - c.args.part.low) + length c.args.with.now
long c =
    length-splice (utf8 c.args.value.now.text) c.args.with.now c.args.part.low c.args.part.high c.requires.order (omega (arith, c.requires.inside, c.requires.count))

room : (c : goal.After-publish-reference) → (length (new c) + 7) / 8 + 1 ≤ c.args.pass.now.heap.layout.capacity_words
room c = omega (arith, long c, c.requires.count, c.capacity_words.ensures, c.if-length-capacity_words.false)

pub draft_spliced-object-requires-clause-room : goal.draft_spliced-object-requires-clause-room
draft_spliced-object-requires-clause-room c =
    omega (
      arith,
      length-splice (utf8 c.args.value.now.text) c.args.with.now c.args.part.low c.args.part.high c.requires.order (omega (arith, c.requires.inside, c.requires.count)),
      c.requires.count,
      c.capacity_words.ensures,
      c.if-length-capacity_words.false,
      ap (λ (z : HeapId). z.layout.capacity_words) (c.in_ok-draft.ensures.same_heap ∙ c.in_ok-draft.ensures.heap),
    )

pub invariant_of-result : goal.invariant_of-result
invariant_of-result c =
    native-stored c.draft_spliced-object.result.0 (new c) (is_ascii (new c)) c.in_ok-draft.draft.slot c.draft_spliced-object.ensures.object
    c.draft_spliced-object.ensures.fits (utf8-bytes (new c) c.requires.utf8) c.args.pass.now.heap c.publish-reference.new.pass.front c.publish-reference.result (is c) refl
    c.requires.utf8 c.requires.limit (room c)

pub returns-clause-text : goal.returns-clause-text
returns-clause-text c = ap chars (held_is c)

pub returns-clause-published : goal.returns-clause-published
returns-clause-published c = (
  c.publish-reference.result,
  refl,
  (
    record {
      fits = room c;
      shows = c.in_ok-draft.ensures.shows;
    },
    ap (λ bs. native (is_ascii bs) (is_ascii bs) (length bs) c.publish-reference.result.slot) (held_is c),
    is c ∙ ap (λ x. new_reference c.args.pass.now.heap c.publish-reference.new.pass.front x (c.draft_spliced-object.result.0.0 ∷ byte_words (new c))) (slot_is c)
        ∙ ap (new_reference c.args.pass.now.heap c.publish-reference.new.pass.front c.publish-reference.result.slot)
        (native-words c.draft_spliced-object.result.0 (new c) (is_ascii (new c)) c.in_ok-draft.draft.slot c.draft_spliced-object.ensures.object
        c.draft_spliced-object.ensures.fits (utf8-bytes (new c) c.requires.utf8) refl),
  ),
)

drawn : (c : goal.After-publish-reference) → IsDrawn c.args.pass.now c.draw.new.pass c.draft_spliced-object.result.1
drawn c = Drawn-written _ _ c.in_ok-draft.draft c.in_ok-draft.ensures.drawn c.draft_spliced-object.result.1 _ c.draft_spliced-object.ensures.words

pub returns-clause-credits : goal.returns-clause-credits
returns-clause-credits c = c.publish-reference.ensures.credits c.args.pass.now (drawn c)
