use Rattle.std.proofs.Common.{◌≡◌, ◌≤◌, ◌+◌, ◌-◌, sym, ap, subst, ◌∙◌, length, arith}
use Rattle.text_spec.specs.declared.encoding.Encoding.TheVariants.{Utf16}
use Rattle.text_spec.specs.Offsets.{len_utf16, start}
use Rattle.text_spec.specs.Views.{width_in}
use Rattle.unit_views.specs.Spots.{Walked}
use Rattle.str_value.specs.Meaning.{storage_of}
use Rattle.batch_workers.specs.Ops.{floor}
use Rattle.batch_workers.proofs.Boundaries.{walked-out, walked-to}
use Rattle.batch_workers.proofs.place.place_across.Goals as goal
use Rattle.batch_workers.proofs.place.place_across.Goals.{else-at-high-via-then-at-high+else-reached-room, else-at-high-via-else-at-high}

pub returns-then-reached-room-clause-past : goal.returns-then-reached-room-clause-past
returns-then-reached-room-clause-past g c =
    let e = storage_of c.args.text.now.row in
    let t = c.args.text.now.text in
    let walked = subst (λ high. Walked (width_in e) len_utf16 t c.args.from.place high (c.args.offset - c.args.from.offset) c.walk_on-at.result.0 c.walk_on-at.result.1)
    c.bounds-low.ensures.high_is c.walk_on-at.ensures.walked in (
      walked-out e t c.args.from.place c.args.from.offset _ c.walk_on-at.result.0 c.walk_on-at.result.1 walked c.requires.from (c.if-at-high.true ∙ c.bounds-low.ensures.high_is),
      omega (arith, c.if-reached-room.true, c.requires.later),
    )

-- the walk ends at the boundary
pub returns-clause-place : goal.returns-clause-place
returns-clause-place g c =
    let e = storage_of c.args.text.now.row in
    let t = c.args.text.now.text in
    let w = width_in e in
    let walked = subst (λ high. Walked w len_utf16 t c.args.from.place high (c.args.offset - c.args.from.offset) c.walk_on-at.result.0 c.walk_on-at.result.1)
    c.bounds-low.ensures.high_is c.walk_on-at.ensures.walked in
    let far : c.walk_on-at.result.0 ≡ start w t (length t) → c.args.offset - c.args.from.offset ≤ c.walk_on-at.result.1 =
    elim c.else-at-high.branch [
      | else-at-high-via-then-at-high+else-reached-room b ↦ λ _. b.if-reached-room.false
      | else-at-high-via-else-at-high b ↦ λ ends. absurd (b.if-at-high.false (ends ∙ sym c.bounds-low.ensures.high_is))
    ] in
    let there = walked-to e t c.args.from.place c.args.from.offset _ c.walk_on-at.result.0 c.walk_on-at.result.1 walked c.requires.from far in
    let same : c.args.from.offset + (c.args.offset - c.args.from.offset) ≡ c.args.offset = omega (arith, c.requires.later) in
    sym walked.boundary ∙ ap (start w t) (there.0 ∙ ap (floor Utf16 t) same)

pub returns-clause-inside : goal.returns-clause-inside
returns-clause-inside g c =
    let e = storage_of c.args.text.now.row in
    let t = c.args.text.now.text in
    let w = width_in e in
    let walked = subst (λ high. Walked w len_utf16 t c.args.from.place high (c.args.offset - c.args.from.offset) c.walk_on-at.result.0 c.walk_on-at.result.1)
    c.bounds-low.ensures.high_is c.walk_on-at.ensures.walked in
    let far : c.walk_on-at.result.0 ≡ start w t (length t) → c.args.offset - c.args.from.offset ≤ c.walk_on-at.result.1 =
    elim c.else-at-high.branch [
      | else-at-high-via-then-at-high+else-reached-room b ↦ λ _. b.if-reached-room.false
      | else-at-high-via-else-at-high b ↦ λ ends. absurd (b.if-at-high.false (ends ∙ sym c.bounds-low.ensures.high_is))
    ] in
    let there = walked-to e t c.args.from.place c.args.from.offset _ c.walk_on-at.result.0 c.walk_on-at.result.1 walked c.requires.from far in
    let same : c.args.from.offset + (c.args.offset - c.args.from.offset) ≡ c.args.offset = omega (arith, c.requires.later) in
    omega (arith, there.1, same)
