use Rattle.std.proofs.Common.{sym, ap, ◌∙◌, ◌==◌, true, Some, arith, refl}
use Rattle.rounding.proofs.Ascii.{ascii_offset}
use Rattle.rounding.proofs.Places.{boundary_told, index_from_told, other_low, other_high}
use Rattle.rounding.proofs.resolution.resolve_ascii.Goals as goal

pub returns-then-offset-low-clause-refused : goal.returns-then-offset-low-clause-refused
returns-then-offset-low-clause-refused g c =
    other_low _ _ (g.T.Text.part c.args.t.now).first (g.T.Text.part c.args.t.now).end c.args.offset (omega (arith, c.if-offset-low.true, (ascii_offset _ _ (c.ascii-ascii.ensures.below c.requires) _ _ _ _ c.args.offset c.bounds-low.ensures (omega (arith, c.low-low.ensures.order, c.high-high.ensures.inside))).low_other))

pub returns-then-offset-low-clause-carries : goal.returns-then-offset-low-clause-carries
returns-then-offset-low-clause-carries g c = rw (← (ascii_offset _ _ (c.ascii-ascii.ensures.below c.requires) _ _ _ _ c.args.offset c.bounds-low.ensures (omega (arith, c.low-low.ensures.order, c.high-high.ensures.inside))).low_other, ← (ascii_offset _ _ (c.ascii-ascii.ensures.below c.requires) _ _ _ _ c.args.offset c.bounds-low.ensures (omega (arith, c.low-low.ensures.order, c.high-high.ensures.inside))).high_other) refl

pub returns-then-high-offset-clause-refused : goal.returns-then-high-offset-clause-refused
returns-then-high-offset-clause-refused g c =
    other_high _ _ (g.T.Text.part c.args.t.now).first (g.T.Text.part c.args.t.now).end c.args.offset (omega (arith, c.if-high-offset.true, (ascii_offset _ _ (c.ascii-ascii.ensures.below c.requires) _ _ _ _ c.args.offset c.bounds-low.ensures (omega (arith, c.low-low.ensures.order, c.high-high.ensures.inside))).high_other))

pub returns-then-high-offset-clause-carries : goal.returns-then-high-offset-clause-carries
returns-then-high-offset-clause-carries g c = rw (← (ascii_offset _ _ (c.ascii-ascii.ensures.below c.requires) _ _ _ _ c.args.offset c.bounds-low.ensures (omega (arith, c.low-low.ensures.order, c.high-high.ensures.inside))).low_other, ← (ascii_offset _ _ (c.ascii-ascii.ensures.below c.requires) _ _ _ _ c.args.offset c.bounds-low.ensures (omega (arith, c.low-low.ensures.order, c.high-high.ensures.inside))).high_other) refl

pub returns-clause-found : goal.returns-clause-found
returns-clause-found g c =
    let there = ascii_offset _ _ (c.ascii-ascii.ensures.below c.requires) _ _ _ _ c.args.offset c.bounds-low.ensures (omega (arith, c.low-low.ensures.order, c.high-high.ensures.inside)) in
    there.place c.if-offset-low.false c.if-high-offset.false
    ∙ ap Some (sym (index_from_told _ _ _ true (0 == 0) c.args.offset 0 _ (omega arith) c.encoding.ensures
    (boundary_told _ _ c.args.offset 0 (there.boundary c.if-high-offset.false)) c.index_from.ensures).place)

pub returns-clause-word : goal.returns-clause-word
returns-clause-word g c =
    let there = ascii_offset _ _ (c.ascii-ascii.ensures.below c.requires) _ _ _ _ c.args.offset c.bounds-low.ensures (omega (arith, c.low-low.ensures.order, c.high-high.ensures.inside)) in
    (index_from_told _ _ _ true (0 == 0) c.args.offset 0 _ (omega arith) c.encoding.ensures
    (boundary_told _ _ c.args.offset 0 (there.boundary c.if-high-offset.false)) c.index_from.ensures).word
