use Rattle.std.proofs.Common.{refl, sym, ◌∙◌, arith}
use Rattle.text_spec.specs.Offsets.{down}
use Rattle.text_spec.specs.Views.{width_in}
use Rattle.text_spec.proofs.Walk.{start-mono}
use Rattle.unit_views.specs.Elements.{view_width}
use Rattle.unit_views.proofs.Between.{down-mono}
use Rattle.unit_views.proofs.Walks.{ascii_starts, back_ascii, back_most}
use Rattle.unit_views.proofs.back.walk_back.Goals as goal

pub returns-then-room-from-clause-cause : goal.returns-then-room-from-clause-cause
returns-then-room-from-clause-cause g c =
    let starts = ascii_starts c.args.view (g.T.Text.part c.args.t.now).storage (g.T.Text.part c.args.t.now).whole (c.ascii.ensures.below (sym c.ascii.ensures.value ∙ c.if-ascii.true)) in
    (λ _. omega (arith, starts c.args.from c.requires.inside, starts c.args.to (omega (arith, c.requires.order, c.requires.inside)), c.if-room-from.true, c.requires.order), λ _. refl)

pub returns-else-room-from-clause-walked : goal.returns-else-room-from-clause-walked
returns-else-room-from-clause-walked g c =
    back_ascii c.args.view (g.T.Text.part c.args.t.now).storage (g.T.Text.part c.args.t.now).whole (c.ascii.ensures.below (sym c.ascii.ensures.value ∙ c.if-ascii.true))
    c.args.from c.args.to c.args.room c.requires.order c.requires.inside (omega (arith, c.if-room-from.false))

pub returns-else-room-from-clause-cause : goal.returns-else-room-from-clause-cause
returns-else-room-from-clause-cause g c =
    let starts = ascii_starts c.args.view (g.T.Text.part c.args.t.now).storage (g.T.Text.part c.args.t.now).whole (c.ascii.ensures.below (sym c.ascii.ensures.value ∙ c.if-ascii.true)) in
    (λ e. cc, λ h. absurd (omega (arith, h, starts c.args.from c.requires.inside, starts c.args.to (omega (arith, c.requires.order, c.requires.inside)), c.if-room-from.false)))

pub overflow_add-reached : goal.overflow_add-reached
overflow_add-reached g c =
    omega (
      arith,
      c.elements.invariant.counted,
      c.back_elements-previous.ensures.backs.few,
      back_most c.args.view (g.T.Text.part c.args.t.now).storage (g.T.Text.part c.args.t.now).whole c.args.from c.requires.inside (omega (arith, c.count-count.ensures.value, c.count-count.ensures.small)),
    )

pub returns-clause-cause : goal.returns-clause-cause
returns-clause-cause g c =
    let now = c.elements.invariant in
    let w = width_in (g.T.Text.part c.args.t.now).storage in
    let b = (g.T.Text.part c.args.t.now).whole in (
      λ e. cc,
      λ h. absurd (omega (
        arith,
        h,
        now.counted,
        c.elements-test.false,
        start-mono (view_width c.args.view) b (down w b c.args.to) (down w b c.elements.at) (down-mono w b c.args.to c.elements.at now.within),
      )),
    )

pub returns-then-room-from-clause-pass : goal.returns-then-room-from-clause-pass
returns-then-room-from-clause-pass g c =
    omega (arith, down-mono (width_in (g.T.Text.part c.args.t.now).storage) (g.T.Text.part c.args.t.now).whole c.args.to c.args.from c.requires.order)

pub returns-else-room-from-clause-pass : goal.returns-else-room-from-clause-pass
returns-else-room-from-clause-pass g c =
    omega (arith, down-mono (width_in (g.T.Text.part c.args.t.now).storage) (g.T.Text.part c.args.t.now).whole c.args.to c.args.from c.requires.order)

pub returns-clause-pass : goal.returns-clause-pass
returns-clause-pass g c =
    omega (
      arith,
      c.elements.invariant.pass,
      down-mono (width_in (g.T.Text.part c.args.t.now).storage) (g.T.Text.part c.args.t.now).whole c.args.to c.elements.at c.elements.invariant.within,
    )
