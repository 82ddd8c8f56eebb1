use Rattle.std.proofs.Common.{refl, sym, subst, ◌∙◌, ◌+◌, ◌-◌, inl, inr, arith}
use Rattle.text_spec.specs.Views.{width_in}
use Rattle.unit_views.specs.Elements.{view_width}
use Rattle.unit_views.specs.Spots.{Passing, Walked}
use Rattle.unit_views.proofs.Between.{down-mono}
use Rattle.unit_views.proofs.Walks.{walked_ascii, further, full}
use Rattle.unit_views.proofs.walk.walk_on.Goals as goal
use Rattle.unit_views.proofs.walk.walk_on.Goals.{then-room-to, else-room-to}

pub returns-then-ascii-clause-walked : goal.returns-then-ascii-clause-walked
returns-then-ascii-clause-walked g c =
    let e = (g.T.Text.part c.args.t.now).storage in
    let b = (g.T.Text.part c.args.t.now).whole in
    let below = c.ascii.ensures.below (sym c.ascii.ensures.value ∙ c.if-ascii.true) in
    elim c.if-room-to.branch [
      | then-room-to w ↦ subst (λ at. Walked (width_in e) (view_width c.args.view) b c.args.from c.args.to c.args.room at (at - c.args.from)) (sym w.at-is)
          (walked_ascii c.args.view e b below c.args.from c.args.to c.args.room (c.args.from + c.args.room) (omega arith) (omega (arith, w.if-room-to, c.requires.order)) c.requires.inside (omega arith) (inr refl))
      | else-room-to w ↦ subst (λ at. Walked (width_in e) (view_width c.args.view) b c.args.from c.args.to c.args.room at (at - c.args.from)) (sym w.at-is)
          (walked_ascii c.args.view e b below c.args.from c.args.to c.args.room c.args.to c.requires.order (omega arith) c.requires.inside (omega (arith, w.if-room-to)) (inl refl))
    ]

pub returns-then-ascii-clause-pass : goal.returns-then-ascii-clause-pass
returns-then-ascii-clause-pass g c =
    omega (arith, down-mono (width_in (g.T.Text.part c.args.t.now).storage) (g.T.Text.part c.args.t.now).whole c.args.from c.args.to c.requires.order)

pub returns-then-reached-room-clause-walked : goal.returns-then-reached-room-clause-walked
returns-then-reached-room-clause-walked g c =
    let now = c.elements.invariant in
    record {
      boundary = now.boundary;
      after = now.after;
      within = now.within;
      counted = now.counted;
      fits = now.fits;
      last = inr (c.elements-test.true, full c.args.view _ _ c.args.from c.elements.at c.args.to c.args.room c.elements.reached now.boundary c.elements-test.true c.requires.inside now.counted c.if-reached-room.true);
    }

pub returns-then-reached-room-clause-pass : goal.returns-then-reached-room-clause-pass
returns-then-reached-room-clause-pass g c =
    let now = c.elements.invariant in
    omega (arith, now.pass, down-mono (width_in (g.T.Text.part c.args.t.now).storage) (g.T.Text.part c.args.t.now).whole c.elements.at c.args.to now.within)

pub returns-then-room-reached-clause-pass : goal.returns-then-room-reached-clause-pass
returns-then-room-reached-clause-pass g c =
    let now = c.elements.invariant in
    let p = subst (λ t. Passing (width_in (g.T.Text.part t).storage) (view_width c.args.view) (g.T.Text.part t).whole c.elements.at c.args.to (c.args.room - c.elements.reached) c.pass_elements-next.result.0 c.pass_elements-next.result.1)
    now.same c.pass_elements-next.ensures.passes in
    omega (
      arith,
      now.pass,
      c.pass_elements-next.ensures.cost,
      further c.args.view (g.T.Text.part c.args.t.now).storage (g.T.Text.part c.args.t.now).whole c.elements.at c.args.to (c.args.room - c.elements.reached) _ _ p c.requires.inside,
    )
