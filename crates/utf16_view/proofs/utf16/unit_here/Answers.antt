use Rattle.std.proofs.Common.{sym, ap, subst, ◌∙◌, ◌<◌, get_or, arith}
use Rattle.std.specs.Char.Escape.{encode_utf16}
use Rattle.text_spec.specs.Offsets.{len_utf16}
use Rattle.text_spec.specs.declared.encoding.Encoding.TheVariants.{Utf16}
use Rattle.unit_views.specs.declared.kind.ElementKind.TheVariants.{Units}
use Rattle.unit_views.specs.Elements.{is_own}
use Rattle.unit_views.proofs.Between.{order_of}
use Rattle.unit_views.proofs.Reading.{past_inside, unit_across, unit_own}
use Rattle.utf16_view.proofs.utf16.unit_here.Goals as goal

pub unit_of_scalar-requires : goal.unit_of_scalar-requires
unit_of_scalar-requires g c =
    let e = (g.T.Text.part c.args.t.now).storage in
    let is = c.bounds-low.ensures in
    subst (λ s. c.args.spot.past < len_utf16 s) (sym c.scalar_at-scalar.ensures.scalar)
    (past_inside Utf16 e (g.T.Text.part c.args.t.now).whole (g.T.Text.part c.args.t.now).first (g.T.Text.part c.args.t.now).end c.args.spot.at c.args.spot.past
    (order_of e _ _ _ _ _ is) is.end_inside (omega (arith, is.high_is, is.high_small)) c.requires.spot c.requires.inside
    (ap (is_own (Units Utf16)) (sym c.encoding.ensures ∙ c.in-Utf8.is)))

pub returns-in-Utf16-clause-value : goal.returns-in-Utf16-clause-value
returns-in-Utf16-clause-value g c =
    let e = (g.T.Text.part c.args.t.now).storage in
    let is = c.bounds-low.ensures in
    c.unit_at.ensures.value
    ∙ unit_own Utf16 e (g.T.Text.part c.args.t.now).whole (g.T.Text.part c.args.t.now).first (g.T.Text.part c.args.t.now).end c.args.spot.at c.args.spot.past
    (order_of e _ _ _ _ _ is) is.end_inside (omega (arith, is.high_is, is.high_small)) c.requires.spot c.requires.inside
    (sym c.in-Utf16.is ∙ c.encoding.ensures) (ap (is_own (Units Utf16)) (sym c.encoding.ensures ∙ c.in-Utf16.is))

pub returns-in-Utf8-clause-value : goal.returns-in-Utf8-clause-value
returns-in-Utf8-clause-value g c =
    let e = (g.T.Text.part c.args.t.now).storage in
    let is = c.bounds-low.ensures in
    c.unit_of_scalar.ensures
    ∙ ap (λ s. get_or (encode_utf16 s) c.args.spot.past 0) c.scalar_at-scalar.ensures.scalar
    ∙ unit_across Utf16 e (g.T.Text.part c.args.t.now).whole (g.T.Text.part c.args.t.now).first (g.T.Text.part c.args.t.now).end c.args.spot.at c.args.spot.past
    (order_of e _ _ _ _ _ is) is.end_inside (omega (arith, is.high_is, is.high_small)) c.requires.spot c.requires.inside
    (ap (is_own (Units Utf16)) (sym c.encoding.ensures ∙ c.in-Utf8.is))
