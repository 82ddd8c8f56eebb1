use Rattle.std.proofs.Common.{ap, ◌∙◌, ◌+◌}
use Rattle.text_spec.specs.Views.{other_width}
use Rattle.word_units.proofs.Passing.{passes}
use Rattle.word_units.proofs.walk.pass_scalar.Goals as goal

pub returns-clause-passes : goal.returns-clause-passes
returns-clause-passes g c =
    let e = (g.T.Text.part c.args.t.now).storage in
    passes e (g.T.Text.part c.args.t.now).whole _ _ c.args.at _ _ c.requires.inside c.requires.boundary
    (ap (λ n. c.args.at + n) c.scalar_at-scalar.ensures.width)
    (c.other_len.ensures ∙ ap (λ f. other_width f c.scalar_at-scalar.result.0) c.encoding-encoding.ensures ∙ ap (other_width e) c.scalar_at-scalar.ensures.scalar)
