use Rattle.std.proofs.Common.{sym, ap, ◌∙◌, true≢false}
use Rattle.std.specs.FinMap as finite
use Rattle.query_session.specs.State.{is_in_use}
use Rattle.query_session.specs.Values.{Values, texts_of}
use Rattle.query_session.specs.Held.{held}
use Rattle.query_session.proofs.Held.{get-held, not_in_use, named-text}
use Rattle.query_session.proofs.names.Names.value.Goals as goal

pub unreachable-requires : goal.unreachable-requires
unreachable-requires c =
    c.in_default.ensures.cases.0 (named-text c.self.inside.values c.args.name.now
    (ap (λ (m : Values). is_in_use (texts_of m) c.args.name.now) c.self.view_is ∙ c.requires))

pub unreachable-requires-in-None : goal.unreachable-requires-in-None
unreachable-requires-in-None c =
    let m = held c.self.inside.values.entries in
    true≢false (sym c.requires ∙ ap (λ (m : Values). is_in_use (texts_of m) c.args.name.now) (sym c.self.view_is)
    ∙ ap (is_in_use (texts_of m)) (sym c.in-Ok.ensures.cases.0)
    ∙ not_in_use c.self.inside.values c.in-Ok.name.now (sym c.in-None.ensures.value))

pub returns : goal.returns
returns c =
    ap (λ (m : Values). finite.get m c.args.name.now) (sym c.self.view_is) ∙ ap (finite.get (held c.self.inside.values.entries)) (sym c.in-Ok.ensures.cases.0)
    ∙ (get-held c.self.inside.values c.in-Ok.name.now ∙ sym c.in-Some.ensures.value)
