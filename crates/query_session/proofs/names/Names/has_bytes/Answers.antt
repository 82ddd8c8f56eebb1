use Rattle.std.proofs.Common.{Bool, true, false, refl, is_some, sym, ap, ◌∙◌, ◌≡◌}
use Rattle.std.specs.FinMap as finite
use Rattle.query_session.specs.State.{is_in_use}
use Rattle.query_session.specs.Values.{Values, texts_of}
use Rattle.query_session.specs.Held.{held}
use Rattle.query_session.proofs.Sums.{has-texts}
use Rattle.query_session.proofs.Held.{get-held, some-copied, named-text}
use Rattle.query_session.proofs.names.Names.has_bytes.Goals as goal

-- what is no text is no name in use
unless : (b : Bool) → (b ≡ true → ⊥) → false ≡ b
unless true not = absurd (not refl)
unless false not = refl

pub returns-in-Ok : goal.returns-in-Ok
returns-in-Ok c =
    c.is_some.ensures ∙ (some-copied c.get.result ∙ (ap is_some (c.get.ensures.value ∙ sym (get-held c.self.inside.values c.in-Ok.name.now))
    ∙ (ap (finite.contains_key (held c.self.inside.values.entries)) c.in-Ok.ensures.cases.0
    ∙ (ap (λ (m : Values). finite.contains_key m c.args.name.now) c.self.view_is ∙ sym (has-texts c.args.self.now c.args.name.now)))))

pub returns-in-Err : goal.returns-in-Err
returns-in-Err c =
    unless (is_in_use (texts_of c.args.self.now) c.args.name.now) (λ is. c.in-Err.ensures.cases.0 (named-text c.self.inside.values c.args.name.now
    (ap (λ (m : Values). is_in_use (texts_of m) c.args.name.now) c.self.view_is ∙ is)))
