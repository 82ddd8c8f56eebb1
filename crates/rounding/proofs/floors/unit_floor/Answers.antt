use Rattle.std.proofs.Common.{sym, ap, ◌∙◌, true}
use Rattle.index_words.specs.Fields.{plain, word_of}
use Rattle.rounding.specs.Resolving.{index_at}
use Rattle.rounding.proofs.Places.{unit_index, index_at_told, boundary_told}
use Rattle.rounding.proofs.floors.unit_floor.Goals as goal

pub returns-then-at-position-clause-floor : goal.returns-then-at-position-clause-floor
returns-then-at-position-clause-floor g c =
    index_at_told c.encoding-encoding.result (g.T.Text.part c.args.t.now).storage (g.T.Text.part c.args.t.now).whole true c.boundary_before-at.result 0 _ c.encoding-encoding.ensures
    (boundary_told _ _ _ 0 c.boundary_before-at.ensures.floor.boundary) c.index_from.ensures
    ∙ ap (λ p. index_at (g.T.Text.part c.args.t.now) (p, 0)) (c.if-at-position.true ∙ c.position-position.ensures.value)

pub returns-clause-floor : goal.returns-clause-floor
returns-clause-floor g c =
    unit_index c.encoding-encoding.result _ _ _ _ _ _ _ c.boundary_before-at.ensures.floor c.encoding-encoding.ensures
    (λ e. c.if-at-position.false (e ∙ sym c.position-position.ensures.value))
    (c.new.ensures ∙ ap (λ p. word_of (plain p 0 c.encoding-encoding.result)) c.position-position.ensures.value)
