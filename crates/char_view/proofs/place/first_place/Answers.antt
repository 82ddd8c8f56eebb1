use Rattle.std.proofs.Common.{sym, ap, ◌∙◌, ◌+◌, arith}
use Rattle.std.specs.Char.{len_utf8}
use Rattle.text_spec.specs.Offsets.{start}
use Rattle.text_spec.specs.Views.{width_in, part}
use Rattle.text_spec.proofs.Walk.{start-zero}
use Rattle.char_view.proofs.Parts.{text_of, place_of}
use Rattle.char_view.proofs.place.first_place.Goals as goal

pub returns-clause-text : goal.returns-clause-text
returns-clause-text g c =
    text_of _ _ _ _ _ _ c.count-count.ensures.value c.count-count.ensures.small c.count-count.ensures.denotes c.low.ensures.order c.high-high.ensures.inside

pub returns-clause-place : goal.returns-clause-place
returns-clause-place g c =
    let e = (g.T.Text.part c.args.t.now).storage in
    let b = (g.T.Text.part c.args.t.now).whole in
    let first = (g.T.Text.part c.args.t.now).first in
    let none = ap (start (width_in e) b) {x = first} {y = first + 0} (omega arith) in
    place_of e b first (g.T.Text.part c.args.t.now).end 0 _ _ (returns-clause-text g c) (omega (arith, c.low.ensures.order))
    (sym (start-zero len_utf8 (part b first (g.T.Text.part c.args.t.now).end))) (c.low.ensures.value ∙ none)
