use Rattle.std.proofs.Common.{◌≡◌, ◌≤◌, ◌-◌, ap, subst, ◌∙◌}
use Rattle.text_spec.specs.Offsets.{start, down}
use Rattle.text_spec.specs.Views.{width_in}
use Rattle.index_words.specs.Fields.{position_of, transcoded_of}
use Rattle.str_value.specs.Meaning.{Meaning, storage_of}
use Rattle.batch_workers.proofs.Boundaries.{found-at, units-count}
use Rattle.batch_workers.proofs.place.edge_at.Goals as goal

pub rounded-requires : goal.rounded-requires
rounded-requires g c =
    let t = c.args.text.now.text in
    let is = found-at c.args.unit (storage_of c.args.text.now.row) t c.args.offset c.in-Ok.index c.in-Ok.ensures.index.1
    (subst (λ n. c.args.offset ≤ n) (units-count c.args.unit t (storage_of c.args.text.now.row)) c.in-Ok.ensures.index.0) in
    rw c.index_at.ensures.kept is.inside

pub returns-in-Ok-clause-place : goal.returns-in-Ok-clause-place
returns-in-Ok-clause-place g c =
    let t = c.args.text.now.text in
    let is = found-at c.args.unit (storage_of c.args.text.now.row) t c.args.offset c.in-Ok.index c.in-Ok.ensures.index.1
    (subst (λ n. c.args.offset ≤ n) (units-count c.args.unit t (storage_of c.args.text.now.row)) c.in-Ok.ensures.index.0) in
    c.rounded.ensures.place ∙ rw c.index_at.ensures.kept (ap (start (width_in (storage_of c.args.text.now.row)) t) is.place)

pub returns-in-Ok-clause-offset : goal.returns-in-Ok-clause-offset
returns-in-Ok-clause-offset g c =
    let t = c.args.text.now.text in
    let is = found-at c.args.unit (storage_of c.args.text.now.row) t c.args.offset c.in-Ok.index c.in-Ok.ensures.index.1
    (subst (λ n. c.args.offset ≤ n) (units-count c.args.unit t (storage_of c.args.text.now.row)) c.in-Ok.ensures.index.0) in
    let place = subst (λ (m : Meaning). c.rounded.result.place ≡ start (width_in (storage_of m.row)) m.text (down (width_in (storage_of m.row)) m.text (position_of c.in-Ok.index)))
    c.index_at.ensures.kept c.rounded.ensures.place in
    c.rounded.ensures.offset ∙ ap (λ p. c.args.offset - (position_of c.in-Ok.index - p) - transcoded_of c.in-Ok.index) place ∙ is.begins
