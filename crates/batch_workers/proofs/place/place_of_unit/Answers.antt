use Rattle.std.proofs.Common.{ap, arith}
use Rattle.text_spec.specs.declared.encoding.Encoding.TheVariants.{Utf16}
use Rattle.text_spec.specs.Views.{size_in}
use Rattle.batch_workers.proofs.Boundaries.{units-start}
use Rattle.batch_workers.proofs.place.place_of_unit.Goals as goal

pub returns-then-count-offset-clause-past : goal.returns-then-count-offset-clause-past
returns-then-count-offset-clause-past g c =
    let t = c.args.text.now.text in
    (omega (arith, c.count-count.ensures.value, ap (λ e. size_in e t) c.requires, units-start Utf16 t), c.if-count-offset.true)

pub returns-clause-inside : goal.returns-clause-inside
returns-clause-inside g c =
    let t = c.args.text.now.text in
    omega (arith, c.count-count.ensures.value, ap (λ e. size_in e t) c.requires, units-start Utf16 t, c.if-count-offset.false)
