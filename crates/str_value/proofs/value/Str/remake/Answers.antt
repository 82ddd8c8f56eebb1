use Rattle.std.proofs.Common.{arith}
use Rattle.text_spec.specs.Text.{utf8}
use Rattle.str_value.proofs.Spliced.{length-splice}
use Rattle.str_value.proofs.value.Str.remake.Goals as goal

pub hold_spliced-requires-clause-few : goal.hold_spliced-requires-clause-few
hold_spliced-requires-clause-few g c =
    omega (arith, length-splice (utf8 c.args.self.now.text) c.args.with.now c.args.part.low c.args.part.high c.requires.order (omega (arith, c.requires.inside, c.requires.count)), c.requires.count, c.if-length.true)
