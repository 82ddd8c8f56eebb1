use Rattle.std.proofs.Common.{ap}
use Rattle.str_value.specs.Meaning.{Meaning}
use Rattle.str_value.proofs.Copied.{apart-did}
use Rattle.str_value.proofs.value.Str.copy.Goals as goal

pub returns-in-None-clause-did : goal.returns-in-None-clause-did
returns-in-None-clause-did c =
    apart-did _ _ c.args.pass.now c.shared.new.pass c.args.self.now.place c.copied_apart.result
    (ap (λ (m : Meaning). m.place) c.in-None.ensures.kept.0) c.in-None.ensures.kept.1 c.copied_apart.ensures.copied
