use Rattle.std.proofs.Common.{sym, subst}
use Rattle.slot_accounts.specs.Account.{Did}
use Rattle.slot_accounts.proofs.Doing.{Did-nothing}
use Rattle.str_value.specs.Meaning.{Place}
use Rattle.str_value.specs.Making.{making}
use Rattle.str_value.proofs.value.Str.from_vec.Goals as goal

pub returns-in-Some-clause-did : goal.returns-in-Some-clause-did
returns-in-Some-clause-did c =
    subst (λ (o : Place). Did (making o) c.args.pass.now c.args.pass.now) (sym c.in-Some.ensures.place) (Did-nothing c.args.pass.now)
