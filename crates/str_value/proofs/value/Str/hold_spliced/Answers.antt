use Rattle.std.proofs.Common.{◌≡◌, ap, subst, ◌∙◌}
use Rattle.str_value.specs.Meaning.{Meaning, credit_of}
use Rattle.slot_accounts.specs.Account.{Keeps}
use Rattle.str_value.proofs.Remaking.{GivenUp, remade-small}
use Rattle.str_value.proofs.value.Str.hold_spliced.Goals as goal

pub returns-clause-remade : goal.returns-clause-remade
returns-clause-remade g c =
    let old : c.replace.result ≡ c.args.self.now = c.replace.ensures.value ∙ c.small_after-value.ensures.kept in
    let new : c.replace.new.dest ≡ c.small_after-value.result = c.replace.ensures.after in
    remade-small c.args.pass.now c.release.new.pass c.args.self.now c.replace.new.dest _
    (ap (λ (m : Meaning). m.place) new ∙ c.small_after-value.ensures.place) (ap (λ (m : Meaning). m.row) new ∙ c.small_after-value.ensures.row) c.requires.few
    (subst (λ (m : Meaning). GivenUp m c.args.pass.now c.release.new.pass) old c.release.ensures.did)
    (subst (λ (m : Meaning). Keeps c.args.pass.now (credit_of m.place) c.release.new.pass 0) old c.release.ensures.credits)
