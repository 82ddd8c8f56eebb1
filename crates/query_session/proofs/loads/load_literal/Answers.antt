use Rattle.std.proofs.Common.{subst, List, ℕ}
use Rattle.std.proofs.lemmas.Result.{IfOk-weaker}
use Rattle.query_lines.specs.declared.command.Command.TheVariants as command
use Rattle.query_lines.specs.declared.command.Content.TheVariants as content
use Rattle.query_session.specs.Steps.{Stepped}
use Rattle.query_session.proofs.Accounts.{literal-did, literal-credits}
use Rattle.query_session.proofs.loads.load_literal.Goals as goal

pub returns-clause-stepped : goal.returns-clause-stepped
returns-clause-stepped c =
    let e = c.in-Some.ensures in
    let p = c.args.pass.now in
    let q = c.literal.new.pass in
    let v = c.in-Some.value in
    IfOk-weaker c.store_loaded.result _ _ (λ r s.
    subst (λ (name : List ℕ). Stepped r (command.Load name (content.Literal c.args.number)) c.args.names.now p c.store_loaded.new.names c.store_loaded.new.pass) c.string_of-name.ensures
    (s (content.Literal c.args.number) p (e.pass, e.literal) (literal-did p q c.args.number v e.pass e.literal) (literal-credits p q c.args.number v e.pass e.literal))) c.store_loaded.ensures.stepped
