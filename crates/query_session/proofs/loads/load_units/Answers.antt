use Rattle.std.proofs.Common.{subst, List, ℕ}
use Rattle.std.proofs.lemmas.Result.{IfOk-weaker}
use Rattle.query_lines.specs.declared.command.Command.TheVariants as command
use Rattle.query_lines.specs.declared.command.Content.TheVariants as content
use Rattle.str_value.specs.Making.{MadeOfUtf16}
use Rattle.query_session.specs.Steps.{Stepped}
use Rattle.query_session.proofs.Storing.{moved-sound}
use Rattle.query_session.proofs.loads.load_units.Goals as goal

pub store_loaded-requires-clause-sound : goal.store_loaded-requires-clause-sound
store_loaded-requires-clause-sound c =
    moved-sound c.args.names.now c.args.pass.now c.from_units-value.new.pass c.requires.sound c.from_units-value.ensures.one_heap

pub returns-clause-stepped : goal.returns-clause-stepped
returns-clause-stepped c =
    let v = c.from_units-value.ensures in
    IfOk-weaker c.store_loaded.result _ _ (λ r s.
    subst (λ (name : List ℕ). Stepped r (command.Load name (content.Units c.args.units)) c.args.names.now c.args.pass.now c.store_loaded.new.names c.store_loaded.new.pass) c.string_of-name.ensures
    (s (content.Units c.args.units) c.args.pass.now (subst (λ (xs : List ℕ). MadeOfUtf16 c.args.pass.now c.from_units-value.new.pass xs c.from_units-value.result.place c.from_units-value.result.row) c.into_vec.ensures v.made) v.did v.credits)) c.store_loaded.ensures.stepped
