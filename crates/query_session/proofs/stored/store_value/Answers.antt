use Rattle.std.proofs.Common.{sym, subst, Option, string_bytes}
use Rattle.std.specs.Option.{IfSome}
use Rattle.slot_accounts.specs.Account.{Keeps}
use Rattle.str_value.specs.Meaning.{Meaning, OfHeap}
use Rattle.query_session.specs.Values.{weight}
use Rattle.query_session.proofs.Storing.{stored-credits, stored-sound}
use Rattle.query_session.proofs.stored.store_value.Goals as goal

pub release_old-requires : goal.release_old-requires
release_old-requires c =
    subst (λ (o : Option Meaning). IfSome o (λ (s : Meaning). OfHeap c.args.pass.now s.place)) (sym c.in_ok-old.ensures.before) (c.requires.sound.heap (string_bytes c.args.name))

pub returns-clause-did : goal.returns-clause-did
returns-clause-did c = let d = c.release_old.ensures.did in (d.0, d.1, d.3)

pub returns-clause-credits : goal.returns-clause-credits
returns-clause-credits c =
    let gone = subst (λ (o : Option Meaning). Keeps c.args.pass.now (weight o) c.release_old.new.pass 0) c.in_ok-old.ensures.before c.release_old.ensures.credits in
    stored-credits c.args.names.now c.put.new.self (string_bytes c.args.name) c.args.value c.args.pass.now c.release_old.new.pass c.in_ok-old.ensures.stored gone

pub returns-clause-sound : goal.returns-clause-sound
returns-clause-sound c =
    stored-sound c.args.names.now c.put.new.self (string_bytes c.args.name) c.args.value c.args.pass.now c.release_old.new.pass c.requires.sound
    c.release_old.ensures.did.3.one_heap c.requires.heap c.requires.room c.in_ok-old.ensures.stored
