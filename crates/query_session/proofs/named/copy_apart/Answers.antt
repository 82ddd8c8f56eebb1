use Rattle.std.proofs.Common.{ap, ◌∙◌, string_bytes}
use Rattle.query_session.specs.State.{State, has_room}
use Rattle.query_session.specs.Values.{texts_of}
use Rattle.query_session.proofs.Ran.{whatever}
use Rattle.query_session.proofs.Texts.{copied-texts, copy-stored}
use Rattle.query_session.proofs.Accounts.{copied-apart}
use Rattle.query_session.proofs.named.copy_apart.Goals as goal

pub store_value-requires-clause-room : goal.store_value-requires-clause-room
store_value-requires-clause-room c =
    ap (λ (s : State). has_room s (string_bytes c.args.to))
    (copied-texts c.args.names.now c.copy.new.self c.args.source.now c.args.pass.now c.copy.new.pass c.in_ok-value.value c.in_ok-value.ensures.copied) ∙ c.requires.room

pub returns-in_err-store_value-clause-kept : goal.returns-in_err-store_value-clause-kept
returns-in_err-store_value-clause-kept c =
    whatever c.from_residual-in_err-store_value.result _ (ap texts_of c.in_err-store_value.ensures.kept
    ∙ copied-texts c.args.names.now c.copy.new.self c.args.source.now c.args.pass.now c.copy.new.pass c.in_ok-value.value c.in_ok-value.ensures.copied)

pub returns-clause-reply : goal.returns-clause-reply
returns-clause-reply c =
    copy-stored c.args.names.now c.copy.new.self c.store_value.new.names (string_bytes c.args.to) c.args.source.now c.args.pass.now c.copy.new.pass c.in_ok-value.value
    c.requires.room c.in_ok-value.ensures.copied c.in_ok-store_value.ensures.stored

pub returns-clause-stepped : goal.returns-clause-stepped
returns-clause-stepped c =
    let k = c.in_ok-value.ensures in
    let e = c.in_ok-store_value.ensures in
    copied-apart (string_bytes c.args.to) c.args.source.now c.args.names.now c.copy.new.self c.store_value.new.names c.args.pass.now c.copy.new.pass c.store_value.new.pass
    c.in_ok-value.value c.requires.apart k.copied e.stored e.did k.credits e.credits e.sound
