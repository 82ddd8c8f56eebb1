use Rattle.std.proofs.Common.{◌≡◌, sym, ap, ◌∙◌, subst, List, ℕ}
use Rattle.query_lines.specs.declared.command.Command.TheVariants as command
use Rattle.query_lines.specs.declared.reply.Refusal.TheVariants as refusal
use Rattle.query_lines.specs.declared.reply.Reply.{Reply}
use Rattle.query_lines.specs.declared.reply.Reply.TheVariants as reply
use Rattle.query_session.specs.Reply.{drop_reply}
use Rattle.query_session.specs.State.{State}
use Rattle.query_session.specs.Steps.{Done}
use Rattle.query_session.specs.Values.{texts_of}
use Rattle.query_session.proofs.Maps.{remove-absent}
use Rattle.query_session.proofs.Storing.{of-found}
use Rattle.query_session.proofs.Texts.{drop-there, drop-none}
use Rattle.query_session.proofs.Accounts.{dropped, stepped-absent}
use Rattle.query_session.proofs.named.drop_name.Goals as goal

pub release-requires : goal.release-requires
release-requires c = of-found c.args.pass.now c.args.names.now _ c.in-Some.value c.requires.sound.heap (sym c.in-Some.ensures.value)

pub returns-in-Some-clause-reply : goal.returns-in-Some-clause-reply
returns-in-Some-clause-reply c =
    let n = c.as_str.ensures.value ∙ c.string_of-name.ensures in
    subst (λ (k : List ℕ). ◌≡◌ {A = Reply × State} (reply.Dropped, texts_of c.take.new.self) (drop_reply (texts_of c.args.names.now) k)) n
    (drop-there c.args.names.now c.take.new.self _ c.in-Some.value (sym c.in-Some.ensures.value) c.in-Some.ensures.left)

pub returns-in-Some-clause-stepped : goal.returns-in-Some-clause-stepped
returns-in-Some-clause-stepped c =
    let n = c.as_str.ensures.value ∙ c.string_of-name.ensures in
    let d = c.release.ensures.did in
    subst (λ (k : List ℕ). Done (command.Drop k) c.args.names.now c.args.pass.now c.take.new.self c.release.new.pass) n
    (dropped _ c.args.names.now c.take.new.self c.args.pass.now c.release.new.pass c.in-Some.value c.requires.sound (sym c.in-Some.ensures.value) c.in-Some.ensures.left
    d.0 d.1 d.3 c.release.ensures.credits c.release.ensures.one_heap)

pub returns-in-None-clause-reply : goal.returns-in-None-clause-reply
returns-in-None-clause-reply c =
    let n = c.as_str.ensures.value ∙ c.string_of-name.ensures in
    ap (λ (r : Reply). (r, texts_of c.take.new.self)) (c.no_name.ensures.reply ∙ ap (λ (k : List ℕ). reply.Refused (refusal.NoName k)) c.string_of-name.ensures)
    ∙ subst (λ (k : List ℕ). ◌≡◌ {A = Reply × State} (reply.Refused (refusal.NoName k), texts_of c.take.new.self) (drop_reply (texts_of c.args.names.now) k)) n
    (drop-none c.args.names.now c.take.new.self _ (sym c.in-None.ensures.value) c.in-None.ensures.left)

pub returns-in-None-clause-stepped : goal.returns-in-None-clause-stepped
returns-in-None-clause-stepped c =
    stepped-absent c.no_name.result _ (command.Drop c.args.name) c.args.names.now c.take.new.self c.args.pass.now c.no_name.ensures.reply
    (c.in-None.ensures.left ∙ remove-absent c.args.names.now _ (sym c.in-None.ensures.value))
