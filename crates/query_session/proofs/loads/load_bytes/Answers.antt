use Rattle.std.proofs.Common.{◌≡◌, sym, ap, subst, ◌∙◌, IfOk, OnErr, IsUtf8}
use Rattle.query_session.specs.Reply.{IsRefused}
use Rattle.std.specs.Str.Lossy.{utf8_valid_len}
use Rattle.query_lines.specs.declared.reply.Reply.{Reply}
use Rattle.query_session.specs.State.{State}
use Rattle.query_session.specs.Values.{texts_of}
use Rattle.query_session.proofs.Accounts.{raw-stepped}
use Rattle.std.proofs.lemmas.Result.{IfOk-weaker}
use Rattle.query_session.proofs.Decoding.{refused_at, load-bytes, load-others}
use Rattle.query_session.proofs.loads.load_bytes.Goals as goal

pub returns-in-Err-clause-reply : goal.returns-in-Err-clause-reply
returns-in-Err-clause-reply c =
    ap (refused_at (texts_of c.args.names.now)) (c.valid_up_to.ensures ∙ c.in-Err.ensures.valid_len ∙ ap utf8_valid_len c.as_slice.ensures)
    ∙ sym (load-others (texts_of c.args.names.now) c.args.name c.args.bytes (subst (λ bs. ¬ (IsUtf8 bs)) c.as_slice.ensures c.in-Err.ensures.cases.0))

pub returns-clause-reply : goal.returns-clause-reply
returns-clause-reply c =
    subst (λ (wanted : Reply × State). IfOk c.load_text.result (λ r. ◌≡◌ {A = Reply × State} (r, texts_of c.load_text.new.names) wanted))
    (sym (load-bytes (texts_of c.args.names.now) c.args.name c.args.bytes (subst IsUtf8 c.as_slice.ensures c.in_default.ensures.cases.1))) c.load_text.ensures.reply

pub returns-clause-refused_is_free : goal.returns-clause-refused_is_free
returns-clause-refused_is_free c =
    subst (λ (wanted : Reply × State). OnErr c.load_text.result (¬ (IsRefused (wanted.0))))
    (sym (load-bytes (texts_of c.args.names.now) c.args.name c.args.bytes (subst IsUtf8 c.as_slice.ensures c.in_default.ensures.cases.1))) c.load_text.ensures.refused_is_free

pub returns-clause-stepped : goal.returns-clause-stepped
returns-clause-stepped c = IfOk-weaker c.load_text.result _ _ (λ r s. raw-stepped r c.args.name c.args.bytes _ _ _ _ s) c.load_text.ensures.stepped
