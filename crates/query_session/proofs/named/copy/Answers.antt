use Rattle.std.proofs.Common.{sym, ap, ◌∙◌}
use Rattle.std.specs.Str.{bytes_eq}
use Rattle.query_session.specs.State.{is_in_use}
use Rattle.query_session.specs.Values.{texts_of}
use Rattle.query_session.proofs.Copies.{copy-itself}
use Rattle.query_session.proofs.States.{same-bytes}
use Rattle.query_session.proofs.Accounts.{copied-itself}
use Rattle.query_session.proofs.named.copy.Goals as goal

pub returns-then-eq-clause-reply : goal.returns-then-eq-clause-reply
returns-then-eq-clause-reply c =
    let to = c.as_str-3.ensures.value ∙ c.string_of-to.ensures in
    let source = c.as_str-4.ensures.value ∙ c.string_of-source.ensures in
    let asked = c.as_str.ensures.value ∙ c.string_of-source.ensures in
    copy-itself (texts_of c.args.names.now) c.args.to c.args.source (sym to ∙ same-bytes _ _ (sym c.eq.ensures ∙ c.if-eq.true) ∙ source)
    (ap (is_in_use (texts_of c.args.names.now)) (sym asked) ∙ sym c.has.ensures ∙ c.if-not-has.false)

pub returns-then-eq-clause-stepped : goal.returns-then-eq-clause-stepped
returns-then-eq-clause-stepped c =
    let to = c.as_str-3.ensures.value ∙ c.string_of-to.ensures in
    let source = c.as_str-4.ensures.value ∙ c.string_of-source.ensures in
    copied-itself c.args.to c.args.source c.args.names.now c.args.pass.now ((λ i. bytes_eq (sym to i) (sym source i)) ∙ (sym c.eq.ensures ∙ c.if-eq.true)) c.requires.sound

pub copy_apart-requires-clause-apart : goal.copy_apart-requires-clause-apart
copy_apart-requires-clause-apart c =
    (λ i. bytes_eq (sym c.as_str-3.ensures.value i) ((c.as_str-5.ensures.value ∙ sym c.as_str-4.ensures.value) i)) ∙ (sym c.eq.ensures ∙ c.if-eq.false)
