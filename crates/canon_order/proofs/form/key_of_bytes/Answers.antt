use Rattle.std.proofs.Common.{sym, ap, subst, ◌∙◌, chars, IsUtf8}
use Rattle.text_spec.specs.Text.{utf8}
use Rattle.unicode_normalization.specs.Forms.{nfc}
use Rattle.canon_order.proofs.AsciiCodes.{IsAsciiText, nfc-ascii}
use Rattle.canon_order.proofs.Copying.{spelled8}
use Rattle.canon_order.proofs.form.key_of_bytes.Goals as goal

-- ASCII is its own form
pub returns-then-ascii-clause-key : goal.returns-then-ascii-clause-key
returns-then-ascii-clause-key g c =
    let copied = c.in_ok-bytes.ensures in
    let below = subst (λ t. IsAsciiText (g.T.Text.part t).whole) copied.kept (c.ascii.ensures.below (sym c.ascii.ensures.value ∙ c.if-ascii.true)) in
    copied.bytes ∙ ap utf8 (sym (nfc-ascii (g.T.Text.part c.args.t.now).whole below))

-- the bytes are a text's
pub unreachable-requires : goal.unreachable-requires
unreachable-requires g c =
    let b = (g.T.Text.part c.args.t.now).whole in
    let count = c.count-count.ensures in
    let text = spelled8 _ (g.T.Text.words c.args.t.now) _ b c.requires count.value count.denotes in
    c.in-Err.ensures.cases.0 (subst IsUtf8 (sym (c.as_slice.ensures.value ∙ c.in_ok-bytes.ensures.bytes)) text.utf8_is)

pub returns-clause-key : goal.returns-clause-key
returns-clause-key g c =
    let b = (g.T.Text.part c.args.t.now).whole in
    let count = c.count-count.ensures in
    let text = spelled8 _ (g.T.Text.words c.args.t.now) _ b c.requires count.value count.denotes in
    ap (λ v. v.items) c.into_bytes.ensures.value ∙ c.in_ok-to_nfc-in-Ok.ensures
    ∙ ap (λ bs. utf8 (nfc (chars bs))) (c.in-Ok.ensures.cases.0 ∙ c.as_slice.ensures.value ∙ c.in_ok-bytes.ensures.bytes)
    ∙ ap (λ t. utf8 (nfc t)) text.chars_are
