use Rattle.std.proofs.Common.{sym, ap, ◌∙◌, ◌++◌, [], ◌∷◌, take, get_or, append-nil}
use Rattle.std.proofs.lemmas.List.{take_more}
use Rattle.std.proofs.lemmas.Str.{encodes-append}
use Rattle.std.specs.Char.{encode_utf8}
use Rattle.text_spec.specs.Text.{utf8}
use Rattle.canon_order.proofs.form.utf8_of.Goals as goal

-- a scalar's bytes go behind those of the scalars before it
pub loop-scalar-preserved : goal.loop-scalar-preserved
loop-scalar-preserved c =
    let i = c.loop-scalar.scalar-index in
    let scalars = c.args.scalars.now in
    let scalar = c.scalar-item.result in
    c.in_ok-push.ensures.bytes ∙ ap (λ bs. bs ++ encode_utf8 scalar) c.loop-scalar.invariant
    ∙ ap (λ x. utf8 (take i scalars) ++ encode_utf8 x) c.scalar-item.is
    ∙ ap (λ bs. utf8 (take i scalars) ++ bs) (sym (append-nil (encode_utf8 (get_or scalars i scalar))))
    ∙ sym (ap utf8 (take_more scalars i scalar c.loop-scalar-test.true) ∙ encodes-append (take i scalars) (get_or scalars i scalar ∷ []))
