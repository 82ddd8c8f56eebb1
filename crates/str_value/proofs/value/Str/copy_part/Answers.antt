use Rattle.std.proofs.Common.{ap, ◌∙◌, chars}
use Rattle.text_spec.specs.Text.{utf8}
use Rattle.str_value.specs.Meaning.{text_between}
use Rattle.str_value.proofs.Between.{scalars-part}
use Rattle.str_value.proofs.Spliced.{scalars-kept}
use Rattle.str_value.proofs.value.Str.copy_part.Goals as goal

pub returns-clause-text : goal.returns-clause-text
returns-clause-text c =
    c.from_vec.ensures.text ∙ ap chars (c.in_ok-text.ensures.value ∙ ap (λ m. utf8 (text_between m c.args.low c.args.high)) c.utf8_length.ensures.kept)
    ∙ (scalars-part c.args.self.now c.args.low c.args.high (scalars-kept _ _ c.args.self.now c.self.invariant c.self.view_is)).1
