use Rattle.std.proofs.Common.{sym, ◌∙◌}
use Rattle.char_view.proofs.Parts.{length_across}
use Rattle.char_view.proofs.place.text_len.Goals as goal

pub returns-in-Utf8-clause-len : goal.returns-in-Utf8-clause-len
returns-in-Utf8-clause-len g c =
    length_across _ _ _ _ _ _ (sym c.encoding.ensures ∙ c.in-Utf8.is) c.first_place-start.ensures.text c.first_place-start.ensures.start.1 c.high-high.ensures.value
