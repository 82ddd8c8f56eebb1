use Rattle.std.proofs.Common.{sym, ◌∙◌}
use Rattle.char_view.proofs.Parts.{place_across}
use Rattle.char_view.proofs.place.place_at.Goals as goal

pub returns-in-Utf8-clause-place : goal.returns-in-Utf8-clause-place
returns-in-Utf8-clause-place g c =
    place_across _ _ _ _ _ _ _ (sym c.encoding.ensures ∙ c.in-Utf8.is) c.requires.place c.requires.cut c.requires.order
