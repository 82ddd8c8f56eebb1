use Rattle.std.proofs.Common.{◌≡◌, List, ℕ, sym, ap, map, [], true}
use Rattle.std.proofs.lemmas.Str.{chars-encodes}
use Rattle.std.specs.Str.{all_scalars, encode_utf8_all}
use Rattle.text_spec.specs.Text.{utf8}
use Rattle.unicode_segmentation.specs.Grapheme.{graphemes, is_grapheme_break}
use Rattle.unicode_segmentation.specs.Segments.{cut, segments}
use Rattle.char_view.specs.Characters.{characters}
use Rattle.char_view.proofs.laws.characters_are_graphemes.Goals as goal

pieces : (text : List ℕ) → all_scalars text ≡ true → map utf8 (characters text) ≡ graphemes true (utf8 text)
unfolding segments
pieces text ok = sym (ap (λ t. map encode_utf8_all (cut (is_grapheme_break true) [] t [])) (chars-encodes text ok))

pub returns : goal.returns
returns c = record { pieces = pieces }
