use Rattle.object_words.proofs.Reading.{ascii-told}
use Rattle.str_value.proofs.making_utf8.is_ascii.Goals as goal

pub returns : goal.returns
returns c = ascii-told _ _ c.is_ascii.ensures.cases
