use Rattle.object_words.proofs.Reading.{ascii-told}
use Rattle.object_words.proofs.small.is_ascii.Goals as goal

pub returns : goal.returns
returns c = ascii-told _ _ c.is_ascii.ensures.cases
