use Rattle.word_units.proofs.Spreading.{summed}
use Rattle.word_units.proofs.counting.sum_of_bytes.Goals as goal

pub returns : goal.returns
returns c = summed c.args.word c.ranges.word.fits c.requires.small
