use Rattle.std.proofs.Common.{◌-◌, arith, refl}
use Rattle.made_input.specs.Made.{made, units, after_source}
use Rattle.made_input.proofs.Lines.{batches-count, lines-clean, made-parts}
use Rattle.made_input.proofs.laws.made_input_is_its_lines.Goals as goal

pub returns-clause-whole : goal.returns-clause-whole
unfolding made
returns-clause-whole c number n = refl

pub returns-clause-count : goal.returns-clause-count
returns-clause-count c number n some = omega (arith, some, batches-count (units number) (n - 1) (after_source number))

pub returns-clause-lines : goal.returns-clause-lines
returns-clause-lines c = lines-clean

pub returns-clause-parts : goal.returns-clause-parts
returns-clause-parts c = made-parts
