use Rattle.std.proofs.Common.{◌∙◌, arith}
use lib.Bits.{and_le_l}
use Rattle.word_units.specs.Counting.{scalars_begun, bytes_begun, units_begun}
use Rattle.word_units.proofs.Spreading.{told, scalars_at, bytes_at, units_at, bytes_most, units_most, scalars_few, within_most, within_le}
use Rattle.word_units.proofs.counting.begun_in.Goals as goal

pub overflow_sub-begun : goal.overflow_sub-begun
overflow_sub-begun c = and_le_l _ _

pub sum_of_bytes-requires : goal.sum_of_bytes-requires
sum_of_bytes-requires c = record { small = omega (arith, told bytes_begun bytes_most c.args.word _ (bytes_at c.args.word), within_most bytes_begun 4 bytes_most 8 c.args.word) }

pub sum_of_bytes-requires-2 : goal.sum_of_bytes-requires-2
sum_of_bytes-requires-2 c =
    record { small = omega (arith, told units_begun (λ b. omega (arith, units_most b)) c.args.word _ (units_at c.args.word), within_most units_begun 2 units_most 8 c.args.word) }

pub sum_of_bytes-requires-3 : goal.sum_of_bytes-requires-3
sum_of_bytes-requires-3 c =
    record { small = omega (arith, told scalars_begun (λ b. omega (arith, units_most b, scalars_few b)) c.args.word _ (scalars_at c.args.word), within_most units_begun 2 units_most 8 c.args.word, within_le scalars_begun units_begun scalars_few 8 c.args.word) }

pub returns-clause-bytes : goal.returns-clause-bytes
returns-clause-bytes c = c.sum_of_bytes.ensures ∙ told bytes_begun bytes_most c.args.word _ (bytes_at c.args.word)

pub returns-clause-units : goal.returns-clause-units
returns-clause-units c = c.sum_of_bytes-2.ensures ∙ told units_begun (λ b. omega (arith, units_most b)) c.args.word _ (units_at c.args.word)

pub returns-clause-scalars : goal.returns-clause-scalars
returns-clause-scalars c = c.sum_of_bytes-3.ensures ∙ told scalars_begun (λ b. omega (arith, units_most b, scalars_few b)) c.args.word _ (scalars_at c.args.word)

pub returns-clause-few : goal.returns-clause-few
returns-clause-few c = omega (arith, returns-clause-bytes c, within_most bytes_begun 4 bytes_most 8 c.args.word)

pub returns-clause-few_units : goal.returns-clause-few_units
returns-clause-few_units c = omega (arith, returns-clause-units c, within_most units_begun 2 units_most 8 c.args.word)
