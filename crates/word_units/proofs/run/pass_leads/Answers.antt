use Rattle.std.proofs.Common.{◌%◌, refl, arith}
use Rattle.word_units.specs.Counting.{scalars_begun, units_begun}
use Rattle.word_units.proofs.Spreading.{within_left}
use Rattle.word_units.proofs.Running.{word_run}
use Rattle.word_units.proofs.run.pass_leads.Goals as goal

pub overflow_sub-result-2 : goal.overflow_sub-result-2
overflow_sub-result-2 g c = omega (arith, c.begun_in-bytes.ensures.units, within_left units_begun refl c.args.word (c.args.at % 8) c.ranges.word.fits (omega arith))

pub overflow_sub-result-3 : goal.overflow_sub-result-3
overflow_sub-result-3 g c = omega (arith, c.begun_in-bytes.ensures.scalars, within_left scalars_begun refl c.args.word (c.args.at % 8) c.ranges.word.fits (omega arith))

pub returns : goal.returns
returns g c =
    word_run _ (g.T.Text.words c.args.t.now) _ (g.T.Text.part c.args.t.now).whole _ _ c.args.at c.args.most c.args.word c.begun_in-bytes.result.0 c.begun_in-bytes.result.1 c.begun_in-bytes.result.2
    c.requires.encoding c.count-count.ensures.value c.count-count.ensures.denotes c.requires.room c.requires.fits c.requires.boundary c.requires.here c.ranges.word.fits
    c.begun_in-bytes.ensures.bytes c.begun_in-bytes.ensures.units c.begun_in-bytes.ensures.scalars
