use Rattle.word_units.proofs.Running.{lead_passes}
use Rattle.word_units.proofs.walk.pass_lead.Goals as goal

pub returns-clause-passes : goal.returns-clause-passes
returns-clause-passes g c =
    let w = c.width_of_lead-width.ensures in
    lead_passes _ (g.T.Text.words c.args.t.now) _ (g.T.Text.part c.args.t.now).whole _ _ c.requires.encoding c.count-count.ensures.value c.count-count.ensures.denotes
    c.args.at c.args.word c.byte_in.result c.width_of_lead-width.result c.units_of_width.result
    c.requires.inside c.requires.boundary c.requires.here c.byte_in.ensures w.one w.two w.three w.four c.units_of_width.ensures.units
