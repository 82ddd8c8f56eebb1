use Rattle.crumbs.proofs.Windows.{none_fits, begins, none_begins}
use Rattle.crumbs.proofs.decoding.width_at.Goals as goal

pub returns-then-p-width : goal.returns-then-p-width
returns-then-p-width c =
    let w = c.width_of_lead-width.ensures in
    none_fits c.args.content.now c.args.count c.args.p c.requires.inside _ c.width_of_lead-width.result c.byte_or_zero-lead.ensures c.if-p-width.true w.one w.two w.three w.four

pub returns-in-Ok : goal.returns-in-Ok
returns-in-Ok c =
    let w = c.width_of_lead-width.ensures in
    begins c.args.content.now c.args.count c.args.p c.requires.inside _ _ _ _ c.byte_or_zero-lead.ensures c.byte_or_zero.ensures c.byte_or_zero-2.ensures c.byte_or_zero-3.ensures
    c.width_of_lead-width.result w.some w.most c.if-p-width.false w.one w.two w.three w.four c.in-Ok.ensures.cases.1

pub returns-in-Err : goal.returns-in-Err
returns-in-Err c =
    let w = c.width_of_lead-width.ensures in
    none_begins c.args.content.now c.args.count c.args.p c.requires.inside _ _ _ _ c.byte_or_zero-lead.ensures c.byte_or_zero.ensures c.byte_or_zero-2.ensures c.byte_or_zero-3.ensures
    c.width_of_lead-width.result w.some w.most c.if-p-width.false w.one w.two w.three w.four c.in-Err.ensures.cases.0
