use Rattle.batch_workers.proofs.Reading.{quick-index}
use Rattle.batch_workers.proofs.place.index_at.Goals as goal

pub returns-in-Utf16-clause-cost : goal.returns-in-Utf16-clause-cost
returns-in-Utf16-clause-cost g c unit quick =
    let is = c.index_of_offset-in-Utf16.ensures in
    quick-index c.args.text.now c.args.steps.now c.index_of_offset-in-Utf16.new.steps is.crumbs is.pass is.unread quick
