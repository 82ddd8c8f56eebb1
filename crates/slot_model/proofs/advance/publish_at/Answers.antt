use Rattle.std.proofs.lemmas.List.{map-set}
use Rattle.slot_model.specs.Checking.{slot_in}
use Rattle.slot_model.proofs.advance.publish_at.Goals as goal

pub returns : goal.returns
returns c = map-set slot_in c.args.slots.now c.args.slot _
