use Rattle.std.proofs.lemmas.List.Elements.{All-push}
use Rattle.query_lines.specs.Ops.{op_in}
use Rattle.query_lines.specs.WellFormed.{IsWellFormedOp}
use Rattle.query_lines.proofs.ItemByItem.{each_item-step}
use Rattle.query_lines.proofs.ops_read.each_op.Goals as goal

-- one more is read, and it is well formed
pub loop-item-preserved : goal.loop-item-preserved
loop-item-preserved c =
    let read = each_item-step op_in c.loop-item.ops.items _ c.in_ok-op_of.field-0 c.in-Some.item _ _ _ c.in-Some.ensures.steps.0 c.in_ok-op_of.ensures.ok c.in_ok-push.ensures.items c.loop-item.invariant.2 in
    (tt, tt, read, rw c.in_ok-push.ensures.items (All-push IsWellFormedOp c.loop-item.ops.items c.in_ok-op_of.field-0 c.loop-item.invariant.3 c.in_ok-op_of.ensures.well_formed))
