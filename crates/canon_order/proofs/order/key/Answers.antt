use Rattle.std.proofs.Common.{arith}
use Rattle.canon_order.proofs.Copying.{size-most}
use Rattle.canon_order.proofs.order.key.Goals as goal

pub returns-in-Utf8-clause-cost : goal.returns-in-Utf8-clause-cost
returns-in-Utf8-clause-cost g c = omega (arith, c.key_of_bytes.ensures.cost, size-most c.args.a.now.text)
