use Rattle.std.proofs.Common.{◌≡◌, take, string_bytes}
use Rattle.text_spec.specs.Text.{utf8}
use Rattle.canon_order.proofs.form.utf8_of.Given as goal

abbrev pub invariant-loop-scalar : goal.invariant-loop-scalar
invariant-loop-scalar l = string_bytes l.text ≡ utf8 (take l.scalar-index l.scalars)
