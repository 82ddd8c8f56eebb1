use Rattle.std.proofs.Common.{arith}
use Rattle.text_spec.proofs.Replacing.{length-replaced, replaced-before, replaced-within, replaced-behind}
use Rattle.text_spec.proofs.laws.replaced_keeps_the_rest.Goals as goal

pub returns : goal.returns
returns c = record {
  length = λ text with i j order inside. length-replaced text with i j (omega (arith, order, inside)) order inside;
  before = λ text with i j k inside h. replaced-before text with i j inside k h;
  within = λ text with i j k inside h. replaced-within text with i j inside k h;
  behind = λ text with i j k inside. replaced-behind text with i j inside k;
}
