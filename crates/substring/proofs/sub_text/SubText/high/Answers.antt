use Rattle.text_spec.proofs.Downward.{down-length}
use Rattle.substring.proofs.sub_text.SubText.high.Goals as goal

pub returns-clause-inside : goal.returns-clause-inside
returns-clause-inside c = down-length _ _ _
