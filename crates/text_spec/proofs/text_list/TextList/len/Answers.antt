use Rattle.std.proofs.Common.{subst}
use Rattle.text_spec.specs.Texts.{AreTexts}
use Rattle.text_spec.proofs.Listed.{texts-string_bytes}
use Rattle.text_spec.proofs.text_list.TextList.len.Goals as goal

pub returns-clause-texts : goal.returns-clause-texts
returns-clause-texts c = subst AreTexts c.self.view_is (texts-string_bytes c.self.inside.texts.items)
