use Rattle.text_spec.proofs.Replacing.{utf8-replaced}
use Rattle.text_spec.proofs.laws.replaced_is_spliced_in_utf8.Goals as goal

pub returns : goal.returns
returns c = record { bytes = utf8-replaced }
