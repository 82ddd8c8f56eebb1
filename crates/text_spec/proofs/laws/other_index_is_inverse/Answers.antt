use Rattle.text_spec.proofs.Indices.{other_offset-index, other_index-offset}
use Rattle.text_spec.proofs.laws.other_index_is_inverse.Goals as goal

pub returns : goal.returns
returns c =
    record {
      offset = λ own other some other_some t first o inside h. other_offset-index own some t first other other_some o inside h;
      index = λ own other some other_some t first high i inside low within. other_index-offset own some t first other other_some i high low inside within;
    }
