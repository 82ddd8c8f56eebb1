use Rattle.text_spec.proofs.Indices.{scalar_offset-index, scalar_index-offset}
use Rattle.text_spec.proofs.laws.scalar_index_is_inverse.Goals as goal

pub returns : goal.returns
returns c =
    record {
      offset = λ own some t first o h. scalar_offset-index own some t first o h;
      index = λ own some t first i inside low. scalar_index-offset own some t first i low inside;
    }
