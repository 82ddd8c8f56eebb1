use Rattle.char_view.proofs.True.{true_where_kept}
use Rattle.char_view.proofs.laws.kept_strides_are_true.Goals as goal

pub returns : goal.returns
returns c = λ t n. true_where_kept c.fields_are_read_back.ensures.fields t.storage t.whole t.first t.end n
