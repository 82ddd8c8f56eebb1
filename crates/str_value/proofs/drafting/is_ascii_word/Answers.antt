use Rattle.std.proofs.lemmas.Bool.{eqb-true, eqb-false}
use Rattle.slot_edits.proofs.HighBits.{each-low, some-high}
use Rattle.str_value.proofs.drafting.is_ascii_word.Goals as goal

pub returns-clause-all : goal.returns-clause-all
returns-clause-all c = λ e. each-low c.args.word (eqb-true _ _ e)

pub returns-clause-some : goal.returns-clause-some
returns-clause-some c = λ e. some-high c.args.word (eqb-false _ _ e)
