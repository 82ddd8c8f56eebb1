use Rattle.made_input.proofs.Source.{Loaded}
use Rattle.made_input.proofs.pieces.put_source.Given as goal

abbrev pub invariant-loop-number : goal.invariant-loop-number
invariant-loop-number l = Loaded 1000 l._number l.fn.draws.state l.draws.state l.units l.fn.line l.line
