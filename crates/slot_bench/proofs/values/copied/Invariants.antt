use Rattle.str_value.specs.Meaning.{OfHeap}
use Rattle.slot_bench.proofs.values.copied.Given as goal

abbrev pub invariant-loop : goal.invariant-loop
invariant-loop l = OfHeap l.pass l.value.place
