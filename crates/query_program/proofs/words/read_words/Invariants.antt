use Rattle.std.proofs.Common.{◌≡◌, ◌-◌, drop, length}
use Rattle.query_program.specs.Words.{nothing, asked_from}
use Rattle.query_program.proofs.words.read_words.Given as goal

abbrev pub invariant-loop-at : goal.invariant-loop-at
invariant-loop-at l = asked_from nothing l.words ≡ asked_from l.found (drop l.at l.words)

abbrev pub decreases-loop-at : goal.decreases-loop-at
decreases-loop-at l = length l.words - l.at
