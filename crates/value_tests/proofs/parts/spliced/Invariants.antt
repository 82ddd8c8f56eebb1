use Rattle.value_tests.proofs.parts.spliced.Given as goal

abbrev pub ghosts-splice_with : goal.ghosts-splice_with
ghosts-splice_with a = record { name = a.blank.name; parts = a.blank.parts }
