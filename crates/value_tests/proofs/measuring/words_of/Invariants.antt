use Rattle.value_tests.proofs.measuring.words_of.Given as goal

abbrev pub ghosts-words_with : goal.ghosts-words_with
ghosts-words_with a = record { name = a.blank.name; parts = a.blank.parts }
