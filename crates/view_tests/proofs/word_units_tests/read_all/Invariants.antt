use Rattle.view_tests.proofs.word_units_tests.read_all.Given as goal

abbrev pub ghosts-read_all_with : goal.ghosts-read_all_with
ghosts-read_all_with a = record { name = a.blank.name; parts = a.blank.parts }
