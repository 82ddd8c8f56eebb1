use Rattle.view_tests.proofs.word_units_tests.pieces_are.Given as goal

abbrev pub ghosts-pieces_are_with : goal.ghosts-pieces_are_with
ghosts-pieces_are_with g a = record { name = a.blank.name; parts = a.blank.parts }
