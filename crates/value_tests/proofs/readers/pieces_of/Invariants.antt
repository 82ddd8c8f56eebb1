use Rattle.value_tests.proofs.readers.pieces_of.Given as goal

abbrev pub ghosts-pieces_with : goal.ghosts-pieces_with
ghosts-pieces_with a = record { name = a.blank.name; parts = a.blank.parts }
