use Rattle.library_tests.proofs.edits_in_place_tests.learned.Given as goal

abbrev pub ghosts-learned_with : goal.ghosts-learned_with
ghosts-learned_with a = record { name = a.blank.name; parts = a.blank.parts }
