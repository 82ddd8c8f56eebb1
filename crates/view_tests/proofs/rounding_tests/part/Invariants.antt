use Rattle.view_tests.proofs.rounding_tests.part.Given as goal

abbrev pub ghosts-part_with : goal.ghosts-part_with
ghosts-part_with a = record { name = a.blank.name; parts = a.blank.parts }
