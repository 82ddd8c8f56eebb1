use Rattle.value_tests.proofs.views.offsets_of.Given as goal

abbrev pub ghosts-offsets_with : goal.ghosts-offsets_with
ghosts-offsets_with a = record { name = a.blank.name; parts = a.blank.parts }
