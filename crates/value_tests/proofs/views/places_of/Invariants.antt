use Rattle.value_tests.proofs.views.places_of.Given as goal

abbrev pub ghosts-places_with : goal.ghosts-places_with
ghosts-places_with a = record { name = a.blank.name; parts = a.blank.parts }
