use Rattle.view_tests.proofs.unit_views_tests.crosses.Given as goal

abbrev pub ghosts-crosses_with : goal.ghosts-crosses_with
ghosts-crosses_with g a = record { name = a.blank.name; parts = a.blank.parts }
