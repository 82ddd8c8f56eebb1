use Rattle.view_tests.proofs.unit_views_tests.refused.Given as goal

abbrev pub ghosts-refused_with : goal.ghosts-refused_with
ghosts-refused_with g a = record { name = a.blank.name; parts = a.blank.parts }
