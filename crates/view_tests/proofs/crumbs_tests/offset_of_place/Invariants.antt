use Rattle.view_tests.proofs.crumbs_tests.offset_of_place.Given as goal

abbrev pub ghosts-offset_uncounted : goal.ghosts-offset_uncounted
ghosts-offset_uncounted g a = record { name = a.blank.name; parts = a.blank.parts }
