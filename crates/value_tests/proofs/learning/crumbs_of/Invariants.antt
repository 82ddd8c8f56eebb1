use Rattle.value_tests.proofs.learning.crumbs_of.Given as goal

abbrev pub ghosts-crumbs_with : goal.ghosts-crumbs_with
ghosts-crumbs_with a = record { name = a.blank.name; parts = a.blank.parts }
