use Rattle.view_tests.proofs.unit_views_tests.walks_hold.Given as goal

abbrev pub ghosts-walks_hold_with : goal.ghosts-walks_hold_with
ghosts-walks_hold_with g a = record { name = a.blank.name; parts = a.blank.parts }
