use Rattle.view_tests.proofs.utf16_view_tests.rows_hold.Given as goal

abbrev pub ghosts-rows_hold_with : goal.ghosts-rows_hold_with
ghosts-rows_hold_with g a = record { name = a.blank.name; parts = a.blank.parts }
