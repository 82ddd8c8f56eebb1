use Rattle.view_tests.proofs.utf16_view_tests.long_holds.Given as goal

abbrev pub ghosts-long_holds_with : goal.ghosts-long_holds_with
ghosts-long_holds_with g a = record { name = a.blank.name; parts = a.blank.parts }
