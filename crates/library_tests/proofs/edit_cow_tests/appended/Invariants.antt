use Rattle.library_tests.proofs.edit_cow_tests.appended.Given as goal

abbrev pub ghosts-appended_with : goal.ghosts-appended_with
ghosts-appended_with a = record { name = a.blank.name; parts = a.blank.parts }
