use Rattle.value_tests.proofs.scarce.appended.Given as goal

abbrev pub ghosts-appended_with : goal.ghosts-appended_with
ghosts-appended_with a = record { name = a.blank.name; parts = a.blank.parts }
