use Rattle.library_tests.proofs.edit_cow_tests.replaced.Given as goal

abbrev pub ghosts-replaced_with : goal.ghosts-replaced_with
ghosts-replaced_with g a = record { name = a.blank.name; parts = a.blank.parts }
