use Rattle.library_tests.proofs.example_tests.the_example_of_the_readme_is_so.Given as goal

abbrev pub ghosts-example : goal.ghosts-example
ghosts-example g a = record { name = a.blank.name; parts = a.blank.parts }
