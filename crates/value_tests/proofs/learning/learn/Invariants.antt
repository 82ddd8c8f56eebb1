use Rattle.value_tests.proofs.learning.learn.Given as goal

abbrev pub ghosts-learn_with : goal.ghosts-learn_with
ghosts-learn_with a = record { name = a.blank.name; parts = a.blank.parts }
