use Rattle.view_tests.proofs.char_view_tests.after_both.Given as goal

abbrev pub ghosts-after_first : goal.ghosts-after_first
ghosts-after_first a = record { name = a.blank.name; parts = a.blank.parts }
