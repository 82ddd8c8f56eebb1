use Rattle.view_tests.proofs.word_units_tests.a_text_of_its_own_words_is_all_of_them.Given as goal

abbrev pub ghosts-check_surface : goal.ghosts-check_surface
ghosts-check_surface a b = record { name = b.blank.name; parts = b.blank.parts }
