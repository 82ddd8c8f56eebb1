use Rattle.view_tests.proofs.crumbs_tests.word_of_offset.Given as goal

abbrev pub ghosts-index_uncounted : goal.ghosts-index_uncounted
ghosts-index_uncounted g a = record { name = a.blank.name; parts = a.blank.parts }
