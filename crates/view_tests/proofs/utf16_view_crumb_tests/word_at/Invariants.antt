use Rattle.view_tests.proofs.utf16_view_crumb_tests.word_at.Given as goal

abbrev pub ghosts-index_uncounted : goal.ghosts-index_uncounted
ghosts-index_uncounted g a = record { name = a.blank.name; parts = a.blank.parts }
