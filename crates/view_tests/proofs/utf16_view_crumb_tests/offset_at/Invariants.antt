use Rattle.view_tests.proofs.utf16_view_crumb_tests.offset_at.Given as goal

abbrev pub ghosts-offset_uncounted : goal.ghosts-offset_uncounted
ghosts-offset_uncounted g a = record { name = a.blank.name; parts = a.blank.parts }
