use Rattle.library_tests.proofs.batch_workers_view_tests.answers_are.Given as goal

abbrev pub ghosts-scalar_answers : goal.ghosts-scalar_answers
ghosts-scalar_answers g a = record { name = a.blank.name; parts = a.blank.parts }

abbrev pub ghosts-byte_answers : goal.ghosts-byte_answers
ghosts-byte_answers g a = record { name = a.blank.name; parts = a.blank.parts }

abbrev pub ghosts-unit_answers : goal.ghosts-unit_answers
ghosts-unit_answers g a = record { name = a.blank.name; parts = a.blank.parts }

abbrev pub ghosts-floors : goal.ghosts-floors
ghosts-floors g a = record { name = a.blank.name; parts = a.blank.parts }

abbrev pub ghosts-first_scalar : goal.ghosts-first_scalar
ghosts-first_scalar g a = record { name = a.blank.name; parts = a.blank.parts }
