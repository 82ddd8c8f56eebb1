use Rattle.str_value.proofs.value.Str.copy_part.Given as goal

abbrev pub ghosts-small_part : goal.ghosts-small_part
ghosts-small_part a = record { name = a.blank.name; parts = a.blank.parts }
