use Rattle.str_value.proofs.drafting.publish_spliced.Given as goal

abbrev pub ghosts-draft_spliced : goal.ghosts-draft_spliced
ghosts-draft_spliced a = record { name = a.blank.name; parts = a.blank.parts }
