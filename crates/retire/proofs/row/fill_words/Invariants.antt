use Rattle.retire.proofs.row.fill_words.Given as goal

abbrev pub ghosts-fill_front : goal.ghosts-fill_front
ghosts-fill_front a = record { operator = a.operator.now }
