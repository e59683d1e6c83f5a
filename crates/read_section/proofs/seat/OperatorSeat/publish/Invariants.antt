use Rattle.read_section.proofs.seat.OperatorSeat.publish.Given as goal

abbrev pub ghosts-store_current : goal.ghosts-store_current
ghosts-store_current a = record { config = a.config.now }
