use Rattle.serve_udp.proofs.serve_intake.Given as goal

abbrev pub ghosts-count_served : goal.ghosts-count_served
ghosts-count_served g a = record { table = a.service.tally.table }
