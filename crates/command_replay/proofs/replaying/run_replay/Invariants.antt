use Rattle.command_replay.proofs.replaying.run_replay.Given as goal

abbrev pub ghosts-replay_written : goal.ghosts-replay_written
ghosts-replay_written g a = record { contents = g.W.CountedWrite.contents a.out.now; failures = g.W.CountedWrite.failures a.out.now }
