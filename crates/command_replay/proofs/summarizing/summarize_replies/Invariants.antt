use Rattle.command_replay.proofs.summarizing.summarize_replies.Given as goal

abbrev pub ghosts-count_written : goal.ghosts-count_written
ghosts-count_written g a = record { contents = g.W.CountedWrite.contents a.out.now; failures = g.W.CountedWrite.failures a.out.now }
