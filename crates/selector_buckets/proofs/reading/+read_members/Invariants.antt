use Rattle.selector_buckets.proofs.reading.+read_members.Given as goal

abbrev pub decreases-read_members : goal.decreases-read_members
decreases-read_members l = l.depth
