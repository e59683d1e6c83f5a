use Rattle.serve_udp.proofs.serve_direct.Goals as goal

pub returns-clause-begun : goal.returns-clause-begun
returns-clause-begun g c = rw (c.new.ensures.empty) at c.serve_by.ensures.begun
