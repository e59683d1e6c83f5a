use Rattle.serve_udp.proofs.serve.Goals as goal

pub returns-clause-begun : goal.returns-clause-begun
returns-clause-begun g c = rw (c.new-config.ensures.empty) at c.serve_with.ensures.begun
