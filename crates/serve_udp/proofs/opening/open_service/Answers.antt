use Rattle.serve_udp.proofs.opening.open_service.Goals as goal

pub returns-clause-new_workers : goal.returns-clause-new_workers
returns-clause-new_workers g c = c.open_over.ensures.new_workers c.args.config c.in_ok-ends.ensures.opening
