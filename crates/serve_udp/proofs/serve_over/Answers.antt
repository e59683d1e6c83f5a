use Rattle.serve_udp.proofs.ServingLemmas.{begun_weaker}
use Rattle.serve_udp.proofs.serve_over.Goals as goal

pub returns-clause-begun : goal.returns-clause-begun
returns-clause-begun g c = begun_weaker c.serve_bound.result _ _ (λ begun. (c.in-Ok-bind_udp.sockets.place, begun)) c.serve_bound.ensures.begun
