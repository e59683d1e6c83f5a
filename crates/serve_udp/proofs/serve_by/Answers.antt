use Rattle.std.proofs.Common.{ap, rules}
use Rattle.serve_udp.specs.Service.{BeginsServedFrom}
use Rattle.serve_udp.proofs.ServingLemmas.{begun_between}
use Rattle.serve_udp.proofs.serve_by.Goals as goal

pub returns-clause-begun : goal.returns-clause-begun
returns-clause-begun g c =
    begun_between c.serve_over-ended.result (BeginsServedFrom c.args.config c.args.workers) _ _ _ _
    (ap (λ v. g.W.Write.contents v.writer) c.new-results.ensures.opened) (search rules) c.serve_over-ended.ensures.begun
