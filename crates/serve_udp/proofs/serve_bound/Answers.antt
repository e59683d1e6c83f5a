use Rattle.std.proofs.Common.{None, Some, [], refl}
use Rattle.std.proofs.lemmas.Result.{on_ok_weaker}
use Rattle.serve_udp.proofs.CountedLemmas.{silent_begun, silent_served}
use Rattle.serve_udp.proofs.ServingLemmas.{begun_weaker}
use Rattle.serve_udp.proofs.serve_bound.Goals as goal

pub returns-in-Queued-clause-served : goal.returns-in-Queued-clause-served
returns-in-Queued-clause-served g c =
    on_ok_weaker c.serve_intake.result
    (silent_served (Some []) refl c.args.sockets.place c.args.config c.args.workers c.in_ok-intake-in-Queued.intake.sources.items (g.W.CountedWrite.contents c.args.out.now)
    (g.W.CountedWrite.contents c.serve_intake.new.out) c.in_ok-intake-in-Queued.ensures.sources)
    c.serve_intake.ensures.served

pub returns-clause-served : goal.returns-clause-served
returns-clause-served g c =
    on_ok_weaker c.serve_intake-in-Direct.result
    (silent_served None tt c.args.sockets.place c.args.config c.args.workers c.in_ok-intake-in-Direct.intake.sources.items (g.W.CountedWrite.contents c.args.out.now)
    (g.W.CountedWrite.contents c.serve_intake-in-Direct.new.out) c.in_ok-intake-in-Direct.ensures.sources)
    c.serve_intake-in-Direct.ensures.served

pub returns-in-Queued-clause-begun : goal.returns-in-Queued-clause-begun
returns-in-Queued-clause-begun g c =
    begun_weaker c.serve_intake.result _ _
    (silent_begun (Some []) refl c.args.sockets.place c.args.config c.args.workers c.in_ok-intake-in-Queued.intake.sources.items (g.W.CountedWrite.contents c.args.out.now)
    (g.W.CountedWrite.contents c.serve_intake.new.out) c.in_ok-intake-in-Queued.ensures.sources)
    c.serve_intake.ensures.begun

pub returns-clause-begun : goal.returns-clause-begun
returns-clause-begun g c =
    begun_weaker c.serve_intake-in-Direct.result _ _
    (silent_begun None tt c.args.sockets.place c.args.config c.args.workers c.in_ok-intake-in-Direct.intake.sources.items (g.W.CountedWrite.contents c.args.out.now)
    (g.W.CountedWrite.contents c.serve_intake-in-Direct.new.out) c.in_ok-intake-in-Direct.ensures.sources)
    c.serve_intake-in-Direct.ensures.begun
