use Rattle.std.proofs.Common.{arith}
use Rattle.serve_unix.proofs.PlaceLemmas.{accepts_all, accepts_more, accepts_none, accepts_until}
use Rattle.serve_unix.proofs.clients.Clients.accept.Goals as goal

pub loop-client-init : goal.loop-client-init
loop-client-init g c = accepts_none g.S.Stream.log _ (g.C.Connections.log c.args.connections.now)

pub loop-client-preserved : goal.loop-client-preserved
loop-client-preserved g c = accepts_more g.S.Stream.log _ _ _ _ _ _ c.loop-client._client _ c.loop-client.invariant c.accept_one.ensures c.if-not-accept_one.false

pub returns-then-not-accept_one : goal.returns-then-not-accept_one
returns-then-not-accept_one g c = record {
  accepted_each = accepts_until g.S.Stream.log _ _ _ _ _ _ c.loop-client._client _ c.loop-client.invariant c.accept_one.ensures c.if-not-accept_one.true (omega arith);
}

pub returns : goal.returns
returns g c = record { accepted_each = accepts_all g.S.Stream.log _ _ _ _ c.loop-client._client c.loop-client.invariant (omega arith) }
