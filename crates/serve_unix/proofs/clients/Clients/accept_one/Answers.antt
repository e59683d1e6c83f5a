use Rattle.serve_unix.proofs.PlaceLemmas.{accepts_again, accepts_one}
use Rattle.serve_unix.proofs.clients.Clients.accept_one.Goals as goal
use Rattle.std.proofs.Common.{refl}

pub returns-in-Client : goal.returns-in-Client
returns-in-Client g c = accepts_one g.S.Stream.log _ _ _ _ _ c.in-Client.ensures.logged c.admit.ensures

pub returns-in-Interrupted : goal.returns-in-Interrupted
returns-in-Interrupted g c = accepts_again g.S.Stream.log _ _ _ c.in-Interrupted.ensures.logged

pub returns-in-NotYet : goal.returns-in-NotYet
returns-in-NotYet g c = (refl, c.in-NotYet.ensures.logged)
