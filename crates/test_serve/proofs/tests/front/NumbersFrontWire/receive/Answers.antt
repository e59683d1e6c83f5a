use Rattle.std.proofs.Common.{rules}
use Rattle.serve_udp.proofs.FrontTurnLemmas.{is_cut}
use Rattle.test_serve.proofs.tests.front.NumbersFrontWire.receive.Goals as goal

pub returns-in-Some-clause-logged : goal.returns-in-Some-clause-logged
returns-in-Some-clause-logged c = is_cut 1 _ (search rules)
