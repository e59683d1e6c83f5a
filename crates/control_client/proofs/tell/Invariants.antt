use Rattle.std.proofs.Common.{◌≡◌}
use Rattle.control_client.specs.Refused.{ShownOn}
use Rattle.control_client.proofs.TellLemmas.{IsTelling}
use Rattle.control_client.proofs.tell.Given as goal

abbrev pub invariant-loop-request : goal.invariant-loop-request
invariant-loop-request g l = IsTelling (ShownOn g.E.Write.contents g.X.Explains.shows) l.switch (g.L.Lines.coming l.fn.lines) (g.L.Lines.coming l.lines)
    (g.D.Wire.log l.fn.wire) (g.D.Wire.log l.wire) (g.W.CountedWrite.contents l.fn.out) (g.W.CountedWrite.contents l.out) l.fn.errs l.errs l.refused
    × (g.W.CountedWrite.failures l.out ≡ g.W.CountedWrite.failures l.fn.out)
    × (g.L.Lines.failures l.lines ≡ g.L.Lines.failures l.fn.lines)
