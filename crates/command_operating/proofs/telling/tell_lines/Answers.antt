use Rattle.control_client.specs.Refused.{ShownOn}
use Rattle.control_client.specs.Wire.{peer_of}
use Rattle.command_operating.specs.RefusalLines.{Shows}
use Rattle.command_operating.proofs.TellingLemmas.{stops_change, stops_lines, tells_change, tells_lines, untold_change, untold_lines}
use Rattle.command_operating.proofs.telling.tell_lines.Goals as goal

pub returns-then-all-clause-told : goal.returns-then-all-clause-told
returns-then-all-clause-told g c =
    tells_change g.E.Write.contents (peer_of c.args.way.0.address) (g.L.Lines.coming c.args.lines.now) (g.W.CountedWrite.contents c.args.out.now) (g.W.CountedWrite.contents c.tell_change_over_socket.new.out)
    c.args.errs.now c.tell_change_over_socket.new.errs c.args.way.1 c.tell_change_over_socket.result c.if-all.true c.tell_change_over_socket.ensures.change_told

pub returns-then-all-clause-untold : goal.returns-then-all-clause-untold
returns-then-all-clause-untold g c =
    untold_change (ShownOn g.E.Write.contents Shows) c.tell_change_over_socket.result (peer_of c.args.way.0.address) (g.L.Lines.coming c.args.lines.now)
    (g.W.CountedWrite.contents c.args.out.now) (g.W.CountedWrite.contents c.tell_change_over_socket.new.out) c.args.errs.now c.tell_change_over_socket.new.errs c.tell_change_over_socket.ensures.change_told

pub returns-then-all-clause-stopped : goal.returns-then-all-clause-stopped
returns-then-all-clause-stopped g c =
    stops_change g.E.Write.contents (peer_of c.args.way.0.address) (g.L.Lines.coming c.args.lines.now) (g.W.CountedWrite.contents c.args.out.now) (g.W.CountedWrite.contents c.tell_change_over_socket.new.out)
    c.args.errs.now c.tell_change_over_socket.new.errs c.args.way.1 c.tell_change_over_socket.result c.if-all.true c.tell_change_over_socket.ensures.change_ended c.tell_change_over_socket.ensures.unshown

pub returns-clause-told : goal.returns-clause-told
returns-clause-told g c =
    tells_lines g.E.Write.contents (peer_of c.args.way.0.address) (g.L.Lines.coming c.args.lines.now) (g.W.CountedWrite.contents c.args.out.now) (g.W.CountedWrite.contents c.tell_over_socket.new.out)
    c.args.errs.now c.tell_over_socket.new.errs c.args.way.1 c.tell_over_socket.result c.if-all.false c.tell_over_socket.ensures.all_told

pub returns-clause-untold : goal.returns-clause-untold
returns-clause-untold g c =
    untold_lines (ShownOn g.E.Write.contents Shows) c.tell_over_socket.result (peer_of c.args.way.0.address) (g.L.Lines.coming c.args.lines.now)
    (g.W.CountedWrite.contents c.args.out.now) (g.W.CountedWrite.contents c.tell_over_socket.new.out) c.args.errs.now c.tell_over_socket.new.errs c.tell_over_socket.ensures.all_told

pub returns-clause-stopped : goal.returns-clause-stopped
returns-clause-stopped g c =
    stops_lines g.E.Write.contents (peer_of c.args.way.0.address) (g.L.Lines.coming c.args.lines.now) (g.W.CountedWrite.contents c.args.out.now) (g.W.CountedWrite.contents c.tell_over_socket.new.out)
    c.args.errs.now c.tell_over_socket.new.errs c.args.way.1 c.tell_over_socket.result c.if-all.false c.tell_over_socket.ensures.first_told
