use Rattle.std.proofs.Common.{◌++◌, codes, take}
use Rattle.command_explain.specs.Shown.{shown_text}
use Rattle.serve_control.specs.Log.{peer_text}
use Rattle.serve_control.specs.declared.log.TheConstants.{LOGGED_BYTES}
use Rattle.serve_control.proofs.LogLemmas.{joined}
use Rattle.serve_control.proofs.log.push_line.Goals as goal

pub returns-clause-appended : goal.returns-clause-appended
returns-clause-appended c =
    joined c.args.line.now.items c.push_front.new.line.items c.push_end.new.line.items (peer_text c.args.peer) (codes " ") c.args.reply.now
    (codes ": ") (shown_text (take LOGGED_BYTES c.args.request.now) ++ codes "\n") c.in_ok-push_front.ensures.appended c.in_ok-push_end.ensures.appended
