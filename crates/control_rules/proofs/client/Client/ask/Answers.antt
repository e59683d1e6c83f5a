use Rattle.std.proofs.Common.{List, None, Option, ap, subst, sym}
use Rattle.command_line.specs.declared.ending.Failure.{Failure}
use Rattle.control_client.specs.Exchange.{LineEndsBy}
use Rattle.control_client.specs.Wire.{Event}
use Rattle.control_rules.specs.Asked.{AskEndsBy, failure_of}
use Rattle.control_rules.specs.History.{ClientValue}
use Rattle.control_rules.proofs.AskedLemmas.{ask_ends, if_err, if_ok}
use Rattle.control_rules.proofs.client.Client.ask.Goals as goal
use Rattle.control_rules.proofs.client.Client.ask.Goals.{in-Ok+in_ok-from_slice-in-Ok, in-Err}

pub returns-clause-unasked : goal.returns-clause-unasked
returns-clause-unasked g c =
    let line = c.args.line.now in let log' = g.D.Wire.log c.match-ask.self-inside.wire in
    elim c.match-ask.branch [
      | in-Ok+in_ok-from_slice-in-Ok w ↦ if_ok c.match-ask.result w.in_ok-from_slice-in-Ok.field-0 (λ failure. AskEndsBy failure c.args.self.now.switch line c.args.self.now.log log') w.result-is
      | in-Err w ↦ if_err c.match-ask.result w.of.result (λ failure. AskEndsBy failure c.args.self.now.switch line c.args.self.now.log log') w.result-is
          (ask_ends w.of.result c.args.self.now.switch line c.args.self.now.log log'
          (subst (λ (log' : Option (List Event)). LineEndsBy (failure_of w.of.result) c.args.self.now.switch line c.args.self.now.log log' None None) (sym (ap (λ inside. g.D.Wire.log inside.wire) w.self-inside-is))
          (subst (λ (client : ClientValue). LineEndsBy (failure_of w.of.result) client.switch line client.log (g.D.Wire.log c.ask.new.wire) None None) c.self.view_is
          (subst (λ (fault : Failure). LineEndsBy fault c.self.inside.switch line (g.D.Wire.log c.self.inside.wire) (g.D.Wire.log c.ask.new.wire) None None) (sym w.of.ensures)
          (w.in-Err.ensures.unasked None)))))
    ]
