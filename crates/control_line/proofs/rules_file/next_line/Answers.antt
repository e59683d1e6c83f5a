use Rattle.control_line.proofs.RulesLemmas.{first_line_cut}
use Rattle.control_line.proofs.rules_file.next_line.Goals as goal

pub returns-in-Some : goal.returns-in-Some
returns-in-Some c = first_line_cut c.args.text.now c.in-Some.line.now c.in-Some.rest.now c.in-Some.ensures
