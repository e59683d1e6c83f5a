use Rattle.std.proofs.Common.{◌≡◌, ◌+◌, Err, arith, rules}
use Rattle.control_line.proofs.RulesLemmas.{all_done, done_more, fault_here}
use Rattle.control_line.proofs.rules_file.config_of_rules.Goals as goal

pub loop-line-preserved : goal.loop-line-preserved
loop-line-preserved c =
    done_more c.args.text.now c.loop-line.number c.loop-line.left.now c.in-Some.line.now c.in-Some.rest.now c.loop-line.config c.loop-line.invariant c.in-Some.ensures
    (c.loop-line.number + 1) c.do_rule.new.config (omega arith) c.in_ok-do_rule.ensures

pub returns-in_err-do_rule : goal.returns-in_err-do_rule
returns-in_err-do_rule c =
    let same : c.from_residual.result ≡ Err c.in_err-do_rule.field-0.0 = search rules in
    rw same
    (fault_here c.args.text.now c.loop-line.number c.loop-line.left.now c.in-Some.line.now c.in-Some.rest.now c.loop-line.config c.loop-line.invariant c.in-Some.ensures
    (c.loop-line.number + 1) c.in_err-do_rule.field-0.0 (omega arith) c.in_err-do_rule.ensures)

pub returns : goal.returns
returns c = all_done c.args.text.now c.loop-line.number c.loop-line.left.now c.loop-line.config c.loop-line.invariant c.in_default.ensures
