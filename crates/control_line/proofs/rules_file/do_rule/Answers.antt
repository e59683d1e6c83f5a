use Rattle.std.proofs.Common.{sym, ◌∙◌}
use Rattle.control_line.proofs.RulesLemmas.{line_is_done}
use Rattle.control_line.proofs.rules_file.do_rule.Goals as goal

pub returns-in-Ok : goal.returns-in-Ok
returns-in-Ok c =
    line_is_done _ c.do_line.new.config c.args.line.now c.without_return.result.now (sym c.is_skipped.ensures ∙ c.if-is_skipped.false) c.without_return.ensures c.in-Ok.ensures
