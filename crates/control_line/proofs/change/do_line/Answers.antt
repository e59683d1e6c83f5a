use Rattle.control_line.specs.Answer.{long, no_change}
use Rattle.control_line.specs.body.Reading.{source_of}
use Rattle.control_line.proofs.BlockLemmas.{line_result}
use Rattle.control_line.proofs.change.do_line.Goals as goal
use Rattle.member_group.specs.Over.{command_over}

pub returns-then-line-gt-LINE_LIMIT : goal.returns-then-line-gt-LINE_LIMIT
returns-then-line-gt-LINE_LIMIT c = λ text agrees. long c.if-line-gt-LINE_LIMIT.true

pub returns-in-Some : goal.returns-in-Some
returns-in-Some c =
    line_result c.args.line.now c.args.config.now c.do_change.new.config (command_over source_of c.in-Some.command) c.if-line-gt-LINE_LIMIT.false c.in-Some.ensures
    c.do_change.result c.do_change.ensures

pub returns-in-None : goal.returns-in-None
returns-in-None c = λ text agrees. no_change c.if-line-gt-LINE_LIMIT.false c.in-None.ensures
