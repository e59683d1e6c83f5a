use Rattle.std.proofs.Common.{◌≡◌, Err, rules}
use Rattle.control_line.specs.body.Reading.{source_of}
use Rattle.control_line.proofs.ChangeLemmas.{change_published, not_changed}
use Rattle.control_line.proofs.change.publish_change.Goals as goal
use Rattle.member_group.specs.Over.{command_over}

pub returns-in_err-next : goal.returns-in_err-next
returns-in_err-next c =
    let same : c.from_residual.result ≡ Err c.in_err-next.field-0.0 = search rules in
    rw same (record {
      changed = not_changed c.args.operator.now (command_over source_of c.args.command) c.config.result.now c.config.ensures.current_configuration c.in_err-next.field-0.0 c.in_err-next.ensures;
      short = tt;
    })

pub returns : goal.returns
returns c = record {
  changed = change_published c.args.operator.now (command_over source_of c.args.command) c.config.result.now c.config.ensures.current_configuration
      c.publish_next.new.operator c.in_ok-next.next c.publish_next.result c.in_ok-next.ensures c.publish_next.ensures.published;
  short = c.publish_next.ensures.short;
}
