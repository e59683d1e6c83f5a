use Rattle.std.proofs.Common.{rules}
use Rattle.command_line.specs.Input.{IsInput}
use Rattle.command_streams.specs.Failures.{known_after}
use Rattle.command_streams.proofs.FailureLemmas.{is_known_after}
use Rattle.command_returning.proofs.PacketsLemmas.{packets_fail}
use Rattle.command_returning.proofs.capturing.run_packets.Goals as goal

pub returns-clause-counted : goal.returns-clause-counted
returns-clause-counted g c = search rules

pub returns-clause-failed : goal.returns-clause-failed
returns-clause-failed g c = search rules

pub returns-clause-failed_written : goal.returns-clause-failed_written
returns-clause-failed_written g c =
    let input = g.R.Input.state c.args.input.now in let input' = g.R.Input.state c.read_all.new.input in
    let before = g.W.CountedWrite.contents c.args.out.now in let after = g.W.CountedWrite.contents c.print_packets.new.out in
    let is_input : IsInput input.coming c.deref.result.now = search rules in
    packets_fail c.args.unwrap c.print_packets.result (known_after input input') before after c.deref.result.now (is_known_after input input' _ is_input)
    c.print_packets.ensures.failed c.print_packets.ensures.no_memory c.print_packets.ensures.beginning

pub returns-clause-untold : goal.returns-clause-untold
returns-clause-untold g c = search rules

pub returns-clause-written : goal.returns-clause-written
returns-clause-written g c = search rules
