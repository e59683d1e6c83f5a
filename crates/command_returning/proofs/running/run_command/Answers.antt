use Rattle.std.proofs.Common.{◌∙◌, ap, sym}
use Rattle.command_line.specs.CommandLine.{request_of}
use Rattle.command_returning.proofs.FailureLemmas.{query_cause, query_fails, replay_fails}
use Rattle.command_returning.proofs.PacketsLemmas.{of_another, of_no_other, of_packets, query_differs, replay_differs}
use Rattle.command_returning.proofs.running.run_command.Goals as goal

pub returns-in-Query-clause-counted : goal.returns-in-Query-clause-counted
returns-in-Query-clause-counted g c = of_another _ c.run_query.result (request_of c.args.command) (λ port is. query_differs _ port (sym (ap request_of c.in-Query.is) ∙ is))

pub returns-in-Query-clause-failed_written : goal.returns-in-Query-clause-failed_written
returns-in-Query-clause-failed_written g c = rw c.in-Query.is (query_fails c.in-Query.query c.run_query.result (g.R.Input.state c.args.input.now) (g.R.Input.state c.run_query.new.input) _ _ c.run_query.ensures.failed_written)

pub returns-in-Replay-clause-counted : goal.returns-in-Replay-clause-counted
returns-in-Replay-clause-counted g c = of_another _ c.run_replay.result (request_of c.args.command) (λ port is. replay_differs _ _ port (sym (ap request_of c.in-Replay.is) ∙ is))

pub returns-in-Replay-clause-failed : goal.returns-in-Replay-clause-failed
returns-in-Replay-clause-failed g c = rw c.in-Replay.is (replay_fails c.in-Replay.summary c.in-Replay.quiet c.run_replay.result c.run_replay.ensures.failed)

pub returns-in-Packets-clause-counted : goal.returns-in-Packets-clause-counted
returns-in-Packets-clause-counted g c = of_packets _ c.run_packets.result (request_of c.args.command) c.in-Packets.unwrap (ap request_of c.in-Packets.is) c.run_packets.ensures.counted

pub returns-in-Packets-clause-no_errors : goal.returns-in-Packets-clause-no_errors
returns-in-Packets-clause-no_errors g c = of_no_other _ c.run_packets.result (request_of c.args.command) c.in-Packets.unwrap (ap request_of c.in-Packets.is)

pub returns-in-Query-clause-device_failed : goal.returns-in-Query-clause-device_failed
returns-in-Query-clause-device_failed g c = rw c.in-Query.is (query_cause c.in-Query.query c.run_query.result _ _ _ _ c.run_query.ensures.device_failed)
