use Rattle.std.proofs.Common.{ap, rules, subst}
use Rattle.command_streams.specs.Failures.{known_after}
use Rattle.command_streams.proofs.FailureLemmas.{write_cause}
use Rattle.command_replay.specs.Replaying.{HasCauseThenFlush}
use Rattle.command_replay.proofs.CauseLemmas.{then_flush}
use Rattle.command_replay.proofs.RepliesLemmas.{answered_known}
use Rattle.command_replay.proofs.SummaryLemmas.{done_behind, told_behind}
use Rattle.command_replay.proofs.summarizing.summarize_replies.Goals as goal

pub returns-clause-failed_written : goal.returns-clause-failed_written
returns-clause-failed_written g c =
    let input = g.R.Input.state c.args.input.now in let input' = g.R.Input.state c.count_written.new.input in
    let counted = c.in_ok-counts.ensures in
    let told = c.write_summary.ensures in
    told_behind (known_after input input') (g.W.CountedWrite.contents c.args.out.now) (g.W.CountedWrite.contents c.count_written.new.out) c.in_ok-counts.counts
    (answered_known input input' c.in_ok-counts.counts counted.replied) counted.written
    _ c.write_summary.result told.failed (λ is. ap g.W.CountedWrite.contents (told.no_memory is)) told.beginning

pub returns-clause-written : goal.returns-clause-written
returns-clause-written g c =
    let counted = c.in_ok-counts.ensures in
    let told = c.write_summary.ensures in
    done_behind (g.R.Input.state c.args.input.now).coming (g.W.CountedWrite.contents c.args.out.now) (g.W.CountedWrite.contents c.count_written.new.out) c.in_ok-counts.counts counted.replied counted.written
    _ c.write_summary.result told.done told.written

pub returns-clause-device_failed : goal.returns-clause-device_failed
returns-clause-device_failed g c =
    let input = g.R.Input.state c.args.input.now in let input' = g.R.Input.state c.count_written.new.input in
    let counted = c.in_ok-counts.ensures in
    let told = c.write_summary.ensures in
    subst (λ wrote. HasCauseThenFlush c.write_summary.result input.failures input'.failures wrote (g.W.CountedWrite.failures c.write_summary.new.out)) counted.device_failed.1
    (then_flush c.write_summary.result input.failures input'.failures _ _
    (write_cause c.write_summary.result input.failures input'.failures _ _ told.failed counted.device_failed.0 told.device_failed))

pub returns-clause-failed : goal.returns-clause-failed
returns-clause-failed g c = search rules
