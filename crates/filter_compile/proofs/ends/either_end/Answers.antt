use Rattle.std.proofs.Common.{arith}
use Rattle.filter_emit.proofs.BothLemmas.{Writes-or}
use Rattle.filter_emit.proofs.WritesLemmas.{bindable_no}
use Rattle.filter_compile.proofs.HeaderLemmas.{Tests-either, check_weight}
use Rattle.filter_compile.proofs.ends.either_end.Goals as goal

pub bind-requires-clause-open : goal.bind-requires-clause-open
bind-requires-clause-open g c = bindable_no c.label-on.ensures.empty c.in_ok-first.ensures.writes

pub returns : goal.returns
returns g c =
    let check = c.args.check.now in let three = check_weight check in let by = c.label-on.ensures.by in let long = c.len.ensures.length in let first = c.in_ok-first in let second = c.in_ok-second in let forgot = c.with_in_a in
    let room = c.requires.yes_behind in record {
      writes = Writes-or c.label-on.ensures.empty (omega arith)
          (λ at_yes at_no mid words h k. Tests-either check c.args.known c.args.part c.source.result c.destination.result c.source.ensures c.destination.ensures first.first second.second forgot.result first.ensures.same second.ensures.same
          record { packet = forgot.ensures.same_packet; x = forgot.ensures.same_x } forgot.ensures.learned at_yes at_no mid words k h)
          first.ensures.writes c.bind.ensures.bound second.ensures.writes;
    }
