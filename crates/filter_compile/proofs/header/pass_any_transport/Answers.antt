use Rattle.std.proofs.Common.{arith}
use Rattle.filter_emit.proofs.GuardLemmas.{Guards-bound}
use Rattle.filter_emit.proofs.WritesLemmas.{bindable}
use Rattle.filter_compile.proofs.header.pass_any_transport.Goals as goal

pub bind-requires-clause-open : goal.bind-requires-clause-open
bind-requires-clause-open g c = bindable c.label-on.ensures.empty c.in_ok-is_any_transport.ensures.writes

pub returns : goal.returns
returns g c =
    let by = c.label-on.ensures.by in let long = c.len.ensures.length in let room = c.requires.behind in record { guards = Guards-bound c.label-on.ensures.empty (omega arith) c.in_ok-is_any_transport.ensures.writes c.bind.ensures.bound }
