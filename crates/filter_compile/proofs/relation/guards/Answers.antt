use Rattle.filter_compile.proofs.GuardLemmas.{Adds-both}
use Rattle.filter_compile.proofs.RelationLemmas.{Adds-told}
use Rattle.std.proofs.lemmas.Result.{on_ok_weaker}
use Rattle.filter_compile.proofs.relation.guards.Goals as goal

pub returns : goal.returns
returns g c = record {
  adds = on_ok_weaker c.guard_first_fragment.result
      (λ first. Adds-told c.args.passed.now.on c.args.used c.args.passed.now c.guard_first_fragment.new.passed c.any.result c.any_transport.result c.any.ensures.any c.any_transport.ensures.any
      (Adds-both (Adds-both (Adds-both (Adds-both c.in_ok-guard_ip.ensures.adds c.in_ok-guard_protocol.ensures.adds) c.in_ok-guard_protocol-2.ensures.adds) c.in_ok-guard_protocol-3.ensures.adds) first))
      c.guard_first_fragment.ensures.adds;
}
