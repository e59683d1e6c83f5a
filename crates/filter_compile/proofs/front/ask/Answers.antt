use Rattle.filter_tree.specs.Primitive.{is_ip}
use Rattle.filter_compile.specs.body.Front.{guard_truth, guard_weight}
use Rattle.filter_compile.specs.declared.front.Guard.TheVariants.{Ports}
use Rattle.filter_compile.proofs.GuardLemmas.{Guards-added}
use Rattle.filter_compile.proofs.front.ask.Goals as goal

pub returns-in_ok-ask_ip-in-Version-clause-guards : goal.returns-in_ok-ask_ip-in-Version-clause-guards
returns-in_ok-ask_ip-in-Version-clause-guards g c = rw c.in-Version.is (Guards-added c.args.known is_ip (λ k. 5) c.at_once-passed.result c.ask_ip.new.passed c.at_once-passed.ensures.on c.in_ok-ask_ip-in-Version.ensures.adds)

pub returns-in_ok-guard_ports-in-Ports-clause-guards : goal.returns-in_ok-guard_ports-in-Ports-clause-guards
returns-in_ok-guard_ports-in-Ports-clause-guards g c =
    rw c.in-Ports.is (Guards-added c.args.known (guard_truth (Ports c.in-Ports.transport)) (λ k. guard_weight (Ports c.in-Ports.transport) k) c.at_once-passed.result c.guard_ports.new.passed c.at_once-passed.ensures.on c.in_ok-guard_ports-in-Ports.ensures.adds)
