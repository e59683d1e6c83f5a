use Rattle.std.proofs.Common.{◌+◌, None, arith, false, length, refl, subst, sym}
use Rattle.std.proofs.lemmas.Result.{IfOk-weaker}
use Rattle.filter_emit.proofs.WritesLemmas.{Writes-not, Writes-weight}
use Rattle.bpf_insn.specs.declared.instruction.Test.TheVariants as test_is
use Rattle.bpf_machine.specs.Meaning.{holds}
use Rattle.filter_tree.specs.declared.primitive.Primitive.TheVariants.{AtLeast, AtMost, Host, Net, Port, PortRange}
use Rattle.filter_tree.specs.Outcome.{answer, opposite}
use Rattle.filter_tree.specs.Primitive.{is_ip, is_protocol, truth_of_primitive}
use Rattle.filter_facts.specs.Known.{Holds}
use Rattle.filter_compile.specs.body.Piece.{Decides}
use Rattle.filter_compile.specs.body.Weight.{version_weight_under, weight_of_primitive_under}
use Rattle.filter_compile.proofs.GuardLemmas.{Guards-added, Writes-decided, Writes-guarded, Writes-no}
use Rattle.filter_compile.proofs.HeaderLemmas.{at_most}
use Rattle.filter_compile.proofs.TestLemmas.{Decides-not, Decides-same}
use Rattle.filter_compile.proofs.WeightLemmas.{port_range_weight, port_weight, primitive_weight}
use Rattle.filter_compile.proofs.primitive.primitive.Goals as goal

pub returns-then-excludes : goal.returns-then-excludes
returns-then-excludes g c = record {
  writes = IfOk-weaker c.settled.result _ _
      (λ sides branches_always. Writes-no c.args.known sides (truth_of_primitive c.args.primitive) (weight_of_primitive_under c.args.known c.args.primitive) c.args.yes.now (primitive_weight c.args.known c.args.primitive) (c.if-excludes.ensures.excluded refl) branches_always) c.settled.ensures.branches_always;
}

pub returns-in-Ip : goal.returns-in-Ip
returns-in-Ip g c = record { writes = rw c.in-Ip.is c.version.ensures.writes }

pub returns-in_ok-sides-in-Proto : goal.returns-in_ok-sides-in-Proto
returns-in_ok-sides-in-Proto g c =
    let ip = c.guard_ip.new.passed in let sides = c.in_ok-sides-in-Proto.sides in record {
      writes = rw c.in-Proto.is (Writes-guarded c.args.known ip.on sides.yes sides.no c.or_no.result ip.no is_ip (is_protocol c.in-Proto.n) (version_weight_under c.args.known + 4) (omega arith) c.or_no.ensures.of_self c.or_no.ensures.of_no (Guards-added c.args.known is_ip version_weight_under c.at_once-ip.result ip c.at_once-ip.ensures.on c.in_ok-guard_ip-in-Proto.ensures.adds) c.in_ok-sides-in-Proto.ensures.writes);
    }

pub returns-in-Host : goal.returns-in-Host
returns-in-Host g c = record {
  writes = rw c.in-Host.is (IfOk-weaker c.addresses.result _ _ (λ sides w. Writes-weight (weight_of_primitive_under c.args.known (Host c.in-Host.direction c.in-Host.address)) (omega arith) w) c.addresses.ensures.writes);
}

pub returns-in-Net : goal.returns-in-Net
returns-in-Net g c = record {
  writes = rw c.in-Net.is (IfOk-weaker c.addresses-in-Net.result _ _ (λ sides w. Writes-weight (weight_of_primitive_under c.args.known (Net c.in-Net.direction c.in-Net.prefix)) (omega arith) w) c.addresses-in-Net.ensures.writes);
}

pub returns-in-Port : goal.returns-in-Port
returns-in-Port g c =
    let n = c.in-Port.n in let known = c.args.known in record {
      writes = rw c.in-Port.is (IfOk-weaker c.ports.result _ _
          (λ sides w. Writes-weight (weight_of_primitive_under known (Port c.in-Port.transport c.in-Port.direction n)) (port_weight known c.in-Port.transport c.in-Port.direction n n) w) c.ports.ensures.writes);
    }

pub returns-in-PortRange : goal.returns-in-PortRange
returns-in-PortRange g c =
    let n = c.in-PortRange.n in let m = c.in-PortRange.m in let known = c.args.known in record {
      writes = rw c.in-PortRange.is (IfOk-weaker c.ports-in-PortRange.result _ _
          (λ sides w. Writes-weight (weight_of_primitive_under known (PortRange c.in-PortRange.transport c.in-PortRange.direction n m)) (port_range_weight known c.in-PortRange.transport c.in-PortRange.direction n m n m) w) c.ports-in-PortRange.ensures.writes);
    }

pub returns-in_ok-bytes-in-AtMost : goal.returns-in_ok-bytes-in-AtMost
returns-in_ok-bytes-in-AtMost g c =
    let n = c.in-AtMost.n in let both = c.both in let asked = c.with_in_a in record {
      writes = rw c.in-AtMost.is (Writes-decided c.args.known asked.result both.result.yes both.result.no None None (truth_of_primitive (AtMost n)) (λ packet a x h. tt) asked.ensures.holds (λ packet a x h is. subst (λ k. Holds k packet a x) (sym both.ensures.yes) h)
          (λ packet a x h is. subst (λ k. Holds k packet a x) (sym both.ensures.no) h)
          (Writes-not {other = Decides false None None (truth_of_primitive (AtMost n))}
          (λ at_yes at_no words h. Decides-same false None None (λ packet. opposite (answer (holds test_is.Greater (length packet) n))) (truth_of_primitive (AtMost n)) at_yes at_no words (λ packet ok. at_most (length packet) n)
          (Decides-not false None None (λ packet. answer (holds test_is.Greater (length packet) n)) at_yes at_no words h))
          c.in_ok-bytes-in-AtMost.ensures.writes));
    }

pub returns-in_ok-bytes-in-AtLeast : goal.returns-in_ok-bytes-in-AtLeast
returns-in_ok-bytes-in-AtLeast g c =
    let both = c.both-in-AtLeast in let asked = c.with_in_a-in-AtLeast in record {
      writes = rw c.in-AtLeast.is (Writes-decided c.args.known asked.result both.result.yes both.result.no None None (truth_of_primitive (AtLeast c.in-AtLeast.n)) (λ packet a x h. tt) asked.ensures.holds
          (λ packet a x h is. subst (λ k. Holds k packet a x) (sym both.ensures.yes) h) (λ packet a x h is. subst (λ k. Holds k packet a x) (sym both.ensures.no) h) c.in_ok-bytes-in-AtLeast.ensures.writes);
    }
