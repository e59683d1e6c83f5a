use Rattle.std.proofs.Common.{refl, subst, sym}
use Rattle.std.proofs.lemmas.Result.{IfOk-weaker}
use Rattle.filter_tree.specs.Tree.{relation}
use Rattle.filter_tree.specs.Truth.{accesses_of_both, guards, truth_of, used_by}
use Rattle.filter_tree.specs.View.{arith_tree_of}
use Rattle.filter_facts.specs.Known.{Knows}
use Rattle.filter_facts.proofs.FactLemmas.{guards-used_by, x_known}
use Rattle.filter_compile.specs.body.Weight.{weight_of_guards_under, weight_under}
use Rattle.filter_compile.proofs.GuardLemmas.{Guards-added, Writes-no}
use Rattle.filter_compile.proofs.RelationLemmas.{Writes-relation, excluded_relation, relation_weight}
use Rattle.filter_compile.proofs.WeightLemmas.{guards_weight-used_by}
use Rattle.filter_compile.proofs.relation.relation.Goals as goal

pub returns-then-excludes_guards : goal.returns-then-excludes_guards
returns-then-excludes_guards g c =
    let left = arith_tree_of c.args.left.now in let right = arith_tree_of c.args.right.now in let tree = relation left c.args.relation right in let used = c.of_both-used.result in let told = c.of_both-used.ensures in
    let same = guards-used_by used (accesses_of_both left right) told.ip told.tcp told.udp told.icmp in let known = c.args.known in let weight = guards_weight-used_by known used (accesses_of_both left right) told.ip told.tcp told.udp told.icmp in record {
      writes = IfOk-weaker c.settled.result _ _
          (λ sides branches_always. Writes-no c.args.known sides (truth_of tree) (weight_under known tree) c.args.yes.now (relation_weight c.args.relation left right used same known weight)
          (λ packet a x h. excluded_relation c.args.relation left right used same known weight packet (c.if-excludes_guards.ensures.excluded refl packet a x h)) branches_always) c.settled.ensures.branches_always;
    }

pub returns : goal.returns
returns g c =
    let left = arith_tree_of c.args.left.now in let right = arith_tree_of c.args.right.now in let used = c.of_both-used.result in let told = c.of_both-used.ensures in let before = c.guards.new.passed in
    let same = guards-used_by used (accesses_of_both left right) told.ip told.tcp told.udp told.icmp in let known = c.args.known in let weight = guards_weight-used_by known used (accesses_of_both left right) told.ip told.tcp told.udp told.icmp in record {
      writes = Writes-relation c.args.relation left right used same known weight before.on c.with_in_a-on.result c.or_no.result before.no c.header_in_x.result c.in_ok-held.held c.in_ok-held-2.held
          (λ packet a x k. subst (λ b. Knows b packet x) (sym c.header_in_x.ensures.exact) (x_known before.on packet a x k))
          (λ packet a a' x x' h knows. c.with_in_a-on.ensures.holds packet a a' x' (c.with_header_in_x.ensures.holds packet a x x' h knows) tt) c.or_no.ensures.of_self c.or_no.ensures.of_no
          (Guards-added known (guards (used_by used)) (λ k. weight_of_guards_under k (used_by used)) c.at_once-before.result before c.at_once-before.ensures.on c.in_ok-guards.ensures.adds) c.in_ok-held.ensures.computes c.in_ok-held-2.ensures.writes;
    }
