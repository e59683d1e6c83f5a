use Rattle.std.proofs.Common.{◌∙◌, ap}
use Rattle.filter_tree.specs.View.{arith_tree_of}
use Rattle.filter_compile.specs.body.Arithmetic.{simple_value}
use Rattle.filter_compile.proofs.RelationLemmas.{Writes-compared_length, Writes-compared_number, Writes-compared_pair}
use Rattle.filter_compile.proofs.relation.compare_with.Goals as goal

pub returns-in_ok-compare-in-Some-Number : goal.returns-in_ok-compare-in-Some-Number
returns-in_ok-compare-in-Some-Number g c = record {
  writes = Writes-compared_number c.args.relation (arith_tree_of c.args.right.now) c.args.held c.in-Some-Number.n (λ packet. c.in-Some-Number.ensures.value packet ∙ ap (λ s. simple_value s packet) c.in-Some-Number.field-0-is) c.in_ok-compare-in-Some-Number.ensures.writes;
}

pub returns-in_ok-compare-in-Some-Length : goal.returns-in_ok-compare-in-Some-Length
returns-in_ok-compare-in-Some-Length g c = record {
  writes = Writes-compared_length c.args.relation (arith_tree_of c.args.right.now) c.args.held (λ packet. c.in-Some-Length.ensures.value packet ∙ ap (λ s. simple_value s packet) c.in-Some-Length.field-0-is) c.in_ok-push-in-Some-Length.ensures.appended
      c.in_ok-compare-in-Some-Length.ensures.writes;
}

pub returns-in_ok-compare-in-None : goal.returns-in_ok-compare-in-None
returns-in_ok-compare-in-None g c = record { writes = Writes-compared_pair c.args.relation (arith_tree_of c.args.right.now) c.args.held c.in_ok-pair-in-None.ensures.pairs c.in_ok-compare-in-None.ensures.writes }
