use Rattle.std.proofs.Common.{◌≡◌, ap, arith, length}
use Rattle.std.proofs.lemmas.Result.{on_ok_weaker}
use Rattle.filter_emit.proofs.FinishLemmas.{bindable_last, finished_from}
use Rattle.filter_emit.proofs.WritesLemmas.{Writes-weight, bindable}
use Rattle.filter_tree.specs.Measure.{weight_of}
use Rattle.filter_tree.specs.View.{tree_of}
use Rattle.filter_compile.proofs.ProgramLemmas.{is_program}
use Rattle.filter_compile.proofs.WeightLemmas.{weight_under-within}
use Rattle.filter_compile.proofs.write_to_labels.Goals as goal

pub expression-requires-clause-room : goal.expression-requires-clause-room
expression-requires-clause-room g c =
    let few = weight_under-within c.nothing.result (tree_of c.args.expr.now) in let none : length c.args.code.now ≡ 0 = ap length c.requires.empty in omega arith

pub bind-requires-clause-by : goal.bind-requires-clause-by
bind-requires-clause-by g c =
    let few = weight_under-within c.nothing.result (tree_of c.args.expr.now) in let none : length c.args.code.now ≡ 0 = ap length c.requires.empty in
    let writes = c.in_ok-expression.ensures.writes in let light = writes.piece.light in let by = writes.yes_by in omega arith

pub bind-requires-clause-room : goal.bind-requires-clause-room
bind-requires-clause-room g c =
    let few = weight_under-within c.nothing.result (tree_of c.args.expr.now) in let none : length c.args.code.now ≡ 0 = ap length c.requires.empty in
    let light = c.in_ok-expression.ensures.writes.piece.light in omega arith

pub bind-requires-2-clause-by : goal.bind-requires-2-clause-by
bind-requires-2-clause-by g c =
    let few = weight_under-within c.nothing.result (tree_of c.args.expr.now) in let none : length c.args.code.now ≡ 0 = ap length c.requires.empty in
    let writes = c.in_ok-expression.ensures.writes in let light = writes.piece.light in let by = writes.no_by in
    let long = (bindable_last c.requires.yes_empty c.requires.no_empty writes c.bind.ensures.bound c.in_ok-push.ensures.appended).1 in omega arith

pub bind-requires-2-clause-room : goal.bind-requires-2-clause-room
bind-requires-2-clause-room g c =
    let few = weight_under-within c.nothing.result (tree_of c.args.expr.now) in let none : length c.args.code.now ≡ 0 = ap length c.requires.empty in
    let writes = c.in_ok-expression.ensures.writes in let light = writes.piece.light in
    let long = (bindable_last c.requires.yes_empty c.requires.no_empty writes c.bind.ensures.bound c.in_ok-push.ensures.appended).1 in omega arith

pub bind-requires-clause-open : goal.bind-requires-clause-open
bind-requires-clause-open g c = bindable c.requires.yes_empty c.in_ok-expression.ensures.writes

pub bind-requires-2-clause-open : goal.bind-requires-2-clause-open
bind-requires-2-clause-open g c = (bindable_last c.requires.yes_empty c.requires.no_empty c.in_ok-expression.ensures.writes c.bind.ensures.bound c.in_ok-push.ensures.appended).0

pub returns : goal.returns
returns g c = record {
  program = on_ok_weaker c.push-2.result
      (λ pushed. let sides = c.in_ok-expression.field-0 in let tree = tree_of c.args.expr.now in
      is_program tree c.nothing.result sides.yes sides.no c.args.yes.now.by c.args.no.now.by c.push-2.new.self
      (finished_from c.requires.empty c.requires.yes_empty c.requires.no_empty (Writes-weight (weight_of tree) (weight_under-within c.nothing.result tree) c.in_ok-expression.ensures.writes) c.bind.ensures.bound c.in_ok-push.ensures.appended c.bind-2.ensures.bound pushed)
      (omega arith) (omega arith) (omega arith) c.nothing.ensures.holds)
      c.push-2.ensures.appended;
}
