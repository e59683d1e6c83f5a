use Rattle.std.proofs.Common.{ap, arith}
use Rattle.versions.specs.Free.{number_after}
use Rattle.read_section.specs.Operator.{OperatorValue}
use Rattle.read_section.proofs.FilledLemmas.{row_inside}
use Rattle.retire.proofs.PublishLemmas.{full_holds, number_found, publishes, shares, stands_in_row, version_number}
use Rattle.retire.proofs.OperatorRetire.publish.Goals as goal

pub put-requires-clause-free : goal.put-requires-clause-free
put-requires-clause-free c = c.fill_version.ensures.1.row_filled.still_free

pub put-requires-clause-holds : goal.put-requires-clause-holds
put-requires-clause-holds c = let t = c.fill_version.ensures in (t.0, full_holds _ _ c.in-Some.row c.args.config t.0 t.1 (row_inside c.in-Some.row c.in-Some.ensures.some.free.0))

pub put-requires-clause-number : goal.put-requires-clause-number
put-requires-clause-number c = let number = c.number.ensures in let is = number.number in let limited = number.limited in let not_last = c.if-number-eq-LAST_NUMBER.false in let t = c.fill_version.ensures in
    let filled = version_number _ _ c.in-Some.row c.args.config t.0 t.1 (row_inside c.in-Some.row c.in-Some.ensures.some.free.0) in let found = number_found c.args.self.now c.look_for_row.new.operator c.in-Some.ensures.looked in omega arith

pub returns-clause-published_exactly : goal.returns-clause-published_exactly
returns-clause-published_exactly c = let t = c.fill_version.ensures in
    publishes c.look_for_row.new.operator c.fill_version.new.operator c.in-Some.row c.args.config t.0 t.1 (row_inside c.in-Some.row c.in-Some.ensures.some.free.0)
    c.args.self.now c.in-Some.ensures.looked (c.put.ensures.named t.0 (full_holds _ _ c.in-Some.row c.args.config t.0 t.1 (row_inside c.in-Some.row c.in-Some.ensures.some.free.0))) c.put.new.self c.in-Some.ensures.some c.put.ensures.one_publish

pub returns-clause-equal_programs_shared : goal.returns-clause-equal_programs_shared
returns-clause-equal_programs_shared c = let t = c.fill_version.ensures in
    shares c.look_for_row.new.operator c.fill_version.new.operator c.in-Some.row c.args.config t.0 t.1 (row_inside c.in-Some.row c.in-Some.ensures.some.free.0)
    c.args.self.now c.in-Some.ensures.looked (c.put.ensures.named t.0 (full_holds _ _ c.in-Some.row c.args.config t.0 t.1 (row_inside c.in-Some.row c.in-Some.ensures.some.free.0))) c.put.new.self c.in-Some.ensures.some c.put.ensures.one_publish

pub returns-clause-filled_row : goal.returns-clause-filled_row
returns-clause-filled_row c = let t = c.fill_version.ensures in
    stands_in_row c.look_for_row.new.operator c.fill_version.new.operator c.in-Some.row c.args.config t.0 t.1 (row_inside c.in-Some.row c.in-Some.ensures.some.free.0)
    c.args.self.now c.in-Some.ensures.looked (c.put.ensures.named t.0 (full_holds _ _ c.in-Some.row c.args.config t.0 t.1 (row_inside c.in-Some.row c.in-Some.ensures.some.free.0))) c.put.new.self c.put.ensures.one_publish

pub returns-clause-new_number : goal.returns-clause-new_number
returns-clause-new_number c = let t = c.fill_version.ensures in let filled = version_number _ _ c.in-Some.row c.args.config t.0 t.1 (row_inside c.in-Some.row c.in-Some.ensures.some.free.0) in let found = number_found c.args.self.now c.look_for_row.new.operator c.in-Some.ensures.looked in
    let after = ap (λ (o : OperatorValue). number_after o.view.log) c.put.ensures.one_publish in let number = c.number-2.ensures.number in omega arith
