use Rattle.std.proofs.Common.{◌+◌, ◌∙◌, ap, arith, length, refl, rules, take}
use Rattle.config_image.specs.Image.{programs_begin}
use Rattle.config_image.specs.Pooled.{parts, pooled_row}
use Rattle.member_group.specs.Charge.{charge_of}
use Rattle.versions.proofs.WorldLemmas.{has_room}
use Rattle.retire.specs.body.Sink.{SinkValue, taken_of}
use Rattle.retire.proofs.FillingLemmas.{filling_begins, front_inside, front_is_filled, same_borrow}
use Rattle.retire.proofs.sink.fill_front.Goals as goal

pub invariant_of-sink : goal.invariant_of-sink
invariant_of-sink g c = filling_begins _ _ c.args.row c.requires.lent c.requires.free

pub returns-clause-front : goal.returns-clause-front
returns-clause-front g c = let s = c.sink.inside in let sink : SinkValue = record { borrow = s.operator.ghost_name; operator = s.operator.now; row = s.row; place = s.place } in
    let took = ap taken_of c.sink.view_is ∙ c.write_pooled.ensures.written in let name = same_borrow sink _ _ _ took in
    front_is_filled sink _ c.args.operator.now _ (search (rules, name)) c.requires.lent _ c.args.row (take (programs_begin c.args.config.now + length (parts c.args.config.now)) (pooled_row c.args.config.now c.args.pages.now)) took c.sink.invariant

pub write_pooled-requires-clause-room : goal.write_pooled-requires-clause-room
write_pooled-requires-clause-room g c = let p = c.requires.publishable in
    omega (arith, front_inside c.args.config.now c.args.pages.now (has_room c.args.config.now (charge_of c.args.config.now) p.0 refl p.1) c.requires.pages)
