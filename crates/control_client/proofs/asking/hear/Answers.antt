use Rattle.std.proofs.Common.{[], arith, length, length-append, refl, take, ◌<◌, ◌++◌, ◌∷◌, ◌≡◌, rules}
use Rattle.std.proofs.lemmas.Bool.{both_ways}
use Rattle.control_client.specs.Wire.{came, none_came, wait_failed}
use Rattle.control_client.specs.body.Asking.{broken, out_of_time, too_many}
use Rattle.control_client.proofs.ExchangeLemmas.{gave_none, gave_one, hears, passes_more, passes_none}
use Rattle.control_client.proofs.WireLemmas.{logs_more}
use Rattle.control_client.proofs.asking.hear.Goals as goal

pub loop-passed-init : goal.loop-passed-init
loop-passed-init g c = ([], passes_none c.args.switch (g.D.Wire.log c.args.wire.now), refl)

pub returns-in-Ok-Some-clause-heard : goal.returns-in-Ok-Some-clause-heard
returns-in-Ok-Some-clause-heard g c =
    let so_far = c.loop-passed.invariant in let some = c.in-Ok-Some in
    let mid = g.D.Wire.log c.loop-passed.wire in let after = g.D.Wire.log c.receive.new.self in
    let few : length so_far.0 < 4096 = (let count = so_far.2 in let bound = c.loop-passed-test.true in let end = c.loop-passed.auto._passed-end in omega arith) in
    hears c.args.switch some.one (take some.one.len c.receive.new.buf) so_far.0 (g.D.Wire.log c.args.wire.now) mid after so_far.1 few
    (c.is.ensures.0 c.if-is.true)
    (gave_one c.receive.result some.field-0 some.one c.receive.new.buf mid after some.is some.field-0-is c.receive.ensures.logged)

pub returns-in-Ok-None-clause-not_heard : goal.returns-in-Ok-None-clause-not_heard
returns-in-Ok-None-clause-not_heard g c =
    let so_far = c.loop-passed.invariant in let before = g.D.Wire.log c.args.wire.now in
    let mid = g.D.Wire.log c.loop-passed.wire in let after = g.D.Wire.log c.receive.new.self in
    let few : length so_far.0 < 4096 = (let count = so_far.2 in let bound = c.loop-passed-test.true in let end = c.loop-passed.auto._passed-end in omega arith) in
    out_of_time c.args.switch before after so_far.0 so_far.1.are_foreign few
    (logs_more before mid after so_far.0 (none_came ∷ []) so_far.1.logged
    (gave_none c.receive.result c.in-Ok-None.field-0 c.receive.new.buf mid after c.in-Ok-None.is c.in-Ok-None.field-0-is c.receive.ensures.logged))

pub returns-in-Err-clause-not_heard : goal.returns-in-Err-clause-not_heard
returns-in-Err-clause-not_heard g c =
    let so_far = c.loop-passed.invariant in let before = g.D.Wire.log c.args.wire.now in
    let mid = g.D.Wire.log c.loop-passed.wire in let after = g.D.Wire.log c.receive.new.self in
    let few : length so_far.0 < 4096 = (let count = so_far.2 in let bound = c.loop-passed-test.true in let end = c.loop-passed.auto._passed-end in omega arith) in
    broken c.args.switch before after so_far.0 so_far.1.are_foreign few
    (logs_more before mid after so_far.0 (wait_failed ∷ []) so_far.1.logged c.in-Err.ensures.logged)

pub loop-passed-preserved : goal.loop-passed-preserved
loop-passed-preserved g c =
    let so_far = c.loop-passed.invariant in let some = c.in-Ok-Some in
    let mid = g.D.Wire.log c.loop-passed.wire in let after = g.D.Wire.log c.receive.new.self in
    let bytes = take some.one.len c.receive.new.buf in
    let longer = length-append so_far.0 (came some.one.from bytes ∷ []) in let count = so_far.2 in (
      so_far.0 ++ came some.one.from bytes ∷ [],
      passes_more c.args.switch some.one.from bytes so_far.0 (g.D.Wire.log c.args.wire.now) mid after so_far.1
          (λ same. both_ways c.is.result c.if-is.false (c.is.ensures.1 same))
          (gave_one c.receive.result some.field-0 some.one c.receive.new.buf mid after some.is some.field-0-is c.receive.ensures.logged),
      omega arith,
    )

pub returns-clause-not_heard : goal.returns-clause-not_heard
returns-clause-not_heard g c =
    let so_far = c.loop-passed.invariant in
    let until : length so_far.0 ≡ 4096 = (let count = so_far.2 in let bound = c.loop-passed-test.false in let end = c.loop-passed.auto._passed-end in omega arith) in
    too_many c.args.switch (g.D.Wire.log c.args.wire.now) (g.D.Wire.log c.loop-passed.wire) so_far.0 so_far.1.are_foreign until so_far.1.logged

pub returns-clause-heard : goal.returns-clause-heard
returns-clause-heard g c = search rules

pub returns-clause-within : goal.returns-clause-within
returns-clause-within g c = search rules

pub returns-in-Err-clause-heard : goal.returns-in-Err-clause-heard
returns-in-Err-clause-heard g c = search rules

pub returns-in-Err-clause-within : goal.returns-in-Err-clause-within
returns-in-Err-clause-within g c = search rules

pub returns-in-Ok-None-clause-heard : goal.returns-in-Ok-None-clause-heard
returns-in-Ok-None-clause-heard g c = search rules

pub returns-in-Ok-None-clause-within : goal.returns-in-Ok-None-clause-within
returns-in-Ok-None-clause-within g c = search rules

pub returns-in-Ok-Some-clause-not_heard : goal.returns-in-Ok-Some-clause-not_heard
returns-in-Ok-Some-clause-not_heard g c = search rules

pub returns-in-Ok-Some-clause-within : goal.returns-in-Ok-Some-clause-within
returns-in-Ok-Some-clause-within g c = search rules
