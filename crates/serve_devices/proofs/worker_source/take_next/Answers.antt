use Rattle.std.proofs.Common.{◌≡◌, List, None, Ok, Option, Result, length, rules, subst, sym, ℕ}
use Rattle.dispatch.specs.declared.device.Failed.{Failed}
use Rattle.serve_devices.specs.body.Ahead.{ComesAfter, past_in, past_of}
use Rattle.serve_devices.proofs.IngressLemmas.{found_given, whole_room}
use Rattle.serve_devices.proofs.worker_source.take_next.Goals as goal

pub returns-in-Ok-clause-in_order : goal.returns-in-Ok-clause-in_order
returns-in-Ok-clause-in_order g c =
    let old = c.args.room.now.items in
    let new = c.receive.new.buf in
    let after = g.I.Ingress.past c.receive.new.self in
    let same : length new ≡ length old = search rules in
    let none : c.args.ahead.now ≡ None = search rules in
    let taken : c.take.new.self ≡ None = search rules in
    let ingress : c.args.ingress.now ≡ Ok c.in-Ok.ingress = search rules in
    let given = found_given old new c.receive.result _ _ same c.receive.ensures.in_order in
    let first = subst (λ (ahead : Option (Result ℕ Failed)). ComesAfter new c.receive.result (past_of old ahead (g.I.Ingress.past c.in-Ok.ingress)) (past_of {E = Failed} new None after)) (sym none) given in
    let second = subst (λ ingress. ComesAfter new c.receive.result (past_of old c.args.ahead.now (past_in g.I.Ingress.past ingress)) (past_of {E = Failed} new None after)) (sym ingress) first in
    let third = subst (λ (ahead : Option (Result ℕ Failed)). ComesAfter new c.receive.result (past_of old c.args.ahead.now (past_in g.I.Ingress.past c.args.ingress.now)) (past_of new ahead after)) (sym taken) second in
    subst (λ (bytes : List ℕ). ComesAfter bytes c.receive.result (past_of old c.args.ahead.now (past_in g.I.Ingress.past c.args.ingress.now)) (past_of bytes c.take.new.self after))
    (sym (whole_room c.args.room.now.len old new (search rules) same)) third
