use Rattle.std.proofs.Common.{◌∙◌, List, Result, Some, ap, arith, length, option_map, sym, take, ℕ}
use Rattle.dispatch.specs.declared.device.Failed.{Failed}
use Rattle.serve_devices.specs.Devices.{WorkerSourceValue}
use Rattle.serve_devices.specs.body.Ahead.{coming_in, coming_of, with_ahead}
use Rattle.serve_devices.proofs.IngressLemmas.{after_failure, after_taken, gives_failure, gives_taken}
use Rattle.serve_devices.proofs.worker_source.WorkerSourceSource.next.Goals as goal

pub returns-in-Some-Ok-clause-given_once : goal.returns-in-Some-Ok-clause-given_once
returns-in-Some-Ok-clause-given_once g c =
    let left = ap (λ (s : WorkerSourceValue). s.left) c.self.view_is in
    let coming = ap (λ (s : WorkerSourceValue). s.coming) c.self.view_is in
    let some = c.if-self-eq0.false in
    let found = ap (λ (r : Result ℕ Failed). option_map (with_ahead c.take_next.new.room.items (Some r))
    (coming_of c.take_next.new.room.items c.take_next.new.ahead (coming_in g.I.Ingress.coming c.take_next.new.ingress))) c.in-Some-Ok.field-0-is in
    let copied = ap (λ (b : List ℕ). take (length c.copy_into.new.buf) (take c.in-Some-Ok.size b)) c.deref.ensures.value in
    gives_taken _ _ _ _ c.take_next.new.room.items _ _ _ (omega (arith, left, some)) (c.copy_into.ensures.copied ∙ copied) (sym coming ∙ c.in-Some-Ok.ensures.given ∙ found)

pub returns-in-Some-Err-clause-given_once : goal.returns-in-Some-Err-clause-given_once
returns-in-Some-Err-clause-given_once g c =
    let left = ap (λ (s : WorkerSourceValue). s.left) c.self.view_is in
    let coming = ap (λ (s : WorkerSourceValue). s.coming) c.self.view_is in
    let some = c.if-self-eq0.false in
    let found = ap (λ (r : Result ℕ Failed). option_map (with_ahead c.take_next.new.room.items (Some r))
    (coming_of c.take_next.new.room.items c.take_next.new.ahead (coming_in g.I.Ingress.coming c.take_next.new.ingress))) c.in-Some-Err.field-0-is in
    gives_failure _ _ _ _ c.take_next.new.room.items _ _ (omega (arith, left, some)) (sym coming ∙ c.in-Some-Err.ensures.given ∙ found)

pub returns-in-Some-Ok-clause-given_in_order : goal.returns-in-Some-Ok-clause-given_in_order
returns-in-Some-Ok-clause-given_in_order g c =
    let past = ap (λ (s : WorkerSourceValue). s.past) c.self.view_is in
    let copied = ap (λ (b : List ℕ). take (length c.copy_into.new.buf) (take c.in-Some-Ok.size b)) c.deref.ensures.value in
    after_taken _ c.take_next.new.room.items _ _ _ _ past c.in-Some-Ok.ensures.in_order _ _ (c.copy_into.ensures.copied ∙ copied) (ap Some c.in-Some-Ok.field-0-is)

pub returns-in-Some-Err-clause-given_in_order : goal.returns-in-Some-Err-clause-given_in_order
returns-in-Some-Err-clause-given_in_order g c =
    let past = ap (λ (s : WorkerSourceValue). s.past) c.self.view_is in
    after_failure _ c.take_next.new.room.items _ _ _ _ past c.in-Some-Err.ensures.in_order _ (ap Some c.in-Some-Err.field-0-is)
