use Rattle.std.proofs.Common.{◌∙◌, None, Some, refl, subst, sym}
use Rattle.std.proofs.lemmas.Result.{IfOk-weaker}
use Rattle.control_line.specs.Packet.{SpellsPacket}
use Rattle.command_query.specs.Packing.{IsTextOf}
use Rattle.command_query.proofs.PackLemmas.{packed}
use Rattle.command_query.proofs.packing.pack.Goals as goal

pub returns-in-None-None-clause-answer : goal.returns-in-None-None-clause-answer
returns-in-None-None-clause-answer c =
    let source : IsTextOf c.args.source.now c.in-Some.from = record { is_endpoint = c.in-Some.ensures.0; text_is = sym c.as_bytes.ensures.value ∙ c.in-Some.ensures.1 } in
    let destination : IsTextOf c.args.destination.now c.in-Some-from_text.to =
    record { is_endpoint = c.in-Some-from_text.ensures.0; text_is = sym c.as_bytes-2.ensures.value ∙ c.in-Some-from_text.ensures.1 } in
    rw (c.in-None-None.is-0, c.in-None-None.is-1)
    (IfOk-weaker c.pack_payload.result _ _ (λ answer. packed c.args.source.now c.args.destination.now None None c.in-Some.from c.in-Some-from_text.to source destination _ answer refl) c.pack_payload.ensures.answer)

pub returns-in-None-Some-clause-answer : goal.returns-in-None-Some-clause-answer
returns-in-None-Some-clause-answer c =
    let source : IsTextOf c.args.source.now c.in-Some.from = record { is_endpoint = c.in-Some.ensures.0; text_is = sym c.as_bytes.ensures.value ∙ c.in-Some.ensures.1 } in
    let destination : IsTextOf c.args.destination.now c.in-Some-from_text.to =
    record { is_endpoint = c.in-Some-from_text.ensures.0; text_is = sym c.as_bytes-2.ensures.value ∙ c.in-Some-from_text.ensures.1 } in
    rw (c.in-None-Some.is-0, c.in-None-Some.is-1)
    (IfOk-weaker c.pack_payload-in-None-Some.result _ _
    (λ answer. packed c.args.source.now c.args.destination.now None (Some c.in-None-Some.text.now) c.in-Some.from c.in-Some-from_text.to source destination
    c.as_bytes-in-None-Some.result.now answer c.as_bytes-in-None-Some.ensures.value)
    c.pack_payload-in-None-Some.ensures.answer)

pub returns-in_ok-payload-in-Some-None-clause-answer : goal.returns-in_ok-payload-in-Some-None-clause-answer
returns-in_ok-payload-in-Some-None-clause-answer c =
    let source : IsTextOf c.args.source.now c.in-Some.from = record { is_endpoint = c.in-Some.ensures.0; text_is = sym c.as_bytes.ensures.value ∙ c.in-Some.ensures.1 } in
    let destination : IsTextOf c.args.destination.now c.in-Some-from_text.to =
    record { is_endpoint = c.in-Some-from_text.ensures.0; text_is = sym c.as_bytes-2.ensures.value ∙ c.in-Some-from_text.ensures.1 } in
    rw (c.in-Some-None.is-0, c.in-Some-None.is-1)
    (IfOk-weaker c.pack_payload-in-Some-None.result _ _
    (λ answer. packed c.args.source.now c.args.destination.now (Some c.in-Some-None.digits.now) None c.in-Some.from c.in-Some-from_text.to source destination
    c.deref.result.now answer (subst (SpellsPacket c.in-Some-None.digits.now) (sym c.deref.ensures.value) c.in_ok-payload-in-Some-None.ensures.spelt))
    c.pack_payload-in-Some-None.ensures.answer)
