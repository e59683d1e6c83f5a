use Rattle.std.proofs.Common.{inl, inr, refl, rules, sym, ◌∙◌}
use Rattle.command_operating.proofs.CauseLemmas.{refuses_once}
use Rattle.command_waiting.specs.Waiting.{no_rules}
use Rattle.command_waiting.proofs.FailureLemmas.{ends_serving, ends_unread, fail_unwritten, fails_serving, fails_unread, fails_unwritten}
use Rattle.command_waiting.proofs.serving.run_serve.Goals as goal

pub returns-in_default-clause-failed : goal.returns-in_default-clause-failed
returns-in_default-clause-failed g c = λ is.
    fails_unwritten _ _ _ _ _ _ _ _ _ (inl (rw c.as_bytes.ensures.value at c.in_default.ensures)) c.refuse_address.ensures.beginning (c.refuse_address.ensures.failed is)

pub returns-in_default-from_text-clause-failed : goal.returns-in_default-from_text-clause-failed
returns-in_default-from_text-clause-failed g c =
    let refused = c.refuse_address-in_default-from_text in
    λ is. fails_unwritten _ _ _ _ _ _ _ _ _ (inr c.in_default-from_text.ensures) refused.ensures.beginning (refused.ensures.failed is)

pub returns-in_default-from_text-clause-refused : goal.returns-in_default-from_text-clause-refused
returns-in_default-from_text-clause-refused g c = search rules

pub returns-in_default-clause-refused : goal.returns-in_default-clause-refused
returns-in_default-clause-refused g c = search rules

pub returns-in-Err-clause-refused : goal.returns-in-Err-clause-refused
returns-in-Err-clause-refused g c = λ is.
    no_rules (c.in-Some.address, c.in-Some.ensures.0, sym c.as_bytes.ensures.value ∙ c.in-Some.ensures.1) (c.in-Some-from_text.control, c.in-Some-from_text.ensures)
    (c.in-Err.ensures.refused is)

pub returns-in_default-clause-device_failed : goal.returns-in_default-clause-device_failed
returns-in_default-clause-device_failed g c =
    refuses_once _ _ _ _ _ c.refuse_address.result refl
    (λ is. fail_unwritten _ _ _ _ _ _ _ _ _ (inl (rw c.as_bytes.ensures.value at c.in_default.ensures)) c.refuse_address.ensures.beginning (c.refuse_address.ensures.failed is))
    c.refuse_address.ensures.device_failed

pub returns-in_default-from_text-clause-device_failed : goal.returns-in_default-from_text-clause-device_failed
returns-in_default-from_text-clause-device_failed g c =
    let refused = c.refuse_address-in_default-from_text in
    refuses_once _ _ _ _ _ refused.result refl
    (λ is. fail_unwritten _ _ _ _ _ _ _ _ _ (inr c.in_default-from_text.ensures) refused.ensures.beginning (refused.ensures.failed is)) refused.ensures.device_failed

pub returns-in-Err-clause-failed : goal.returns-in-Err-clause-failed
returns-in-Err-clause-failed g c = λ is.
    fails_unread _ _ _ _ _ _ _ _ _
    (c.in-Some.address, c.in-Some.ensures.0, sym c.as_bytes.ensures.value ∙ c.in-Some.ensures.1)
    (c.in-Some-from_text.control, c.in-Some-from_text.ensures)
    (c.in-Err.ensures.failed is)

pub returns-in-Err-clause-device_failed : goal.returns-in-Err-clause-device_failed
returns-in-Err-clause-device_failed g c =
    ends_unread _ _ _ _ _ _ _ _ _
    (c.in-Some.address, c.in-Some.ensures.0, sym c.as_bytes.ensures.value ∙ c.in-Some.ensures.1)
    (c.in-Some-from_text.control, c.in-Some-from_text.ensures)
    _ _ _ _ c.in-Err.status c.in-Err.ensures.device_failed

pub returns-clause-failed : goal.returns-clause-failed
returns-clause-failed g c = λ is.
    fails_serving _ _ _ _ _ _ _ _ _
    (c.in-Some.address, c.in-Some.ensures.0, sym c.as_bytes.ensures.value ∙ c.in-Some.ensures.1)
    (c.in-Some-from_text.control, c.in-Some-from_text.ensures)
    c.in-Ok.config c.in-Ok.ensures.made (rw (c.in-Ok.ensures.unwritten, c.in-Ok.ensures.no_errors) at (c.serve_at.ensures.failed is))

pub returns-clause-device_failed : goal.returns-clause-device_failed
returns-clause-device_failed g c =
    ends_serving _ _ _ _ _ _ _ _ _
    (c.in-Some.address, c.in-Some.ensures.0, sym c.as_bytes.ensures.value ∙ c.in-Some.ensures.1)
    (c.in-Some-from_text.control, c.in-Some-from_text.ensures)
    c.in-Ok.config c.in-Ok.ensures.made
    _ _ _ _ c.serve_at.result c.in-Ok.ensures.none_failed (rw (c.in-Ok.ensures.unwritten, c.in-Ok.ensures.no_errors) at c.serve_at.ensures.device_failed)
