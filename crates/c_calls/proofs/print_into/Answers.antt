use Rattle.std.proofs.Common.{◌∙◌, ap, refl, subst}
use Rattle.bpf_verify.specs.Fault.{IsFirstFault}
use Rattle.c_calls.specs.Answer as answer
use Rattle.c_calls.proofs.print_into.Goals as goal

pub returns-in-Err-clause-answer : goal.returns-in-Err-clause-answer
returns-in-Err-clause-answer c =
    answer.refuses c.in-Err.fault (subst (λ words. IsFirstFault words c.in-Err.fault) c.in-Ok.ensures.items c.in-Err.ensures.program_fault) refl (c.code_answer.ensures ∙ ap answer.code_answer c.code.ensures)
