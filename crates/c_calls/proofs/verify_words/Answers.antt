use Rattle.std.proofs.Common.{◌∙◌, ap, inr, subst}
use Rattle.std.proofs.Math.Seq.{take-length}
use Rattle.bpf_verify.specs.Fault.{IsFirstFault}
use Rattle.c_calls.specs.Answer.{code_answer}
use Rattle.c_calls.proofs.verify_words.Goals as goal

pub returns-in-Err-clause-answer : goal.returns-in-Err-clause-answer
returns-in-Err-clause-answer c =
    inr (c.in-Err.fault, subst (λ words. IsFirstFault words c.in-Err.fault) (take-length c.args.words.now) c.in-Err.ensures.first_fault, c.code_answer.ensures ∙ ap code_answer c.code.ensures)
