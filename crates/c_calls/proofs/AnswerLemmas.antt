-- What a call answers where a call below it answered.
use Rattle.std.proofs.Common.{◌≡◌, ◌≤◌, ◌⊎◌, ◌∙◌, Err, List, Ok, Result, ap, inl, inr, length, refl, ℕ}
use Rattle.std.specs.Prelude.{IfErr, IfOk}
use Rattle.bpf_verify.specs.Program.{ProgramValue}
use Rattle.filter_program.specs.Fault.{IsFaultOfText}
use Rattle.filter_program.specs.Program.{Source}
use Rattle.filter_program.specs.declared.fault.TextFault.{TextFault}
use Rattle.filter_program.specs.declared.fault.TextFault.TheVariants.{OutOfMemory}
use Rattle.c_calls.specs.Answer.{AnswersText, AnswersVerifying, GivesProgram, IsProgramOf, gives, refuses, text_answer, wants}
use Rattle.c_calls.specs.Outcome.{AnswersRun}
use Rattle.c_calls.specs.Outcome as outcome
use Rattle.c_calls.specs.declared.answer.Answer.{Answer}
use Rattle.c_calls.specs.declared.outcome.Outcome.{Outcome}

-- a text is answered by what was made of it
pub answers_text : (source : Source) (made : Result ProgramValue TextFault) (before after : List ℕ) (answer : Answer) → IfOk made (IsProgramOf source)
    → IfErr made (λ fault. (fault ≡ OutOfMemory) ⊎ IsFaultOfText source fault) → GivesProgram made before after answer → AnswersText source before after answer
answers_text source (Ok program) before after answer is found given = gives program is given
answers_text source (Err fault) before after answer is (inl memory) given = wants given.0 (given.1 ∙ ap text_answer memory)
answers_text source (Err fault) before after answer is (inr found) given = refuses fault found given.0 given.1

-- words that are refused are not run
pub not_run : (words packet : List ℕ) (kept : Outcome) (answer : Answer) → length packet ≤ 65535 → ¬ (answer.fault ≡ 0) → AnswersVerifying words answer
    → AnswersRun words packet kept kept answer
not_run words packet kept answer short refused (inl accepted) = absurd (refused (ap (λ a. a.fault) accepted.1))
not_run words packet kept answer short refused (inr found) = outcome.refuses short found.0 found.1 refl found.2
