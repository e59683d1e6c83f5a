-- The result of a run that C calls (include/dswitch.h).
use Rattle.std.specs.Prelude.{◌≡◌, ◌<◌, ◌≤◌, List, length, ℕ}
use Rattle.bpf_machine.specs.Meaning.{Ret, cost_of, ending_of}
use Rattle.bpf_verify.specs.Accepted.{IsAccepted}
use Rattle.bpf_verify.specs.Fault.{IsFirstFault}
use Rattle.bpf_verify.specs.declared.fault.Fault.{Fault}
use Rattle.c_calls.specs.Answer.{done, refused, words_answer}
use Rattle.c_calls.specs.declared.answer.Answer.{Answer}
use Rattle.c_calls.specs.declared.outcome.Outcome.{Outcome}

-- the value that the program ends with on the packet, and the instructions that it meets
pub record IsRun (words packet : List ℕ) (outcome : Outcome) : Type 0 where
  pub value : ending_of words packet ≡ Ret outcome.value
  pub steps : outcome.steps ≡ cost_of words packet

-- the packet is too long; else the words were run, or the result has their first fault. If nothing was run, the outcome is as it was
pub data AnswersRun (words packet : List ℕ) (before after : Outcome) (answer : Answer) : Type 0 where
  too_long : 65535 < length packet → after ≡ before → answer ≡ refused 3 0 → AnswersRun words packet before after answer
  ran : length packet ≤ 65535 → IsAccepted words → IsRun words packet after → answer ≡ done (length words) (length words) → AnswersRun words packet before after answer
  refuses : length packet ≤ 65535 → (fault : Fault) → IsFirstFault words fault → after ≡ before → answer ≡ words_answer fault → AnswersRun words packet before after answer
