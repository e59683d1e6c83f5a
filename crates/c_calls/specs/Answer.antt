-- The result of a call from C: a list in the caller's buffer, or a fault as a number (include/dswitch.h).
use Rattle.std.specs.Prelude.{◌≡◌, ◌+◌, ◌*◌, ◌<◌, ◌≤◌, ◌⊎◌, ◌++◌, Err, List, Ok, Result, drop, length, unwrap_or, ℕ}
use Rattle.bpf_asm.specs.Text.{printed}
use Rattle.bpf_verify.specs.Accepted.{IsAccepted}
use Rattle.bpf_verify.specs.Code.{verify_code}
use Rattle.bpf_verify.specs.Fault.{IsFirstFault}
use Rattle.bpf_verify.specs.Program.{ProgramValue}
use Rattle.bpf_verify.specs.declared.fault.Fault.{Fault}
use Rattle.fault_code.specs.declared.Code.{Code}
use Rattle.filter_program.specs.Code.{text_code}
use Rattle.filter_program.specs.Fault.{IsFaultOfText}
use Rattle.filter_program.specs.Program.{IsProgramOfAssembly, IsProgramOfExpression, Source, assembly, expression}
use Rattle.filter_program.specs.declared.fault.TextFault.{TextFault}
use Rattle.filter_program.specs.declared.fault.TextFault.TheVariants.{OutOfMemory}
use Rattle.c_calls.specs.declared.answer.Answer.{Answer}

-- a program with this charge, and so many words or bytes
abbrev pub done : ℕ → ℕ → Answer
done charge count = record { fault = 0; charge = charge; number = count }

-- the same, for which the buffer has no room
abbrev pub wanting : ℕ → ℕ → Answer
wanting charge count = record { fault = 2; charge = charge; number = count }

-- a fault, and its line, place or pc, or 0 if it has none
abbrev pub refused : ℕ → ℕ → Answer
refused fault place = record { fault = fault; charge = 0; number = place }

abbrev pub no_memory : Answer
no_memory = refused 1 0

-- ---- faults

-- the letter of the code times 256 and its number; and the line, place or pc
abbrev pub code_answer : Code → Answer
code_answer code = refused (code.letter * 256 + code.number) (unwrap_or code.place 0)

abbrev pub words_answer : Fault → Answer
words_answer fault = code_answer (verify_code fault)

abbrev pub text_answer : TextFault → Answer
text_answer OutOfMemory = no_memory
text_answer fault = code_answer (text_code fault)

-- ---- what is copied

-- the list is in the front of the buffer, and the bytes after it are as they were
pub record IsGiven {T : Type 0} (list : List T) (charge : ℕ) (before after : List T) (answer : Answer) : Type 0 where
  pub room : length list ≤ length before
  pub written : after ≡ list ++ drop (length list) before
  pub answer_is : answer ≡ done charge (length list)

-- the buffer has no room for it, and is as it was
pub record IsNotGiven {T : Type 0} (list : List T) (charge : ℕ) (before after : List T) (answer : Answer) : Type 0 where
  pub no_room : length before < length list
  pub kept : after ≡ before
  pub answer_is : answer ≡ wanting charge (length list)

abbrev pub Gives : {T : Type 0} → List T → ℕ → List T → List T → Answer → Type 0
Gives list charge before after answer = IsGiven list charge before after answer ⊎ IsNotGiven list charge before after answer

-- the program that was made is copied, or its fault is returned
abbrev pub GivesProgram : Result ProgramValue TextFault → List ℕ → List ℕ → Answer → Type 0
GivesProgram (Ok program) before after answer = Gives program.words program.charge before after answer
GivesProgram (Err fault) before after answer = (after ≡ before) × (answer ≡ text_answer fault)

-- there is a program, whether the buffer had room for what was asked for or not
abbrev pub HasProgram : Answer → Type 0
HasProgram answer = (answer.fault ≡ 0) ⊎ (answer.fault ≡ 2)

-- ---- the calls

-- the words are a program, or the result has their first fault
abbrev pub AnswersVerifying : List ℕ → Answer → Type 0
AnswersVerifying words answer =
    (IsAccepted words × (answer ≡ done (length words) (length words)))
    ⊎ ((fault : Fault) × IsFirstFault words fault × (answer ≡ words_answer fault))

-- a program that is made of the text
abbrev pub IsProgramOf : Source → ProgramValue → Type 0
IsProgramOf (assembly text) program = IsProgramOfAssembly text program
IsProgramOf (expression text) program = IsProgramOfExpression text program

-- a program of the text is copied, or the buffer is as it was and the result has the text's fault, or memory was refused
pub data AnswersText (source : Source) (before after : List ℕ) (answer : Answer) : Type 0 where
  gives : (program : ProgramValue) → IsProgramOf source program → Gives program.words program.charge before after answer → AnswersText source before after answer
  refuses : (fault : TextFault) → IsFaultOfText source fault → after ≡ before → answer ≡ text_answer fault → AnswersText source before after answer
  wants : after ≡ before → answer ≡ no_memory → AnswersText source before after answer

-- the text of the program is copied, or the buffer is as it was and the result has the words' first fault, or memory was refused
pub data AnswersPrinting (words before after : List ℕ) (answer : Answer) : Type 0 where
  gives : IsAccepted words → Gives (printed words) (length words) before after answer → AnswersPrinting words before after answer
  refuses : (fault : Fault) → IsFirstFault words fault → after ≡ before → answer ≡ words_answer fault → AnswersPrinting words before after answer
  wants : after ≡ before → answer ≡ no_memory → AnswersPrinting words before after answer
