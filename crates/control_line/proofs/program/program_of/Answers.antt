use Rattle.control_line.proofs.ProgramLemmas.{made_of_assembly, made_of_expression}
use Rattle.control_line.proofs.program.program_of.Goals as goal

pub returns-in_ok-assembled-in-Assembly : goal.returns-in_ok-assembled-in-Assembly
returns-in_ok-assembled-in-Assembly c =
    rw c.in-Assembly.is (made_of_assembly c.in-Assembly.text.now c.in_ok-assembled-in-Assembly.field-0 c.in_ok-assembled-in-Assembly.ensures.program)

pub returns-in_ok-compiled-in-Expression : goal.returns-in_ok-compiled-in-Expression
returns-in_ok-compiled-in-Expression c =
    rw c.in-Expression.is (made_of_expression c.in-Expression.text.now c.in_ok-compiled-in-Expression.field-0 c.in_ok-compiled-in-Expression.ensures.program)
