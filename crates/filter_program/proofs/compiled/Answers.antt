use Rattle.filter_program.specs.Fault.{IsExpressionFault}
use Rattle.filter_program.specs.Program.{IsProgramOfExpression, expression, of_tree}
use Rattle.filter_program.proofs.ResultLemmas.{fault_or_memory, program_or_memory}
use Rattle.filter_program.proofs.compiled.Goals as goal

pub returns-clause-every_program : goal.returns-clause-every_program
returns-clause-every_program c =
    λ tree is. program_or_memory (IsExpressionFault c.args.text.now) c.program_of_expression.result c.program_of_expression.ensures.fault
    (λ fault. c.one_meaning.ensures.not_both (expression c.args.text.now) (of_tree tree) fault is)

pub returns-clause-every_fault : goal.returns-clause-every_fault
returns-clause-every_fault c =
    λ fault is. fault_or_memory (IsProgramOfExpression c.args.text.now) (IsExpressionFault c.args.text.now) c.program_of_expression.result c.program_of_expression.ensures.program c.program_of_expression.ensures.fault fault
    (λ program made. c.one_meaning.ensures.not_both (expression c.args.text.now) (of_tree made.tree) fault made.compilable is)
    (λ other also. c.one_meaning.ensures.one_fault (expression c.args.text.now) other fault also is)
