use Rattle.filter_program.specs.Fault.{IsAssemblyFault}
use Rattle.filter_program.specs.Program.{IsProgramOfAssembly, assembly, of_words}
use Rattle.filter_program.proofs.ResultLemmas.{fault_or_memory, program_or_memory}
use Rattle.filter_program.proofs.assembled.Goals as goal

pub returns-clause-every_program : goal.returns-clause-every_program
returns-clause-every_program c =
    λ words is. program_or_memory (IsAssemblyFault c.args.text.now) c.program_of_assembly.result c.program_of_assembly.ensures.fault
    (λ fault. c.one_meaning.ensures.not_both (assembly c.args.text.now) (of_words words) fault is)

pub returns-clause-every_fault : goal.returns-clause-every_fault
returns-clause-every_fault c =
    λ fault is. fault_or_memory (IsProgramOfAssembly c.args.text.now) (IsAssemblyFault c.args.text.now) c.program_of_assembly.result c.program_of_assembly.ensures.program c.program_of_assembly.ensures.fault fault
    (λ program made. c.one_meaning.ensures.not_both (assembly c.args.text.now) (of_words program.words) fault made.assembled is)
    (λ other also. c.one_meaning.ensures.one_fault (assembly c.args.text.now) other fault also is)
