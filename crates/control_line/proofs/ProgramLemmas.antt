-- The program that is made of a text agrees with the one that the text means.
use Rattle.std.proofs.Common.{List, refl, ℕ}
use Rattle.bpf_verify.specs.Program.{ProgramValue}
use Rattle.filter_program.specs.Program.{IsProgramOfAssembly, IsProgramOfExpression, assembly, expression, of_tree, of_words}
use Rattle.control_line.specs.body.Making.{IsMade}

pub made_of_assembly : (text : List ℕ) (program : ProgramValue) → IsProgramOfAssembly text program → IsMade (assembly text) program
made_of_assembly text program is = (
  record {
    loaded = record { text = of_words program.words; words = program.words };
    program = program;
    words = refl;
    charge = is.charge;
    ending = λ packet small. refl;
  },
  record { means = is.assembled; words = refl },
  refl,
)

pub made_of_expression : (text : List ℕ) (program : ProgramValue) → IsProgramOfExpression text program → IsMade (expression text) program
made_of_expression text program is = (
  record {
    loaded = record { text = of_tree is.tree; words = program.words };
    program = program;
    words = refl;
    charge = is.charge;
    ending = is.program_for.answers;
  },
  record { means = is.compilable; words = is.program_for },
  refl,
)
