-- Configurations and commands by the words of their programs. Two programs of the same words are the same program here,
-- whatever they are charged.
use Rattle.std.specs.Prelude.{List, map, ℕ}
use Rattle.std.specs.Borrow.{Bor}
use Rattle.bpf_verify.specs.Program.{ProgramValue}
use Rattle.member_group.specs.declared.command.Command.{Command}
use Rattle.member_group.specs.Group.{GroupOf}
use Rattle.member_group.specs.Over.{command_over, config_over}

-- a configuration, each program by its words
abbrev pub words_config : List (GroupOf ProgramValue) → List (GroupOf (List ℕ))
words_config config = config_over (λ program. program.words) config

-- commands that lend their programs, each by its words
abbrev pub words_of_commands : List (Command (Bor ProgramValue)) → List (Command (List ℕ))
words_of_commands commands = map (command_over (λ program. program.now.words)) commands
