-- Commands appended to those that a list has, and members and programs by their words.
use Rattle.std.specs.Prelude.{◌≡◌, ◌++◌, List, Option, option_map, ℕ}
use Rattle.std.specs.Borrow.{Bor}
use Rattle.bpf_verify.specs.Program.{ProgramValue}
use Rattle.member_group.specs.declared.command.Command.{Command}
use Rattle.member_group.specs.declared.member.Member.{Member}
use Rattle.member_group.specs.Group.{GroupOf}
use Rattle.member_group.specs.Over.{group_over, member_over}
use Rattle.config_diff.specs.Words.{words_of_commands}

abbrev pub words_group : GroupOf ProgramValue → GroupOf (List ℕ)
words_group group = group_over (λ program. program.words) group

abbrev pub words_member : Member ProgramValue → Member (List ℕ)
words_member member = member_over (λ program. program.words) member

abbrev pub words_program : Option (Bor ProgramValue) → Option (List ℕ)
words_program program = option_map (λ lent. lent.now.words) program

-- a list has these commands more
pub record HasMore (old new : List (Command (Bor ProgramValue))) (commands : List (Command (List ℕ))) : Type 0 where
  pub more : words_of_commands new ≡ words_of_commands old ++ commands
