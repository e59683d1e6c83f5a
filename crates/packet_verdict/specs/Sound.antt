-- The programs of a configuration never get stuck (docs/SWITCH.md, "Verdicts").
use Rattle.std.specs.Prelude.{◌≡◌, List, Some, ℕ}
use Rattle.bpf_machine.specs.Meaning.{IsSound}
use Rattle.bpf_verify.specs.Program.{ProgramValue}
use Rattle.config_image.specs.Image.{Group}
use Rattle.config_image.specs.Lookup.{HasGroup, HasMember}
use Rattle.member_group.specs.declared.member.Member.{Member}

-- on this packet each selector and each filter of the configuration returns a number, after at most as many instructions as it
-- has
pub record ProgramsAreSound (config : List Group) (packet : List ℕ) : Type 0 where
  pub selectors : (index : ℕ) (group : Group) (program : ProgramValue) → HasGroup config index group → group.selector ≡ Some program →
      IsSound program.words packet
  pub filters : (group index : ℕ) (member : Member ProgramValue) (program : ProgramValue) → HasMember config group index member →
      member.filter ≡ Some program → IsSound program.words packet
