-- What a group keeps counted of its programs and members.
use Rattle.std.specs.Prelude.{◌≡◌, ◌+◌, ◌*◌, ◌^◌, ◌<◌, ◌≤◌, length, ℕ}
use Rattle.std.specs.List.{sum_by}
use Rattle.bpf_verify.specs.declared.TheConstants.{MAX_INSTRUCTIONS}
use Rattle.bpf_verify.specs.Program.{ProgramValue}
use Rattle.member_group.specs.declared.TheConstants.{MEMBER_LIMIT}
use Rattle.member_group.specs.Charge.{charge_of_group, programs_of_group}
use Rattle.member_group.specs.Group.{GroupOf}

-- the group's charge, and how many words its programs have
pub record IsCounted (group : GroupOf ProgramValue) (charge words : ℕ) : Type 0 where
  pub charged : charge ≡ charge_of_group group
  pub charge_limited : charge < 2 ^ 32
  pub counted : words ≡ sum_by (λ program. length program.words) (programs_of_group group)
  pub words_limited : words ≤ (1 + MEMBER_LIMIT) * MAX_INSTRUCTIONS
