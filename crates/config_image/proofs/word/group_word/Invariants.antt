use Rattle.std.proofs.Common.{◌≡◌, ◌+◌, ◌*◌, ◌≤◌, drop}
use Rattle.std.specs.List.{slice_get}
use Rattle.bpf_verify.specs.declared.TheConstants.{MAX_INSTRUCTIONS}
use Rattle.member_group.specs.declared.TheConstants.{GROUP_WORDS, MEMBER_LIMIT, MEMBER_WORDS}
use Rattle.config_image.specs.Image.{group_records}
use Rattle.config_image.proofs.word.group_word.Given as goal

abbrev pub invariant-loop-group : goal.invariant-loop-group
invariant-loop-group g l =
    (slice_get (group_records l.members l.place (drop l.group-index l.groups)) l.left ≡ slice_get (group_records l.fn.members_at l.fn.programs_at l.groups) l.fn.word)
    × (l.left + GROUP_WORDS * l.group-index ≡ l.fn.word)
    × (l.members ≤ l.fn.members_at + l.group-index * (MEMBER_WORDS * MEMBER_LIMIT))
    × (l.place ≤ l.fn.programs_at + l.group-index * ((1 + MEMBER_LIMIT) * MAX_INSTRUCTIONS))
