use Rattle.std.proofs.Common.{◌≡◌, ◌+◌, ◌*◌, ◌<◌, ◌≤◌, drop}
use Rattle.std.specs.List.{slice_get}
use Rattle.bpf_verify.specs.declared.TheConstants.{MAX_INSTRUCTIONS}
use Rattle.member_group.specs.declared.TheConstants.{MEMBER_LIMIT, MEMBER_WORDS}
use Rattle.member_group.specs.Charge.{members_of}
use Rattle.config_image.specs.Image.{all_member_records}
use Rattle.config_image.proofs.word.members_word.Given as goal

abbrev pub invariant-loop-group : goal.invariant-loop-group
invariant-loop-group g l =
    (slice_get (all_member_records l.place (drop l.group-index l.groups)) l.left ≡ slice_get (all_member_records l.fn.programs_at l.groups) l.fn.word)
    × (l.left < MEMBER_WORDS * members_of (drop l.group-index l.groups))
    × (l.place ≤ l.fn.programs_at + l.group-index * ((1 + MEMBER_LIMIT) * MAX_INSTRUCTIONS))
