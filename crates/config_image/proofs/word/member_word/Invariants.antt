use Rattle.std.proofs.Common.{◌≡◌, ◌+◌, ◌*◌, ◌≤◌, drop}
use Rattle.std.specs.List.{slice_get}
use Rattle.bpf_verify.specs.declared.TheConstants.{MAX_INSTRUCTIONS}
use Rattle.member_group.specs.declared.TheConstants.{MEMBER_WORDS}
use Rattle.config_image.specs.Image.{member_records}
use Rattle.config_image.proofs.word.member_word.Given as goal

abbrev pub invariant-loop-member : goal.invariant-loop-member
invariant-loop-member g l =
    (slice_get (member_records l.place (drop l.member-index l.members)) l.left ≡ slice_get (member_records l.fn.filters_at l.members) l.fn.word)
    × (l.left + MEMBER_WORDS * l.member-index ≡ l.fn.word)
    × (l.place ≤ l.fn.filters_at + l.member-index * MAX_INSTRUCTIONS)
