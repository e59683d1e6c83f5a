use Rattle.std.proofs.Common.{◌≡◌, ◌+◌, ◌*◌, ◌≤◌, drop, length}
use Rattle.bpf_verify.specs.declared.TheConstants.{MAX_INSTRUCTIONS}
use Rattle.member_group.specs.declared.TheConstants.{GROUP_LIMIT, GROUP_WORDS, HEAD_WORDS, MEMBER_LIMIT, MEMBER_WORDS}
use Rattle.member_group.specs.Charge.{members_of}
use Rattle.config_image.specs.Image.{program_words, programs_begin}
use Rattle.config_image.proofs.size.words_in.Given as goal

abbrev pub invariant-loop-group : goal.invariant-loop-group
invariant-loop-group g l =
    (l.len + (MEMBER_WORDS * members_of (drop l.group-index l.groups) + length (program_words (drop l.group-index l.groups))) ≡ programs_begin l.groups + length (program_words l.groups))
    × (l.len ≤ HEAD_WORDS + GROUP_WORDS * GROUP_LIMIT + l.group-index * (MEMBER_WORDS * MEMBER_LIMIT + (1 + MEMBER_LIMIT) * MAX_INSTRUCTIONS))
