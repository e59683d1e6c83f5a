use Rattle.std.proofs.Common.{◌≡◌, ◌+◌, ◌*◌, ◌≤◌, drop, length}
use Rattle.bpf_verify.specs.declared.TheConstants.{MAX_INSTRUCTIONS}
use Rattle.member_group.specs.declared.TheConstants.{MEMBER_LIMIT}
use Rattle.config_image.specs.Pooled.{pages_for, parts}
use Rattle.config_image.proofs.pages.pages_in.Given as goal

abbrev pub invariant-loop-group : goal.invariant-loop-group
invariant-loop-group g l =
    (l.pages + length (parts (drop l.group-index l.groups)) ≡ length (parts l.groups))
    × (l.pages ≤ l.group-index * ((1 + MEMBER_LIMIT) * pages_for MAX_INSTRUCTIONS))
